-- One step: it is refused, repeats the last answer or is judged, and which of the three its number
-- and the reply tell; what a refused packet and a repeat leave as it was.
-- Assumes nothing.
use mathlib.Core.Bool.{Bool, true, false, not, ◌&&◌, and-false, true≢false}
use mathlib.Core.List.{List}
use mathlib.Core.Logic.{◌≢◌}
use mathlib.Core.Path.{◌≡◌, refl, sym, ap, ◌∙◌}
use Prim.Native.Nat.{ℕ, ◌≤◌, ◌<◌}
use native.Mathlib.Omega.{arith}
use borrow.Author.Tests.{lt-ltb, ne_eqb, eq-eqb, eqb-true, eqb-false}
use lib.Dec.{eqb}
use lib.ListN.{length}
use Rattle.octets.proofs.Parts.{agrees_refl}
use Rattle.accounts.specs.declared.Lookup.{Lookup}
use Rattle.packets.proofs.Writing.{taken}
use Rattle.packets.specs.Frame.{octet}
use Rattle.packets.specs.Reply.{longest_reply}
use Rattle.authenticator.specs.Admit.{is_repeat, step_refusal}
use Rattle.verify.specs.Faults.{fault_number}
use Rattle.packets.specs.ChangeOne.{read_change_one}
use Rattle.verify.specs.Change.{checked_change}
use Rattle.verify.proofs.FirstFaultOne.{fault_one}
use Rattle.verify.specs.declared.ChangeVersion.{ChangeVersion}
use Rattle.verify.specs.declared.ChangeVersion.TheVariants.{One, Two}
use Rattle.authenticator.specs.Judge.{judge_response, checked_for, judge_change, judge_in, judge}
use Rattle.authenticator.specs.Encode.{reply_packet}
use Rattle.authenticator.specs.Step.{
  refusal_in,
  reason_in,
  is_repeated,
  Outcome,
  judged_as,
  repeated_as,
  refused_as,
  step_reason,
  step_repeats,
  fault_for,
  fault_in,
  step_fault,
  step,
}
use Rattle.authenticator.specs.Step.{kind_of}
use Rattle.authenticator.specs.declared.Drawn.{Drawn}
use Rattle.authenticator.specs.declared.Drawn.TheVariants as drawn
use Rattle.authenticator.specs.Steps.{StepInput, step_on, drew_reply, refusal_at}
use Rattle.authenticator.specs.Steps.{reply_of}
use Rattle.authenticator.specs.Step.{Answer}
use Rattle.authenticator.specs.declared.Conversation.{Conversation}
use Rattle.authenticator.specs.Judge.{Judgement}
use Rattle.authenticator.specs.declared.Phase.{Phase}
use Rattle.authenticator.specs.declared.Phase.TheVariants.{Response, Change, Ended}
use Rattle.authenticator.specs.declared.Reply.{Reply}
use Rattle.authenticator.proofs.Admitted.{Passes, passes, passed}
use Rattle.authenticator.proofs.Written.{reply_fits}

-- ---- refused, a repeat, or judged

-- the three cases of a step
pub data Case (c : Conversation) (p : List ℕ) (l : Lookup) (b : List ℕ) : Type 0 where
  refused : step_refusal c p b ≢ 0 → step c p l b ≡ refused_as (step_refusal c p b) c b → Case c p l b
  repeated : step_refusal c p b ≡ 0 → is_repeat c.last p ≡ true → step c p l b ≡ repeated_as c b
      → Case c p l b
  judged : Passes c p b → step c p l b ≡ judged_as c (judge c p l) b → Case c p l b

module _ (c : Conversation) (p : List ℕ) (l : Lookup) (b : List ℕ) where
  pub judged_step : Passes c p b → step c p l b ≡ judged_as c (judge c p l) b
  unfolding step
  judged_step h = rw (passes c p b h, h.fresh)

  pub repeated_step : step_refusal c p b ≡ 0 → is_repeat c.last p ≡ true
      → step c p l b ≡ repeated_as c b
  unfolding step
  repeated_step e r = rw (e, r)

  pub refused_step : step_refusal c p b ≢ 0 → step c p l b ≡ refused_as (step_refusal c p b) c b
  unfolding step
  refused_step n = rw (ne_eqb (step_refusal c p b) 0 n)

  pub case_of : Case c p l b
  case_of = which (eqb (step_refusal c p b) 0) (is_repeat c.last p) refl refl
    where
      which : (t u : Bool) → eqb (step_refusal c p b) 0 ≡ t → is_repeat c.last p ≡ u
          → Case c p l b
      which false u e r =
          let n = eqb-false (step_refusal c p b) 0 e in
          refused n (refused_step n)
      which true true e r =
          let z = eqb-true (step_refusal c p b) 0 e in
          repeated z r (repeated_step z r)
      which true false e r =
          let h = passed c p b (eqb-true (step_refusal c p b) 0 e) r in
          judged h (judged_step h)

  -- ---- its number, its reason, whether it is a repeat, and what is wrong with a change

  pub number_step : refusal_in (step c p l b).answer.kind ≡ step_refusal c p b
  number_step = which case_of
    where
      which : Case c p l b → refusal_in (step c p l b).answer.kind ≡ step_refusal c p b
      which (refused n e) = ap (λ (o : Outcome). refusal_in o.answer.kind) e
      which (repeated z r e) = ap (λ (o : Outcome). refusal_in o.answer.kind) e ∙ sym z
      which (judged h e) = ap (λ (o : Outcome). refusal_in o.answer.kind) e
          ∙ sym (passes c p b h)

  reason_step : reason_in (step c p l b).answer.kind ≡ step_reason c p l b
  unfolding step_reason
  reason_step = which case_of
    where
      which : Case c p l b → reason_in (step c p l b).answer.kind ≡ step_reason c p l b
      which (refused n e) =
          ap (λ (o : Outcome). reason_in o.answer.kind) e ∙ rw (ne_eqb (step_refusal c p b) 0 n)
      which (repeated z r e) = ap (λ (o : Outcome). reason_in o.answer.kind) e ∙ rw (z, r)
      which (judged h e) =
          ap (λ (o : Outcome). reason_in o.answer.kind) e ∙ rw (passes c p b h, h.fresh)

  pub repeats_step : is_repeated (step c p l b).answer.kind ≡ step_repeats c p b
  repeats_step = which case_of
    where
      which : Case c p l b → is_repeated (step c p l b).answer.kind ≡ step_repeats c p b
      which (refused n e) =
          ap (λ (o : Outcome). is_repeated o.answer.kind) e ∙ rw (ne_eqb (step_refusal c p b) 0 n)
      which (repeated z r e) = ap (λ (o : Outcome). is_repeated o.answer.kind) e ∙ rw (z, r)
      which (judged h e) =
          ap (λ (o : Outcome). is_repeated o.answer.kind) e
          ∙ sym (ap (λ (t : Bool). eqb (step_refusal c p b) 0 && t) h.fresh
          ∙ and-false (eqb (step_refusal c p b) 0))

  -- what is wrong with a change, where one is judged
  fault_for_lem : (v : ChangeVersion) → (checked_for v c p).fault ≡ fault_for v c p
  unfolding checked_change
  fault_for_lem One = fault_one c.terms c.kept c.challenge (read_change_one p)
  fault_for_lem Two = refl

  fault_judged : (ph : Phase) → fault_number (judge_in ph c p l).fault ≡ fault_in ph c p
  unfolding judge_response judge_change
  fault_judged Response = refl
  fault_judged Change = ap fault_number (fault_for_lem c.terms.change)
  fault_judged Ended = refl

  pub fault_step : fault_number (step c p l b).answer.fault ≡ step_fault c p b
  unfolding step_fault judge
  fault_step = which case_of
    where
      which : Case c p l b → fault_number (step c p l b).answer.fault ≡ step_fault c p b
      which (refused n e) =
          ap (λ (o : Outcome). fault_number o.answer.fault) e
          ∙ rw (ne_eqb (step_refusal c p b) 0 n)
      which (repeated z r e) =
          ap (λ (o : Outcome). fault_number o.answer.fault) e ∙ rw (z, r)
      which (judged h e) =
          ap (λ (o : Outcome). fault_number o.answer.fault) e ∙ fault_judged c.phase
          ∙ rw (passes c p b h, h.fresh)

  -- what an answer tells, where it is the step's
  pub told : {r : Answer} → r ≡ (step c p l b).answer
      → (refusal_in r.kind ≡ step_refusal c p b) × (reason_in r.kind ≡ step_reason c p l b)
      × (is_repeated r.kind ≡ step_repeats c p b) × (fault_number r.fault ≡ step_fault c p b)
  told e = (
    ap (λ (a : Answer). refusal_in a.kind) e ∙ number_step,
    ap (λ (a : Answer). reason_in a.kind) e ∙ reason_step,
    ap (λ (a : Answer). is_repeated a.kind) e ∙ repeats_step,
    ap (λ (a : Answer). fault_number a.fault) e ∙ fault_step,
  )

-- ---- what the kind tells of a step

module _ (c : Conversation) (p : List ℕ) (l : Lookup) (b : List ℕ) where
  pub kind_judged : refusal_in (step c p l b).answer.kind ≡ 0
      → is_repeated (step c p l b).answer.kind ≡ false → Passes c p b
  kind_judged z r = which (case_of c p l b)
    where
      which : Case c p l b → Passes c p b
      which (refused n e) = absurd (n (sym (number_step c p l b) ∙ z))
      which (repeated o y e) =
          absurd (true≢false (sym (ap (λ (x : Outcome). is_repeated x.answer.kind) e) ∙ r))
      which (judged h e) = h

  pub kind_repeated : is_repeated (step c p l b).answer.kind ≡ true
      → (step_refusal c p b ≡ 0) × (step c p l b ≡ repeated_as c b)
  kind_repeated r = which (case_of c p l b)
    where
      other : {o : Outcome} → step c p l b ≡ o → is_repeated o.answer.kind ≡ false → ⊥
      other e f = true≢false (sym r ∙ ap (λ (x : Outcome). is_repeated x.answer.kind) e ∙ f)

      which : Case c p l b → (step_refusal c p b ≡ 0) × (step c p l b ≡ repeated_as c b)
      which (refused n e) = absurd (other e refl)
      which (repeated z y e) = (z, e)
      which (judged h e) = absurd (other e refl)

-- ---- what is left as it was

-- a refused step leaves the conversation and the buffer as they were, writes nothing and updates no
-- record
pub refused_whole : (c : Conversation) (s : StepInput) → refusal_at step_on c s ≢ 0
    → step_on c s ≡ refused_as (refusal_at step_on c s) c s.buffer
refused_whole c s h =
    let n = number_step c s.packet s.account s.buffer in
    refused_step c s.packet s.account s.buffer (λ e. h (n ∙ e))
    ∙ ap (λ (k : ℕ). refused_as k c s.buffer) (sym n)

-- so a packet that drew a reply was not refused
pub drew_answered : (c : Conversation) (s : StepInput) {n : ℕ}
    → octet 0 (reply_of (step_on c s)) ≡ n → 0 < n → refusal_at step_on c s ≡ 0
drew_answered c s {n} e pos = which (eqb (refusal_at step_on c s) 0) refl
  where
    which : (t : Bool) → eqb (refusal_at step_on c s) 0 ≡ t → refusal_at step_on c s ≡ 0
    which true z = eqb-true (refusal_at step_on c s) 0 z
    which false z =
        let nothing = ap (λ (o : Outcome). octet 0 (reply_of o))
        (refused_whole c s (eqb-false (refusal_at step_on c s) 0 z)) in
        absurd (omega arith)

-- ---- the reply

-- a reader of what was written takes the packet
pub reply_of_lem : (c : Conversation) (j : Judgement) (b : List ℕ) → longest_reply ≤ length b
    → reply_of (judged_as c j b) ≡ reply_packet c.terms c.id j.reply
reply_of_lem c j b h =
    let fits = (reply_fits c.terms c.id j.reply).1 in
    taken (reply_packet c.terms c.id j.reply) b (omega arith)

pub repeated_reply : (c : Conversation) (b : List ℕ) → longest_reply ≤ length b
    → reply_of (repeated_as c b) ≡ reply_packet c.terms c.last.id c.last.reply
repeated_reply c b h =
    let fits = (reply_fits c.terms c.last.id c.last.reply).1 in
    taken (reply_packet c.terms c.last.id c.last.reply) b (omega arith)

-- a reply is drawn exactly where the step is not refused
module _ (c : Conversation) (s : StepInput) where
  drawn_as_lem : (o : Outcome) (id : ℕ) (reply : Reply)
      → o.answer.written ≡ length (reply_packet c.terms id reply) → drew_reply o s.buffer
      ≡ true
  drawn_as_lem o id reply e =
      let fits = (reply_fits c.terms id reply).0 in
      rw (lt-ltb 0 o.answer.written (omega (arith, e)))

  pub drew_judged : (j : Judgement) → drew_reply (judged_as c j s.buffer) s.buffer ≡ true
  drew_judged j = drawn_as_lem (judged_as c j s.buffer) c.id j.reply refl

  pub drew_exactly : eqb (refusal_at step_on c s) 0 ≡ drew_reply (step_on c s) s.buffer
  drew_exactly = which (case_of c s.packet s.account s.buffer)
    where
      number : refusal_at step_on c s ≡ step_refusal c s.packet s.buffer
      number = number_step c s.packet s.account s.buffer

      which : Case c s.packet s.account s.buffer
          → eqb (refusal_at step_on c s) 0 ≡ drew_reply (step_on c s) s.buffer
      which (refused n e) =
          ne_eqb _ 0 (λ z. n (sym number ∙ z))
          ∙ sym (ap (λ (o : Outcome). drew_reply o s.buffer) e ∙ ap not (agrees_refl s.buffer))
      which (repeated z r e) =
          eq-eqb _ 0 (number ∙ z)
          ∙ sym (ap (λ (o : Outcome). drew_reply o s.buffer) e
          ∙ drawn_as_lem (repeated_as c s.buffer) c.last.id c.last.reply refl)
      which (judged h e) =
          eq-eqb _ 0 (number ∙ passes c s.packet s.buffer h)
          ∙ sym (ap (λ (o : Outcome). drew_reply o s.buffer) e
          ∙ drew_judged (judge c s.packet s.account))

-- ---- what a packet draws that is not refused

pub drawn_told : (d : Drawn) → refusal_in (kind_of d) ≡ 0
drawn_told (drawn.Repeated e) = refl
drawn_told (drawn.Judged e) = refl
