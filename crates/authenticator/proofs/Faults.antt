-- What a step's answer says of a change that it does not accept (document 02, request 2026-04): it
-- is the first fault that holds, it stands "beside the 709" and nowhere else, and "Replies on the
-- wire do not change": nothing of it is in the reply, nor in the next conversation.
-- Assumes nothing.
use Rattle.std.specs.Prelude.{Option}
use mathlib.Core.Bool.{Bool, true, false, cond}
use mathlib.Core.List.{List}
use mathlib.Core.Logic.{◌≢◌}
use mathlib.Core.Path.{◌≡◌, refl, sym, ap, ◌∙◌, subst}
use Prim.Native.Nat.{ℕ}
use native.Mathlib.Omega.{arith}
use borrow.Author.Tests.{eq-eqb, eqb-true}
use Rattle.accounts.specs.Account.{not_found, found, changed}
use Rattle.accounts.specs.declared.Lookup.{Lookup}
use Rattle.message.specs.Message.{text_of}
use Rattle.message.specs.Reasons.{changing_password}
use Rattle.packets.specs.Frame.{written_over}
use Rattle.packets.specs.Response.{read_response}
use Rattle.packets.specs.Change.{read_change}
use Rattle.packets.specs.ChangeOne.{read_change_one}
use Rattle.packets.specs.Reply.{failure_packet}
use Rattle.verify.specs.Faults.{fault_number, is_faultless}
use Rattle.verify.specs.Response.{response_reason}
use Rattle.verify.specs.Change.{checked_change}
use Rattle.verify.proofs.FirstFaultOne.{fault_one, first_fault_one_lem}
use Rattle.verify.specs.declared.ChangeVersion.{ChangeVersion}
use Rattle.verify.specs.declared.ChangeVersion.TheVariants.{One, Two}
use Rattle.verify.specs.FirstFault.{Holds, HoldsOne, IsFirst}
use Rattle.verify.specs.declared.ChangeFault.{ChangeFault}
use Rattle.verify.specs.Change.{CheckedChange}
use Rattle.verify.proofs.FirstFault.{first_fault_lem}
use Rattle.verify.proofs.Reasons.{response_not_changing}
use Rattle.authenticator.specs.Judge.{reason_of, judge_response, checked_for, judge_change}
use Rattle.authenticator.specs.Judge.{judge_in, judge}
use Rattle.authenticator.specs.Conversation.{ended}
use Rattle.authenticator.specs.Encode.{version}
use Rattle.authenticator.specs.Step.{Outcome, judged_as, step_fault, step}
use Rattle.authenticator.specs.declared.Conversation.{Conversation}
use Rattle.authenticator.specs.Judge.{Judgement}
use Rattle.authenticator.specs.Step.{Judged}
use Rattle.authenticator.specs.declared.Phase.{Phase}
use Rattle.authenticator.specs.declared.Phase.TheVariants.{Response, Change, Ended}
use Rattle.authenticator.specs.declared.Reply.TheVariants.{Success, Failure}
use Rattle.authenticator.proofs.Admitted.{Passes}
use Rattle.authenticator.proofs.Replies.{reason_of_reply}
use Rattle.authenticator.proofs.Steps.{Case, refused, repeated, judged, case_of, judged_step}
use Rattle.authenticator.proofs.Steps.{fault_step}

-- a change that is not accepted: all but the fault is the same for all of them
abbrev pub not_accepted : Conversation → Option ChangeFault → Judgement
not_accepted c fault =
    record {
      reply = Failure changing_password false;
      fault = fault;
      next = ended c;
      updated = not_found;
    }

module _ (c : Conversation) (p : List ℕ) (l : Lookup) where
  -- ---- a judgement

  -- of a change, by whether it is accepted
  abbrev chosen : CheckedChange → Bool → Judgement
  chosen v t =
      record {
        reply = cond t Success (Failure changing_password false);
        fault = v.fault;
        next = ended c;
        updated = cond t (found (changed c.kept v.nt v.lm)) not_found;
      }

  fault_judged : (ph : Phase) → fault_number (judge_in ph c p l).fault ≢ 0
      → judge_in ph c p l ≡ not_accepted c (judge_in ph c p l).fault
  unfolding judge_response judge_change
  fault_judged Response n = absurd (n refl)
  fault_judged Change n = which (is_faultless v.fault) refl
    where
      v : CheckedChange
      v = checked_for c.terms.change c p

      which : (t : Bool) → is_faultless v.fault ≡ t → chosen v t ≡ not_accepted c v.fault
      which true e = absurd (n (eqb-true (fault_number v.fault) 0 e))
      which false e = refl
  fault_judged Ended n = absurd (n refl)

  reply_fault : (ph : Phase) → reason_of (judge_in ph c p l).reply ≡ changing_password
      → fault_number (judge_in ph c p l).fault ≢ 0
  unfolding judge_response judge_change
  reply_fault Response e z =
      let reason = response_reason c.terms c.challenge l (read_response p) in
      response_not_changing c.terms c.challenge (read_response p) l
      (sym (reason_of_reply c reason) ∙ e)
  reply_fault Change e z =
      let v = checked_for c.terms.change c p in
      let success = ap (λ (t : Bool). reason_of (chosen v t).reply)
      (eq-eqb (fault_number v.fault) 0 z) in
      omega (arith, e, success)
  reply_fault Ended e z = omega (arith, e)

module _ (c : Conversation) (p : List ℕ) (l : Lookup) (b : List ℕ) where
  -- ---- "beside the 709"

  -- a step that tells a fault judged a change that is not accepted
  pub not_accepted_lem : step_fault c p b ≢ 0
      → step c p l b ≡ judged_as c (not_accepted c (step c p l b).answer.fault) b
  unfolding judge
  not_accepted_lem n = which (case_of c p l b)
    where
      fault : Outcome → ℕ
      fault o = fault_number o.answer.fault

      told : {o : Outcome} → step c p l b ≡ o → fault o ≢ 0
      told e z = n (sym (fault_step c p l b) ∙ ap fault e ∙ z)

      which : Case c p l b
          → step c p l b ≡ judged_as c (not_accepted c (step c p l b).answer.fault) b
      which (refused m e) = absurd (told e refl)
      which (repeated z r e) = absurd (told e refl)
      which (judged h e) =
          e ∙ ap (λ (j : Judgement). judged_as c j b) (fault_judged c p l c.phase (told e))
          ∙ ap (λ (o : Outcome). judged_as c (not_accepted c o.answer.fault) b) (sym e)

  -- so its reply is a 709 without a retry
  pub told_beside_709 : step_fault c p b ≢ 0
      → ((step c p l b).answer.kind ≡ Judged changing_password)
      × ((step c p l b).buffer
      ≡ written_over (failure_packet c.id (text_of changing_password 0 (version
      c.terms.change))) b)
  told_beside_709 n =
      let e = not_accepted_lem n in
      (ap (λ (o : Outcome). o.answer.kind) e, ap (λ (o : Outcome). o.buffer) e)

  -- and every 709 that is no repeat has one
  pub every_709_tells : (step c p l b).answer.kind ≡ Judged changing_password → step_fault c p b ≢ 0
  unfolding judge
  every_709_tells k = which (case_of c p l b)
    where
      other : {o : Outcome} → step c p l b ≡ o → o.answer.kind ≡ Judged changing_password
      other e = sym (ap (λ (o : Outcome). o.answer.kind) e) ∙ k

      which : Case c p l b → step_fault c p b ≢ 0
      which (refused n e) = absurd (let x = other e in let z : ◌≡◌ {A = ℕ} 0 1 = cc in omega arith)
      which (repeated z r e) =
          absurd (let x = other e in let z : ◌≡◌ {A = ℕ} 0 1 = cc in omega arith)
      which (judged h e) =
          let reason : reason_of (judge c p l).reply ≡ changing_password = (let x = other e in cc) in
          λ z. reply_fault c p l c.phase reason
          (sym (ap (λ (o : Outcome). fault_number o.answer.fault) e) ∙ fault_step c p l b ∙ z)

  -- ---- "the first that holds"

  -- what each fault says of the change that the terms name
  abbrev pub HoldsFor : ChangeVersion → Option ChangeFault → Type 0
  HoldsFor One x = HoldsOne c.terms c.kept c.challenge (read_change_one p) x
  HoldsFor Two x = Holds c.kept c.challenge (read_change p) x

  first_for : (v : ChangeVersion) → IsFirst (HoldsFor v) (checked_for v c p).fault
  unfolding checked_change
  first_for One =
      subst (IsFirst (HoldsFor One))
      (sym (fault_one c.terms c.kept c.challenge (read_change_one p)))
      (first_fault_one_lem c.terms c.kept c.challenge (read_change_one p))
  first_for Two = first_fault_lem c.kept c.challenge (read_change p)

  pub told_first : Passes c p b → c.phase ≡ Change
      → IsFirst (HoldsFor c.terms.change) (step c p l b).answer.fault
  unfolding judge judge_change
  told_first ok ph =
      subst (IsFirst (HoldsFor c.terms.change))
      (sym (ap (λ (o : Outcome). o.answer.fault) (judged_step c p l b ok)
      ∙ ap (λ (x : Phase). (judge_in x c p l).fault) ph))
      (first_for c.terms.change)

-- ---- "Replies on the wire do not change"

-- what a step leaves but for the fault
pub record Unseen (o w : Outcome) : Type 0 where
  pub kind : o.answer.kind ≡ w.answer.kind
  pub next : o.answer.next ≡ w.answer.next
  pub written : o.answer.written ≡ w.answer.written
  pub updated : o.answer.updated ≡ w.answer.updated
  pub buffer : o.buffer ≡ w.buffer

-- of two changes that are not accepted, whatever their faults are: the same octets now and, as the
-- next conversation is the same, the same octets to whatever comes later
pub fault_unseen : (c : Conversation) (p q : List ℕ) (l m : Lookup) (b : List ℕ)
    → step_fault c p b ≢ 0 → step_fault c q b ≢ 0 → Unseen (step c p l b) (step c q m b)
fault_unseen c p q l m b x y =
    let e = not_accepted_lem c p l b x in
    let f = not_accepted_lem c q m b y in
    record {
      kind =
          ap (λ (o : Outcome). o.answer.kind) e ∙ sym (ap (λ (o : Outcome). o.answer.kind) f);
      next =
          ap (λ (o : Outcome). o.answer.next) e ∙ sym (ap (λ (o : Outcome). o.answer.next) f);
      written =
          ap (λ (o : Outcome). o.answer.written) e
          ∙ sym (ap (λ (o : Outcome). o.answer.written) f);
      updated =
          ap (λ (o : Outcome). o.answer.updated) e
          ∙ sym (ap (λ (o : Outcome). o.answer.updated) f);
      buffer = ap (λ (o : Outcome). o.buffer) e ∙ sym (ap (λ (o : Outcome). o.buffer) f);
    }
