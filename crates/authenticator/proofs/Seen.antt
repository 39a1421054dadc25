-- Our box, as a series sees it from outside: what it keeps of its last answer is what is seen of
-- it, from the opening on. So what is claimed of any step at all holds of it.
-- Assumes nothing.
use mathlib.Core.Bool.{Bool, true, false, cond, not, ◌&&◌, and-false, false≢true}
use mathlib.Core.List.{List}
use mathlib.Core.Logic.{inl, inr}
use mathlib.Core.Option.{Option, none, some}
use mathlib.Core.Path.{◌≡◌, refl, sym, ap, ap₂, ◌∙◌}
use Prim.Native.Nat.{ℕ}
use native.Mathlib.Omega.{arith}
use borrow.Author.Tests.{eq-eqb, ne_eqb}
use lib.Dec.{eqb}
use lib.ListN.{length}
use Rattle.packets.specs.Frame.{octet, written_over}
use Rattle.packets.specs.Codes.{response_code}
use Rattle.packets.specs.Response.{read_response}
use Rattle.accounts.specs.Account.{found, lookup_of}
use Rattle.accounts.specs.declared.Lookup.{Lookup}
use Rattle.verify.specs.Response.{counted, counted_lookup}
use Rattle.authenticator.specs.Conversation.{no_answer, awaited_code}
use Rattle.authenticator.specs.Admit.{is_repeat, refusal_for, step_refusal}
use Rattle.authenticator.specs.Judge.{judge_response, judge_in, judge}
use Rattle.authenticator.specs.Encode.{reply_packet}
use Rattle.authenticator.specs.Step.{Outcome, judged_as, step_repeats}
use Rattle.authenticator.specs.Steps.{
  StepInput,
  step_on,
  reply_of,
  AnsweredPacket,
  BoxState,
  unanswered,
}
use Rattle.authenticator.specs.Steps.{repeats_answered, is_repeat_at, ruled_refusal, next_after}
use Rattle.authenticator.specs.Steps.{is_judged, judged, next_state, NotJudged, StepClaim}
use Rattle.authenticator.specs.declared.Conversation.{Conversation}
use Rattle.authenticator.specs.declared.LastAnswer.{LastAnswer}
use Rattle.authenticator.specs.declared.Phase.{Phase}
use Rattle.authenticator.specs.declared.Phase.TheVariants.{Response, Change, Ended}
use Rattle.authenticator.proofs.Admitted.{Passes, passes, repeat_seen}
use Rattle.verify.specs.declared.ChangeVersion.{ChangeVersion}
use Rattle.verify.specs.declared.ChangeVersion.TheVariants.{One, Two}
use Rattle.verify.specs.declared.Terms.{Terms}
use Rattle.authenticator.proofs.Terms.{step_keeps_terms}
use Rattle.authenticator.proofs.Steps as steps
use Rattle.authenticator.proofs.Steps.{
  Case,
  case_of,
  number_step,
  repeats_step,
  drew_exactly,
  reply_of_lem,
}

-- ---- what is kept and what is seen

-- what is seen of an answer that is kept
abbrev pub seen_of : Terms → LastAnswer → Option AnsweredPacket
seen_of t last =
    cond last.present
    (some (record {
      code = last.code;
      id = last.id;
      reply = reply_packet t last.id last.reply;
    }))
    none

-- the box keeps what is seen
abbrev pub Tracks : BoxState → Type 0
Tracks p = p.answered ≡ seen_of p.conversation.terms p.conversation.last

same_repeat : (u : Terms) (last : LastAnswer) (p : List ℕ)
    → repeats_answered (seen_of u last) p ≡ is_repeat last p
same_repeat u last p = which last.present refl
  where
    which : (t : Bool) → last.present ≡ t → repeats_answered (seen_of u last) p ≡ is_repeat last p
    which true e = rw e
    which false e = rw e

-- a packet with a Response's code is awaited by that phase alone
pub response_phase : (v : ChangeVersion) (ph : Phase) → awaited_code v ph ≡ response_code
    → ph ≡ Response
response_phase v Response e = refl
response_phase One Change e = absurd (omega (arith, e))
response_phase Two Change e = absurd (omega (arith, e))
response_phase v Ended e = absurd (omega (arith, e))

-- ---- a step of our box

-- it is judged, or it leaves all that is seen as it was
pub data Seen (p : BoxState) (s : StepInput) : Type 0 where
  unjudged : is_judged step_on p s ≡ false → next_after step_on p.conversation s ≡ p.conversation
      → (step_on p.conversation s).answer.updated.found ≡ false → Seen p s
  judged_now : is_judged step_on p s ≡ true → Passes p.conversation s.packet s.buffer
      → step_on p.conversation s
      ≡ judged_as p.conversation (judge p.conversation s.packet s.account) s.buffer
      → Seen p s

module _ (p : BoxState) (s : StepInput) (kept : Tracks p) where
  abbrev c : Conversation
  c = p.conversation

  repeats_kept : repeats_answered p.answered s.packet ≡ is_repeat c.last s.packet
  repeats_kept = ap (λ (a : Option AnsweredPacket). repeats_answered a s.packet) kept
      ∙ same_repeat c.terms c.last s.packet

  -- the rules refuse what our box refuses
  ruled_refusal_lem : ruled_refusal p s ≡ step_refusal c s.packet s.buffer
  ruled_refusal_lem = ap (λ (t : Bool). refusal_for t c s.packet s.buffer) repeats_kept

  pub repeat_at : is_repeat_at p s ≡ step_repeats c s.packet s.buffer
  repeat_at =
      repeat_seen c s.packet s.buffer (repeats_answered p.answered s.packet)
      ∙ ap₂ (λ (n : ℕ) (t : Bool). eqb n 0 && t) ruled_refusal_lem repeats_kept

  -- a packet is judged exactly when it draws a reply that is no repeat: one that the box neither
  -- refuses nor repeats
  pub judged_exactly : is_judged step_on p s
      ≡ (eqb (step_refusal c s.packet s.buffer) 0
      && not (step_repeats c s.packet s.buffer))
  judged_exactly =
      ap₂ (λ (t u : Bool). t && not u)
      (sym (drew_exactly c s)
      ∙ ap (λ (n : ℕ). eqb n 0) (number_step c s.packet s.account s.buffer))
      repeat_at

  pub seen : Seen p s
  seen = which (case_of c s.packet s.account s.buffer)
    where
      which : Case c s.packet s.account s.buffer → Seen p s
      which (steps.refused n e) =
          unjudged (judged_exactly ∙ rw (ne_eqb (step_refusal c s.packet s.buffer) 0 n))
          (ap (λ (o : Outcome). o.answer.next) e)
          (ap (λ (o : Outcome). o.answer.updated.found) e)
      which (steps.repeated z r e) =
          unjudged (judged_exactly ∙ rw (z, r)) (ap (λ (o : Outcome). o.answer.next) e)
          (ap (λ (o : Outcome). o.answer.updated.found) e)
      which (steps.judged h e) =
          judged_now (judged_exactly ∙ rw (passes c s.packet s.buffer h, h.fresh)) h e

  -- a packet that is passed as refused or as a repeat is one
  pub not_judged_lem : NotJudged step_on p s → is_judged step_on p s ≡ false
  not_judged_lem (inl z) = which (is_judged step_on p s) z
    where
      which : (t : Bool) → ◌≡◌ {A = ℕ} (cond t 1 0) 0 → t ≡ false
      which true e = absurd (omega arith)
      which false e = refl
  not_judged_lem (inr n) = judged_exactly ∙ rw (ne_eqb (step_refusal c s.packet s.buffer) 0
      (λ z. n (ruled_refusal_lem ∙ z)))

  -- ---- what is kept goes on being what is seen

  pub tracks_next : Tracks (next_state step_on p s)
  tracks_next = which seen
    where
      answered : List ℕ → Option AnsweredPacket
      answered reply = some (record {
        code = octet 0 s.packet;
        id = octet 1
            s.packet;
        reply = reply;
      })

      which : Seen p s → Tracks (next_state step_on p s)
      which (unjudged z e u) =
          ap (λ (t : Bool). cond t (answered (reply_of (step_on c s))) p.answered) z
          ∙ kept ∙ ap (λ (x : Conversation). seen_of x.terms x.last) (sym e)
      which (judged_now y h e) =
          let reply = reply_packet c.terms c.id (judge c s.packet s.account).reply in
          let taken = ap reply_of e ∙ reply_of_lem c (judge c s.packet s.account) s.buffer
          h.readable.room in
          ap (λ (t : Bool). cond t (answered (reply_of (step_on c s))) p.answered) y
          ∙ ap answered taken
          ∙ ap₂ (λ (code id : ℕ). some (record { code = code; id = id; reply = reply })) h.code
          h.id
          ∙ sym (ap₂ seen_of (step_keeps_terms c s) (ap (λ (o : Outcome). o.answer.next.last) e))

  -- ---- what is claimed of any step

  -- the answer that is kept is the one that is seen
  kept_answer : (a : AnsweredPacket) → p.answered ≡ some a
      → reply_packet c.terms c.last.id c.last.reply ≡ a.reply
  kept_answer a e = which c.last.present (sym kept ∙ e)
    where
      reply : Option AnsweredPacket → List ℕ
      reply none = reply_packet c.terms c.last.id c.last.reply
      reply (some x) = x.reply

      which : (t : Bool)
          → cond t (some (record {
            code = c.last.code;
            id = c.last.id;
            reply = reply_packet
                c.terms c.last.id c.last.reply;
          })) none ≡ some a
          → reply_packet c.terms c.last.id c.last.reply ≡ a.reply
      which true h = ap reply h
      which false h = ap reply h

  same_reply_lem : (a : AnsweredPacket) → p.answered ≡ some a → is_repeat_at p s ≡ true
      → ((step_on c s).answer.written ≡ length a.reply)
      × ((step_on c s).buffer ≡ written_over a.reply s.buffer)
  same_reply_lem a e r = which (case_of c s.packet s.account s.buffer)
    where
      repeats_now : step_repeats c s.packet s.buffer ≡ true
      repeats_now = sym repeat_at ∙ r

      which : Case c s.packet s.account s.buffer
          → ((step_on c s).answer.written ≡ length a.reply)
          × ((step_on c s).buffer ≡ written_over a.reply s.buffer)
      which (steps.refused n o) =
          absurd (false≢true (sym (rw (ne_eqb (step_refusal c s.packet s.buffer) 0 n))
          ∙ repeats_now))
      which (steps.repeated z q o) = (
        ap (λ (x : Outcome). x.answer.written) o ∙ ap length (kept_answer a e),
        ap (λ (x : Outcome). x.buffer) o ∙ ap (λ (x : List ℕ). written_over x s.buffer)
            (kept_answer a e),
      )
      which (steps.judged h o) =
          absurd (false≢true (sym (and-false (eqb (step_refusal c s.packet s.buffer) 0))
          ∙ sym (ap (λ (t : Bool). eqb (step_refusal c s.packet s.buffer) 0 && t) h.fresh)
          ∙ repeats_now))

  -- the record that is handed out after a Response
  hands_out : is_judged step_on p s ≡ true → octet 0 s.packet ≡ response_code
      → (step_on c s).answer.updated ≡ counted_lookup c.terms c.challenge s.account
      (read_response s.packet)
  unfolding judge judge_response
  hands_out y code = which seen
    where
      which : Seen p s → (step_on c s).answer.updated
          ≡ counted_lookup c.terms c.challenge s.account (read_response s.packet)
      which (unjudged z e u) = absurd (false≢true (sym z ∙ y))
      which (judged_now _ h e) =
          ap (λ (o : Outcome). o.answer.updated) e
          ∙ ap (λ (ph : Phase). (judge_in ph c s.packet s.account).updated)
          (response_phase c.terms.change c.phase (sym h.code ∙ code))

  -- of a record that was found, and of none
  hands_out_found : is_judged step_on p s ≡ true → octet 0 s.packet ≡ response_code
      → (s.account.found ≡ true → (step_on c s).answer.updated
      ≡ found (counted c.terms c.challenge s.account.account
      (read_response s.packet)))
      × (s.account.found ≡ false → (step_on c s).answer.updated.found ≡ false)
  hands_out_found y code = (
    λ f. hands_out y code
        ∙ ap (λ (t : Bool). lookup_of t (counted c.terms c.challenge s.account.account
        (read_response s.packet))) f,
    λ f. ap (λ (l : Lookup). l.found) (hands_out y code) ∙ f,
  )

  -- what the rules neither refuse nor take for a repeat
  takes_all : ruled_refusal p s ≡ 0 → is_repeat_at p s ≡ false → is_judged step_on p s ≡ true
  takes_all z r =
      judged_exactly
      ∙ ap₂ (λ (t u : Bool). t && not u)
      (eq-eqb (step_refusal c s.packet s.buffer) 0 (sym ruled_refusal_lem ∙ z))
      (sym repeat_at ∙ r)

  pub step_claim : StepClaim step_on p s
  step_claim =
      record {
        leaves = λ z. which seen z;
        same_reply = same_reply_lem;
        says_refused = drew_exactly c s;
        says_repeated = repeats_step c s.packet s.account s.buffer ∙ sym repeat_at;
        takes = takes_all;
        hands_out = hands_out_found;
        keeps_terms = step_keeps_terms c s;
      }
    where
      which : Seen p s → judged step_on p s ≡ 0
          → (next_after step_on c s ≡ c) × ((step_on c s).answer.updated.found ≡ false)
      which (unjudged z e u) n = (e, u)
      which (judged_now y h e) n =
          absurd (omega (arith, n, ap (λ (t : Bool). cond {A = ℕ} t 1 0) y))

-- ---- after the opening

pub unanswered_tracks : (c : Conversation) → c.last ≡ no_answer → Tracks (unanswered c)
unanswered_tracks c e = sym (ap (seen_of c.terms) e)
