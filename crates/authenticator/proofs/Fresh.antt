-- A conversation never awaits a packet with the identifier that it answered last: so the packet
-- that it awaits is never taken for a repeat, from the opening on and whatever packets came.
-- Assumes nothing.
use mathlib.Core.Bool.{Bool, true, false, cond, ◌&&◌, and-false, true≢false}
use mathlib.Core.List.{List}
use mathlib.Core.Logic.{◌≢◌}
use mathlib.Core.Path.{◌≡◌, refl, sym, ap, ◌∙◌, subst}
use Prim.Native.Nat.{ℕ}
use native.Mathlib.Omega.{arith}
use borrow.Author.Tests.{ne_eqb}
use lib.Dec.{eqb, ltb}
use Rattle.accounts.specs.Account.{entry_of}
use Rattle.accounts.specs.declared.Entry.{Entry}
use Rattle.accounts.specs.declared.Lookup.{Lookup}
use Rattle.challenges.specs.Challenges.{next_id}
use Rattle.message.specs.Reasons.{authentication_failure, password_expired}
use Rattle.packets.specs.Frame.{octet}
use Rattle.packets.specs.Response.{read_response}
use Rattle.packets.specs.declared.Response as responses
use Rattle.verify.specs.Response.{counted, response_reason}
use Rattle.authenticator.specs.Conversation.{
  is_ended,
  no_answer,
  ended,
  retried,
  awaiting_change,
}
use Rattle.authenticator.specs.Admit.{is_repeat}
use Rattle.authenticator.specs.Judge.{
  after_reason,
  judge_response,
  judge_change,
  judge_in,
  judge,
}
use Rattle.authenticator.specs.Step.{Outcome}
use Rattle.authenticator.specs.Steps.{StepInput, step_on, next_after}
use Rattle.authenticator.specs.declared.Conversation.{Conversation}
use Rattle.authenticator.specs.declared.LastAnswer.{LastAnswer}
use Rattle.authenticator.specs.declared.Phase.{Phase}
use Rattle.authenticator.specs.declared.Phase.TheVariants.{Response, Change, Ended}
use Rattle.authenticator.proofs.Steps.{Case, refused, repeated, judged, case_of}

-- while a packet is awaited, the last answer's identifier is another
abbrev pub Fresh : Conversation → Type 0
Fresh c = is_ended c.phase ≡ false → (c.last.present && eqb c.id c.last.id) ≡ false

pub fresh_first : (c : Conversation) → c.last ≡ no_answer → Fresh c
fresh_first c e live = ap (λ (l : LastAnswer). l.present && eqb c.id l.id) e

-- so a packet with the awaited identifier is no repeat
pub new_packet : (c : Conversation) (p : List ℕ) → Fresh c → is_ended c.phase ≡ false
    → octet 1 p ≡ c.id → is_repeat c.last p ≡ false
new_packet c p fresh live id =
    which c.last.present (eqb (octet 0 p) c.last.code) (eqb (octet 1 p) c.last.id)
    (ap (λ (i : ℕ). c.last.present && eqb i c.last.id) id ∙ fresh live)
  where
    which : (t u v : Bool) → (t && v) ≡ false → (t && (u && v)) ≡ false
    which true u v e = ap (λ (x : Bool). u && x) e ∙ and-false u
    which false u v e = refl

-- ---- every step leaves it so

next_differs : (i : ℕ) → next_id i ≢ i
next_differs i e = omega (arith, e)

-- where a judged packet leaves another to be awaited, it is the one with the next identifier
module _ (c : Conversation) where
  after_next : (a : Entry) (e : ℕ) → is_ended (after_reason c a e).phase ≡ false
      → (after_reason c a e).id ≡ next_id c.id
  after_next a e = which (eqb e authentication_failure && ltb 0 c.retries) (eqb e password_expired)
    where
      which : (t u : Bool)
          → is_ended (cond t (retried c) (cond u (awaiting_change c a) (ended c))).phase ≡ false
          → (cond t (retried c) (cond u (awaiting_change c a) (ended c))).id ≡ next_id c.id
      which true u live = refl
      which false true live = refl
      which false false live = absurd (true≢false live)

  response_next : (l : Lookup) (f : responses.Response)
      → is_ended (judge_response c l f).next.phase ≡ false
      → (judge_response c l f).next.id ≡ next_id c.id
  unfolding judge_response
  response_next l f = after_next (entry_of (counted c.terms c.challenge l.account f))
      (response_reason c.terms c.challenge l f)

  change_ends : (p : List ℕ) → is_ended (judge_change c p).next.phase ≡ true
  unfolding judge_change
  change_ends p = refl

  phase_next : (ph : Phase) (p : List ℕ) (l : Lookup) → is_ended ph ≡ false
      → is_ended (judge_in ph c p l).next.phase ≡ false
      → (judge_in ph c p l).next.id ≡ next_id c.id
  phase_next Response p l live next = response_next l (read_response p) next
  phase_next Change p l live next =
      absurd (true≢false (sym (change_ends p) ∙ next))
  phase_next Ended p l live next = absurd (true≢false live)

  judge_next : (p : List ℕ) (l : Lookup) → is_ended c.phase ≡ false
      → is_ended (judge c p l).next.phase ≡ false → (judge c p l).next.id ≡ next_id c.id
  unfolding judge
  judge_next p l = phase_next c.phase p l

pub fresh_next : (c : Conversation) (s : StepInput) → Fresh c → Fresh (next_after step_on c s)
fresh_next c s fresh = which (case_of c s.packet s.account s.buffer)
  where
    which : Case c s.packet s.account s.buffer → Fresh (next_after step_on c s)
    which (refused n e) = subst (λ (o : Outcome). Fresh o.answer.next) (sym e) fresh
    which (repeated z r e) = subst (λ (o : Outcome). Fresh o.answer.next) (sym e) fresh
    which (judged h e) =
        subst (λ (o : Outcome). Fresh o.answer.next) (sym e)
        (λ live. ap (λ (i : ℕ). eqb i c.id) (judge_next c s.packet s.account
        h.live live)
        ∙ ne_eqb (next_id c.id) c.id (next_differs c.id))
