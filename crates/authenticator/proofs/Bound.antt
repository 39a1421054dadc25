-- How many packets a conversation can still judge: each judged packet lowers it, and no step raises
-- it, a repeat or another. So of any steps at all the authenticator judges at most r + 2.
-- Assumes nothing.
use mathlib.Core.Bool.{Bool, true, false, cond, ◌&&◌}
use mathlib.Core.List.{List}
use mathlib.Core.Path.{◌≡◌, refl, sym, ap, subst}
use Prim.Native.Nat.{ℕ, ◌+◌, ◌≤◌, ◌<◌}
use native.Mathlib.Omega.{arith}
use borrow.Author.Tests.{ltb-true}
use lib.Dec.{eqb, ltb}
use Rattle.packets.specs.Response.{read_response}
use Rattle.packets.specs.declared.Response as responses
use Rattle.accounts.specs.Account.{entry_of}
use Rattle.accounts.specs.declared.Entry.{Entry}
use Rattle.accounts.specs.declared.Lookup.{Lookup}
use Rattle.message.specs.Reasons.{authentication_failure, password_expired}
use Rattle.verify.specs.Response.{counted, response_reason}
use Rattle.authenticator.specs.Conversation.{is_ended, ended, retried, awaiting_change}
use Rattle.authenticator.specs.Opening.{Opening, retries_of, first_conversation}
use Rattle.authenticator.specs.Judge.{
  after_reason,
  judge_response,
  judge_change,
  judge_in,
  judge,
}
use Rattle.authenticator.specs.Step.{Outcome}
use Rattle.authenticator.specs.Steps.{StepInput, BoxState, step_on, next_after, judged}
use Rattle.authenticator.specs.declared.Conversation.{Conversation}
use Rattle.authenticator.specs.declared.Phase.{Phase}
use Rattle.authenticator.specs.declared.Phase.TheVariants.{Response, Change, Ended}
use Rattle.authenticator.proofs.Seen.{Tracks, Seen, unjudged, judged_now, seen}

abbrev left : Phase → ℕ → ℕ
left Response r = r + 2
left Change r = 1
left Ended r = 0

abbrev pub left_in : Conversation → ℕ
left_in c = left c.phase c.retries

pub left_first : (o : Opening) → left_in (first_conversation o) ≡ retries_of o.retries + 2
left_first o = refl

-- a retry, a kept record, the end
after_less : (c : Conversation) (a : Entry) (e : ℕ) → c.phase ≡ Response
    → left_in (after_reason c a e) < c.retries + 2
after_less c a e ph = which (eqb e authentication_failure) (ltb 0 c.retries)
    (eqb e password_expired) refl
  where
    which : (t u x : Bool) → ltb 0 c.retries ≡ u
        → left_in (cond (t && u) (retried c) (cond x (awaiting_change c a) (ended c))) < c.retries +
        2
    which true true x h = subst (λ (y : Phase). left y (retried c).retries < c.retries + 2)
        (sym ph) (omega (arith, ltb-true 0 c.retries h))
    which true false true h = omega arith
    which true false false h = omega arith
    which false u true h = omega arith
    which false u false h = omega arith

response_less : (c : Conversation) (l : Lookup) (f : responses.Response) → c.phase ≡ Response
    → left_in (judge_response c l f).next < c.retries + 2
unfolding judge_response
response_less c l f ph = after_less c
    (entry_of (counted c.terms c.challenge l.account f))
    (response_reason c.terms c.challenge l f) ph

change_less : (c : Conversation) (p : List ℕ) → left_in (judge_change c p).next < 1
unfolding judge_change
change_less c p = omega arith

phase_less : (ph : Phase) (c : Conversation) (p : List ℕ) (l : Lookup) → c.phase ≡ ph → is_ended ph
    ≡ false
    → left_in (judge_in ph c p l).next < left ph c.retries
phase_less Response c p l e live = response_less c l (read_response p) e
phase_less Change c p l e live = change_less _ _
phase_less Ended c p l e live = let z : ◌≡◌ {A = ℕ} 0 1 = cc in absurd (omega arith)

judge_less : (c : Conversation) (p : List ℕ) (l : Lookup) → is_ended c.phase ≡ false
    → left_in (judge c p l).next < left_in c
unfolding judge
judge_less c p l live = phase_less c.phase c p l refl live

-- for any packet, record and buffer
pub judged_less : (p : BoxState) (s : StepInput) → Tracks p
    → judged step_on p s + left_in (next_after step_on p.conversation s) ≤ left_in p.conversation
judged_less p s kept = which (seen p s kept)
  where
    c : Conversation
    c = p.conversation

    which : Seen p s → judged step_on p s + left_in (next_after step_on c s) ≤ left_in c
    which (unjudged z e u) =
        let n = ap (λ (t : Bool). cond {A = ℕ} t 1 0) z in
        omega (arith, n, ap left_in e)
    which (judged_now y h e) =
        let n = ap (λ (t : Bool). cond {A = ℕ} t 1 0) y in
        let next = ap (λ (o : Outcome). left_in o.answer.next) e in
        omega (arith, n, next, judge_less c s.packet s.account h.live)
