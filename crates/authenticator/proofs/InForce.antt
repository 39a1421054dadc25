-- The challenges that a conversation can still put in force, its own and a retry's: no step adds
-- one.
-- Assumes nothing.
use mathlib.Core.Bool.{Bool, true, false, cond, ◌||◌, ◌&&◌, or-true}
use mathlib.Core.List.{List}
use mathlib.Core.Path.{◌≡◌, refl, ap, ◌∙◌, subst}
use Prim.Native.Nat.{ℕ, suc, ◌-◌, ◌<◌}
use native.Mathlib.Omega.{arith}
use borrow.Author.Tests.{ltb-true}
use lib.Dec.{eqb, ltb}
use Rattle.octets.specs.Parts.{agrees}
use Rattle.octets.proofs.Parts.{agrees_refl}
use Rattle.issued.specs.Issued.{contains}
use Rattle.challenges.specs.Challenges.{incremented, challenges_from}
use Rattle.message.specs.Reasons.{authentication_failure, password_expired}
use Rattle.packets.specs.Response.{read_response}
use Rattle.packets.specs.declared.Response as fields
use Rattle.authenticator.specs.Conversation.{ended, retried, awaiting_change}
use Rattle.verify.specs.Response.{counted, response_reason}
use Rattle.authenticator.specs.Judge.{
  after_reason,
  judge_response,
  judge_change,
  judge_in,
  judge,
}
use Rattle.authenticator.specs.Step.{Outcome}
use Rattle.authenticator.specs.Steps.{StepInput, step_on, next_after}
use Rattle.accounts.specs.Account.{entry_of}
use Rattle.accounts.specs.declared.Entry.{Entry}
use Rattle.accounts.specs.declared.Lookup.{Lookup}
use Rattle.authenticator.proofs.Steps.{Case, refused, repeated, judged, case_of}
use Rattle.authenticator.specs.declared.Conversation.{Conversation}
use Rattle.authenticator.specs.declared.Phase.{Phase}
use Rattle.authenticator.specs.declared.Phase.TheVariants.{Response, Change, Ended}

-- x is the challenge in force, or can be after a retry
abbrev pub CanBeInForce : Conversation → List ℕ → Type 0
CanBeInForce c x = contains (challenges_from (suc c.retries) c.challenge) x ≡ true

pub now_in_force : (c : Conversation) → CanBeInForce c c.challenge
unfolding contains challenges_from
now_in_force c = ap (λ (t : Bool). t || contains (challenges_from c.retries
    (incremented c.challenge)) c.challenge) (agrees_refl c.challenge)

retried_adds_none : (c : Conversation) (x : List ℕ) → 0 < c.retries → CanBeInForce (retried c) x
    → CanBeInForce c x
unfolding contains challenges_from
retried_adds_none c x more h =
    let e : suc (c.retries - 1) ≡ c.retries = omega arith in
    ap (λ (t : Bool). agrees c.challenge x || t)
    (subst (λ (n : ℕ). contains (challenges_from n (incremented c.challenge)) x ≡ true) e h)
    ∙ or-true (agrees c.challenge x)

after_adds_none : (c : Conversation) (a : Entry) (e : ℕ) (x : List ℕ)
    → CanBeInForce (after_reason c a e) x → CanBeInForce c x
after_adds_none c a e x = which (eqb e authentication_failure) (ltb 0 c.retries)
    (eqb e password_expired) refl
  where
    which : (t u v : Bool) → ltb 0 c.retries ≡ u
        → CanBeInForce (cond (t && u) (retried c) (cond v (awaiting_change c a) (ended c))) x
        → CanBeInForce c x
    which true true v p h = retried_adds_none c x (ltb-true 0 c.retries p) h
    which true false true p h = h
    which true false false p h = h
    which false u true p h = h
    which false u false p h = h

response_adds_none : (c : Conversation) (l : Lookup) (f : fields.Response) (x : List ℕ)
    → CanBeInForce (judge_response c l f).next x → CanBeInForce c x
unfolding judge_response
response_adds_none c l f x h = after_adds_none c
    (entry_of (counted c.terms c.challenge l.account f))
    (response_reason c.terms c.challenge l f) x h

change_adds_none : (c : Conversation) (p x : List ℕ)
    → CanBeInForce (judge_change c p).next x → CanBeInForce c x
unfolding judge_change
change_adds_none c p x h = h

phase_adds_none : (ph : Phase) (c : Conversation) (p : List ℕ) (l : Lookup) (x : List ℕ)
    → CanBeInForce (judge_in ph c p l).next x → CanBeInForce c x
phase_adds_none Response c p l x h = response_adds_none c l (read_response p) x h
phase_adds_none Change c p l x h = change_adds_none _ _ x h
phase_adds_none Ended c p l x h = h

judge_adds_none : (c : Conversation) (p : List ℕ) (l : Lookup) (x : List ℕ)
    → CanBeInForce (judge c p l).next x → CanBeInForce c x
unfolding judge
judge_adds_none c p l x h = phase_adds_none c.phase c p l x h

-- for any packet, record and buffer
pub step_adds_none : (c : Conversation) (s : StepInput) (x : List ℕ)
    → CanBeInForce (next_after step_on c s) x → CanBeInForce c x
step_adds_none c s x h = which (case_of c s.packet s.account s.buffer)
  where
    which : Case c s.packet s.account s.buffer → CanBeInForce c x
    which (refused n e) = subst (λ (o : Outcome). CanBeInForce o.answer.next x) e h
    which (repeated z r e) = subst (λ (o : Outcome). CanBeInForce o.answer.next x) e h
    which (judged ok e) =
        judge_adds_none c s.packet s.account x
        (subst (λ (o : Outcome). CanBeInForce o.answer.next x) e h)
