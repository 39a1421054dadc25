-- The terms, which the opening fixes: LM is off unless it was asked for, and no step changes them.
-- Assumes nothing.
use Rattle.std.specs.Prelude.{Option, Some, None}
use mathlib.Core.Bool.{Bool, true, false, cond}
use mathlib.Core.List.{List}
use mathlib.Core.Logic.{◌≢◌}
use mathlib.Core.Path.{◌≡◌, refl, ap, ◌∙◌}
use Prim.Native.Nat.{ℕ}
use lib.Dec.{eqb}
use Rattle.accounts.specs.Account.{entry_of}
use Rattle.accounts.specs.declared.Entry.{Entry}
use Rattle.accounts.specs.declared.Lookup.{Lookup}
use Rattle.message.specs.Reasons.{password_expired}
use Rattle.verify.specs.Response.{counted, response_reason}
use Rattle.packets.specs.Response.{read_response}
use Rattle.authenticator.specs.Conversation.{ended, retried, awaiting_change}
use Rattle.authenticator.specs.Opening.{Opening, lm_allowed, opened}
use Rattle.authenticator.specs.Judge.{
  may_retry,
  after_reason,
  judge_response,
  judge_change,
  judge_in,
  judge,
}
use Rattle.authenticator.specs.Step.{Outcome}
use Rattle.authenticator.specs.Steps.{StepInput, step_on, next_after}
use Rattle.authenticator.specs.declared.Conversation.{Conversation}
use Rattle.authenticator.specs.declared.Phase.{Phase}
use Rattle.authenticator.specs.declared.Phase.TheVariants.{Response, Change, Ended}
use Rattle.authenticator.proofs.Openings.{opened_either}
use Rattle.authenticator.proofs.Steps.{Case, refused, repeated, judged, case_of}

-- ---- the opening

-- silence is no
not_asked : (l : Option Bool) → l ≢ (Some true) → lm_allowed l ≡ false
not_asked None h = refl
not_asked (Some true) h = absurd (h refl)
not_asked (Some false) h = refl

-- in what an opening hands out, refused or not
pub opened_off : (o : Opening) → o.lm ≢ (Some true) → (opened o).conversation.terms.lm ≡ false
opened_off o h =
    opened_either o (λ (c : Conversation). c.terms.lm ≡ false) (not_asked o.lm h) refl

-- ---- the steps

after_terms : (c : Conversation) (a : Entry) (e : ℕ) → (after_reason c a e).terms ≡ c.terms
after_terms c a e = which (may_retry c e) (eqb e password_expired)
  where
    which : (t u : Bool)
        → (cond t (retried c) (cond u (awaiting_change c a) (ended c))).terms ≡ c.terms
    which true u = refl
    which false true = refl
    which false false = refl

judged_terms : (ph : Phase) (c : Conversation) (p : List ℕ) (l : Lookup)
    → (judge_in ph c p l).next.terms ≡ c.terms
unfolding judge_response judge_change
judged_terms Response c p l =
    after_terms c (entry_of (counted c.terms c.challenge l.account (read_response p)))
    (response_reason c.terms c.challenge l (read_response p))
judged_terms Change c p l = refl
judged_terms Ended c p l = refl

-- of a judgement
pub judge_terms : (c : Conversation) (p : List ℕ) (l : Lookup) → (judge c p l).next.terms ≡ c.terms
unfolding judge
judge_terms c p l = judged_terms c.phase c p l

-- for any packet, record and buffer
pub step_keeps_terms : (c : Conversation) (s : StepInput) → (next_after step_on c s).terms ≡ c.terms
unfolding judge
step_keeps_terms c s = which (case_of c s.packet s.account s.buffer)
  where
    which : Case c s.packet s.account s.buffer → (next_after step_on c s).terms ≡ c.terms
    which (refused n e) = ap (λ (o : Outcome). o.answer.next.terms) e
    which (repeated z r e) = ap (λ (o : Outcome). o.answer.next.terms) e
    which (judged ok e) = ap (λ (o : Outcome). o.answer.next.terms) e
        ∙ judged_terms c.phase c s.packet s.account
