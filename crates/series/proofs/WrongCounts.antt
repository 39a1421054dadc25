-- Demand 3 holds of no box that judges as ours does and counts by another rule: of all rules, the
-- request's alone hands out the record that it should. Four of them by name: from the first record
-- every time, wrapping at 255, cleared by the right password at the limit, not at all. Nor of one
-- that says nothing to some of the guesses that it should judge, so that they are not counted.
-- Assumes nothing.
use Rattle.std.specs.Prelude.{Some}
use mathlib.Core.Bool.{Bool, true, false, cond, not, ◌&&◌, false≢true}
use mathlib.Core.List.{[], ◌∷◌}
use mathlib.Core.Logic.{◌≢◌}
use mathlib.Core.Path.{◌≡◌, refl, sym, ap, ap₂, ◌∙◌, subst}
use Prim.Native.Nat.{ℕ, zero, suc, ◌<◌}
use native.Mathlib.Omega.{arith}
use borrow.Author.Tests.{le-leb, lt-leb}
use lib.Dec.{leb}
use Rattle.octets.proofs.Parts.{agrees_refl}
use Rattle.accounts.specs.declared.Lookup.{Lookup}
use Rattle.verify.specs.Lockout.{failures_after}
use Rattle.authenticator.specs.Step.{Outcome, refused_as}
use Rattle.authenticator.specs.Steps.{StepInput, step_on, drew_reply, unanswered, StepClaim}
use Rattle.authenticator.specs.declared.Conversation.{Conversation}
use Rattle.authenticator.proofs.Openings.{opened_first}
use Rattle.series.specs.Series.{Demand3}
use Rattle.series.specs.Boxes.{judging, CountRule, counts_by, from_first, wrapping, clearing}
use Rattle.series.specs.Boxes.{not_counting, silent_to, right_where_locked, wrong_at_last}
use Rattle.series.specs.Writers.{our_writer}
use Rattle.series.proofs.Sample.{opening_of, opens_limited}
use Rattle.series.proofs.Sent.{seen_new}
use Rattle.series.proofs.SampleGuesses.{first, guess, said_code, said_valid, passes_first}
use Rattle.series.proofs.SampleGuesses.{by_rule}

-- a limit at which a count is locked, or is not
abbrev limit_for : Bool → ℕ → ℕ
limit_for locked n = cond locked n (suc n)

locked_so : (locked : Bool) (n : ℕ) → leb (limit_for locked n) n ≡ locked
locked_so true n = le-leb n n (omega arith)
locked_so false n = lt-leb (suc n) n (omega arith)

limited : (locked : Bool) (n : ℕ) → (locked ≡ true → 0 < n) → 0 < limit_for locked n
limited true n h = h refl
limited false n h = omega arith

-- where a rule counts otherwise than ours, locked or not and valid or not: a locked account has a
-- count, since every limit is at least 1
pub one_rule : (rule : CountRule) (locked v : Bool) (n : ℕ) → (locked ≡ true → 0 < n)
    → rule locked v n ≢ failures_after locked v n
    → Demand3 (judging (counts_by rule)) our_writer → ⊥
one_rule rule locked v n pos other h =
    let limit = limit_for locked n in
    let opens = opens_limited limit (limited locked n pos) in
    let s = guess limit n v in
    let claim = subst (λ (c : Conversation). StepClaim (judging (counts_by rule)) (unanswered c) s)
    (opened_first (opening_of (Some 0) limit) opens)
    ((h (opening_of (Some 0) limit) opens refl).2 (s ∷ [])).1.0 in
    let handed = ap (λ (l : Lookup). l.account.failures)
    (sym ((by_rule rule limit).handed n v)
    ∙ (claim.hands_out ((by_rule rule limit).judged n v) (said_code v)).0 refl) in
    let ours = ap₂ (λ (t w : Bool). failures_after t w n) (locked_so locked n)
    (said_valid limit n v v) in
    other (ap (λ (t : Bool). rule t v n) (sym (locked_so locked n)) ∙ handed ∙ ours)

pub not_from_first : (k : ℕ) → Demand3 (judging (counts_by (from_first k))) our_writer → ⊥
unfolding failures_after
not_from_first zero = one_rule (from_first zero) false false 1 (λ e. omega arith)
    (λ e. omega (arith, e))
not_from_first (suc k) = one_rule (from_first (suc k)) false false 0
    (λ e. absurd (false≢true e)) (λ e. omega (arith, e))

pub not_wrapping : Demand3 (judging (counts_by wrapping)) our_writer → ⊥
unfolding failures_after
not_wrapping = one_rule wrapping true false 255 (λ e. omega arith) (λ e. omega (arith, e))

pub not_clearing : Demand3 (judging (counts_by clearing)) our_writer → ⊥
unfolding failures_after
not_clearing = one_rule clearing true true 1 (λ e. omega arith) (λ e. omega (arith, e))

pub not_without_count : Demand3 (judging (counts_by not_counting)) our_writer → ⊥
unfolding failures_after
not_without_count = one_rule not_counting false false 0 (λ e. absurd (false≢true e)) (λ e. omega (arith, e))

-- ---- says nothing to some of what it should judge

-- wherever the first Response of a conversation is among it: a right guess at a locked account, or
-- a wrong one with no retries left
pub not_silent : (some : Conversation → StepInput → Bool) (number limit n : ℕ) (v : Bool) → 0 < limit
    → some (first limit n v) (guess limit n v) ≡ true
    → Demand3 (silent_to some number) our_writer → ⊥
not_silent some number limit n v pos here h =
    let o = opening_of (Some 0) limit in
    let opens = opens_limited limit pos in
    let s = guess limit n v in
    let claim = subst (λ (c : Conversation). StepClaim (silent_to some number) (unanswered c) s)
    (opened_first o opens) ((h o opens refl).2 (s ∷ [])).1.0 in
    let judges = claim.takes (passes_first limit n v) (seen_new (unanswered (first limit n v)) s refl)
    in
    let nothing = ap₂ (λ (x : Outcome) (y : Bool). drew_reply x s.buffer && not y)
    (ap (λ (t : Bool). cond t (refused_as number (first limit n v) s.buffer)
    (step_on (first limit n v) s)) here) (seen_new (unanswered (first limit n v)) s refl) in
    false≢true (sym (ap (λ (t : Bool). not t && true) (agrees_refl s.buffer)) ∙ sym nothing ∙ judges)

-- the two
pub not_silent_where_locked : (number : ℕ) → Demand3 (silent_to right_where_locked number) our_writer → ⊥
not_silent_where_locked number =
    not_silent right_where_locked number 1 1 true (omega arith) (said_valid 1 1 true true)

pub not_silent_at_last : (number : ℕ) → Demand3 (silent_to wrong_at_last number) our_writer → ⊥
not_silent_at_last number =
    not_silent wrong_at_last number 1 0 false (omega arith) (ap not (said_valid 1 0 false false))
