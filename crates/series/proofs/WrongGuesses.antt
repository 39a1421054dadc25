-- Boxes that do not stop guessing across conversations. Some judge as ours does, and count from the
-- first record every time, wrap at 255, are cleared by the right password at the limit, or count
-- nothing; some count as ours does, and lock over the limit only, or never. Each is shown a run of
-- calls whose guesses are turned away, as many as the limit or more, after which the right password
-- gets in.
-- Assumes nothing.
use mathlib.Core.Bool.{Bool, true, false, cond, not, ◌&&◌}
use mathlib.Core.List.{List, [], ◌∷◌}
use mathlib.Core.Logic.{inl, inr}
use mathlib.Core.Path.{◌≡◌, refl, ap, ◌∙◌}
use Prim.Native.Nat.{ℕ, suc, ◌≤◌, ◌<◌}
use native.Mathlib.Omega.{arith}
use lib.Dec.{leb}
use lib.ListN.{length, replicate}
use Rattle.message.specs.Reasons.{authentication_failure, no_reason}
use Rattle.packets.specs.Frame.{octet}
use Rattle.verify.specs.Lockout.{failures_after}
use Rattle.authenticator.specs.Judge.{reply_for}
use Rattle.authenticator.specs.Encode.{reply_packet}
use Rattle.authenticator.specs.Steps.{Box, reply_of}
use Rattle.series.specs.Course.{end}
use Rattle.series.specs.Boxes.{judging, CountRule, counts_by, from_first, wrapping, clearing}
use Rattle.series.specs.Boxes.{not_counting, limited_to}
use Rattle.verify.specs.declared.ChangeVersion.TheVariants.{One, Two}
use Rattle.series.specs.Guesses.{first_state, IsFailure691, outcome_of, run_next, GuessLimit}
use Rattle.series.proofs.SampleGuesses.{packet_saying, counting, first, Guessed, by_rule, by_limit}
use Rattle.series.proofs.GuessRuns.{sent, calls, count_after, all_fail, is_guess_lem, reply_so}
use Rattle.series.proofs.GuessRuns.{ran}
use Rattle.series.proofs.Wrong.{success_code_lem}
use Rattle.series.proofs.WrongLm.{failed}

failed_691 : (id : ℕ) (reply : List ℕ) → IsFailure691 id reply → octet 0 reply ≡ 4
failed_691 id reply (inl h) = failed One id reply h
failed_691 id reply (inr h) = failed Two id reply h

-- as many guesses as the limit were turned away, and the right password gets in
pub guessed : (box : Box) (rule : CountRule) (lock : ℕ → Bool) (limit : ℕ)
    → Guessed box rule lock limit → 0 < limit → limit ≤ 255
    → (n : ℕ) (vs : List Bool) → all_fail rule lock n vs ≡ true → limit ≤ length vs
    → lock (count_after rule lock n vs) ≡ false → GuessLimit box → ⊥
guessed box rule lock limit facts pos few n vs away enough unlocked h =
    let a = counting n in
    let r = ran box rule lock limit facts pos (first_state a) n vs refl away in
    let p = end (run_next box) (first_state a) (calls limit vs) in
    let k = count_after rule lock n vs in
    let claim = h limit few a [] (calls limit vs) r.of_limit r.not_reset
    (omega (arith, r.many, enough)) (sent true)
    (is_guess_lem box rule lock limit facts pos p k r.counted r.on_line true) in
    let in-again = reply_so box rule lock limit facts pos p k r.counted r.on_line true
    ∙ ap (λ (t : Bool). reply_packet (first limit k true).terms 255 (reply_for (first limit k true)
    (cond (not t && true) no_reason authentication_failure))) unlocked in
    omega (
      arith,
      failed_691 (octet 1 (packet_saying true)) (reply_of (outcome_of box p (sent true))) claim.0,
      ap (octet 0) in-again,
      success_code_lem 255,
    )

-- ---- boxes that count otherwise

pub not_from_first : GuessLimit (judging (counts_by (from_first 0))) → ⊥
not_from_first = guessed (judging (counts_by (from_first 0))) (from_first 0) (leb 2) 2
    (by_rule (from_first 0) 2) (omega arith) (omega arith) 0 (false ∷ false ∷ []) refl (omega arith)
    refl

pub not_wrapping : GuessLimit (judging (counts_by wrapping)) → ⊥
not_wrapping = guessed (judging (counts_by wrapping)) wrapping (leb 255) 255 (by_rule wrapping 255)
    (omega arith) (omega arith) 255 (replicate 255 false) refl (omega arith) refl

pub not_clearing : GuessLimit (judging (counts_by clearing)) → ⊥
not_clearing = guessed (judging (counts_by clearing)) clearing (leb 1) 1 (by_rule clearing 1)
    (omega arith) (omega arith) 0 (false ∷ true ∷ []) refl (omega arith) refl

pub not_without_count : GuessLimit (judging (counts_by not_counting)) → ⊥
not_without_count = guessed (judging (counts_by not_counting)) not_counting (leb 1) 1
    (by_rule not_counting 1) (omega arith) (omega arith) 0 (false ∷ []) refl (omega arith) refl

-- ---- boxes that lock otherwise: over the limit only, and never

pub not_locking_over : GuessLimit (judging (limited_to suc)) → ⊥
unfolding failures_after
not_locking_over = guessed (judging (limited_to suc)) failures_after (leb 2) 1 (by_limit suc 1)
    (omega arith) (omega arith) 0 (false ∷ []) refl (omega arith) refl

pub not_never_locking : GuessLimit (judging (limited_to (λ l. 256))) → ⊥
unfolding failures_after
not_never_locking = guessed (judging (limited_to (λ l. 256))) failures_after (leb 256) 1
    (by_limit (λ l. 256) 1) (omega arith) (omega arith) 0 (false ∷ []) refl (omega arith) refl
