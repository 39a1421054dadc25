-- Runs of sample guesses, for each a new call, where each guess is turned away: with a box that
-- locks and counts in some way. They meet the premises of the claim about guessing, with our box
-- too.
-- Assumes nothing.
use Rattle.std.specs.Prelude.{Some}
use mathlib.Core.Bool.{Bool, true, false, cond, not, ◌&&◌, false≢true}
use mathlib.Core.List.{List, [], ◌∷◌}
use mathlib.Core.Logic.{inl, inr}
use mathlib.Core.Path.{◌≡◌, refl, sym, ap, ap₂, ◌∙◌, subst}
use Prim.Native.Nat.{ℕ, ◌<◌}
use native.Mathlib.Omega.{arith}
use borrow.Author.Tests.{eq-eqb, not-true}
use lib.Dec.{leb}
use lib.ListN.{length, replicate}
use Rattle.message.specs.Reasons.{authentication_failure, no_reason}
use Rattle.packets.specs.Codes.{response_code}
use Rattle.packets.specs.Frame.{octet}
use Rattle.accounts.specs.Account.{found}
use Rattle.accounts.specs.declared.Account.{Account}
use Rattle.accounts.specs.declared.Lookup.{Lookup}
use Rattle.verify.specs.Lockout.{failures_after}
use Rattle.authenticator.specs.Judge.{reply_for}
use Rattle.verify.specs.declared.ChangeVersion.TheVariants.{Two}
use Rattle.authenticator.specs.Encode.{reply_packet}
use Rattle.authenticator.specs.Opening.{opened}
use Rattle.authenticator.specs.Step.{Outcome}
use Rattle.authenticator.specs.Steps.{StepInput, Box, reply_of, BoxState, unanswered}
use Rattle.authenticator.specs.Steps.{is_judged}
use Rattle.authenticator.specs.declared.Reply.TheVariants.{Failure}
use Rattle.authenticator.proofs.Openings.{opened_first}
use Rattle.series.specs.Course.{end, Along, total}
use Rattle.series.specs.Series.{own}
use Rattle.series.specs.Boxes.{CountRule, our_box}
use Rattle.series.specs.LmOptIn.{IsAuthenticationFailure}
use Rattle.series.specs.Guesses.{
  LinePacket,
  Event,
  opens,
  sends,
  RunState,
  first_state,
  input_of,
  outcome_of,
  run_next,
  is_judged_in,
  is_guess,
  guesses,
  OfLimit,
  IsTurnedAway,
  NotReset,
  LockedOut,
}
use Rattle.series.proofs.Sample.{opening_of, opens_limited}
use Rattle.series.proofs.SampleGuesses.{
  packet_saying,
  said_code,
  said_id,
  counting,
  first,
  guess,
  Guessed,
  by_ours,
}
use Rattle.series.proofs.Guesses.{guess_limit}
use Rattle.series.proofs.LmOptIn.{failure_either}

-- ---- the runs: for each guess a new call on the same line, and one call more

abbrev call : ℕ → Event
call limit = opens 0 (opening_of (Some 0) limit)

abbrev pub sent : Bool → LinePacket
sent v = record { line = 0; packet = packet_saying v; account = own; buffer = replicate 17 0 }

abbrev pub calls : ℕ → List Bool → List Event
calls limit [] = call limit ∷ []
calls limit (v ∷ vs) = call limit ∷ sends (sent v) ∷ calls limit vs

abbrev pub count_after : CountRule → (ℕ → Bool) → ℕ → List Bool → ℕ
count_after rule lock n [] = n
count_after rule lock n (v ∷ vs) = count_after rule lock (rule (lock n) v n) vs

-- each guess is turned away: it is invalid, or the account is locked
abbrev pub all_fail : CountRule → (ℕ → Bool) → ℕ → List Bool → Bool
all_fail rule lock n [] = true
all_fail rule lock n (v ∷ vs) =
    not (not (lock n) && v) && all_fail rule lock (rule (lock n) v n) vs

module _ (box : Box) (rule : CountRule) (lock : ℕ → Bool) (limit : ℕ)
    (facts : Guessed box rule lock limit) (pos : 0 < limit) where
  -- ---- a call and a guess

  module _ (p : RunState) (n : ℕ) (same : p.account ≡ counting n)
      (fresh : p.lines 0 ≡ unanswered (opened (opening_of (Some 0) limit)).conversation)
      (v : Bool) where
    on_line_lem : p.lines 0 ≡ unanswered (first limit n v)
    on_line_lem = fresh ∙ ap unanswered (opened_first (opening_of (Some 0) limit)
        (opens_limited limit pos))

    input_so : input_of p (sent v) ≡ guess limit n v
    input_so = ap (λ (a : Account). record {
      packet = packet_saying v;
      account = found a;
      buffer = replicate 17 0;
    }) same

    outcome_so : outcome_of box p (sent v) ≡ box (first limit n v) (guess limit n v)
    outcome_so = ap₂ (λ (b : BoxState) (s : StepInput). box b.conversation s) on_line_lem input_so

    is_judged_lem : is_judged_in box p (sent v) ≡ true
    is_judged_lem = ap₂ (is_judged box) on_line_lem input_so ∙ facts.judged n v

    pub is_guess_lem : is_guess box p (sent v) ≡ true
    is_guess_lem =
        ap₂ (λ (t u : Bool). t && (u && true)) is_judged_lem
        (eq-eqb (octet 0 (packet_saying v)) response_code (said_code v))

    pub reply_so : reply_of (outcome_of box p (sent v))
        ≡ reply_packet (first limit n v).terms 255
        (reply_for (first limit n v) (cond (not (lock n) && v) no_reason authentication_failure))
    reply_so = ap reply_of outcome_so ∙ facts.reply n v

    turned_away : not (not (lock n) && v) ≡ true
        → IsTurnedAway (octet 1 (packet_saying v)) (reply_of (outcome_of box p (sent v)))
    turned_away e = inr (inl (subst (λ (r : List ℕ). IsAuthenticationFailure Two
        (octet 1 (packet_saying v)) r) (sym reply_failed)
        (subst (λ (i : ℕ). IsAuthenticationFailure Two i (reply_packet (first limit n v).terms 255
        (Failure authentication_failure false))) (sym (said_id v))
        (failure_either (first limit n v).terms 255 false))))
      where
        reply_failed : reply_of (outcome_of box p (sent v))
            ≡ reply_packet (first limit n v).terms 255 (Failure authentication_failure false)
        reply_failed = reply_so
            ∙ ap (λ (t : Bool). reply_packet (first limit n v).terms 255 (reply_for (first limit n v)
            (cond t no_reason authentication_failure))) (not-true (not (lock n) && v) e)

    stored_so : (run_next box p (sends (sent v))).account ≡ counting (rule (lock n) v n)
    stored_so =
        ap (λ (u : Lookup). cond u.found u.account p.account)
        (ap (λ (x : Outcome). x.answer.updated) outcome_so ∙ facts.handed n v)

  -- ---- the whole run

  pub record Ran (p : RunState) (n : ℕ) (vs : List Bool) : Type 0 where
    pub of_limit : Along (run_next box) (OfLimit box limit) p (calls limit vs)
    pub not_reset : Along (run_next box) (NotReset box) p (calls limit vs)
    pub many : total (run_next box) (guesses box) p (calls limit vs) ≡ length vs
    pub counted : (end (run_next box) p (calls limit vs)).account ≡ counting (count_after rule lock n vs)
    pub on_line : (end (run_next box) p (calls limit vs)).lines 0
        ≡ unanswered (opened (opening_of (Some 0) limit)).conversation

  pub ran : (p : RunState) (n : ℕ) (vs : List Bool) → p.account ≡ counting n
      → all_fail rule lock n vs ≡ true → Ran p n vs
  ran p n [] same away =
      record {
        of_limit = (refl, tt);
        not_reset = (tt, tt);
        many = refl;
        counted = same;
        on_line = refl;
      }
  ran p n (v ∷ vs) same away =
      let q = run_next box p (call limit) in
      let both = two (not (not (lock n) && v)) (all_fail rule lock (rule (lock n) v n) vs) away in
      let rest = ran (run_next box q (sends (sent v))) (rule (lock n) v n) vs
      (stored_so q n same refl v) both.1 in
      let one = ap (λ (t : Bool). cond {A = ℕ} t 1 0) (is_guess_lem q n same refl v) in
      record {
        of_limit = (refl, (tt, rest.of_limit));
        not_reset = (tt, ((λ o j. turned_away q n same refl v both.0), rest.not_reset));
        many = omega (arith, one, rest.many);
        counted = rest.counted;
        on_line = rest.on_line;
      }
    where
      two : (t u : Bool) → (t && u) ≡ true → (t ≡ true) × (u ≡ true)
      two true true e = (refl, refl)
      two true false e = absurd (false≢true e)
      two false u e = absurd (false≢true e)

-- ---- our box

-- with a limit of 2, two wrong guesses in two calls, and a third call: the premises are met
abbrev wrong_twice : List Bool
wrong_twice = false ∷ false ∷ []

pub met : Ran our_box failures_after (leb 2) 2 (by_ours 2) (omega arith) (first_state (counting 0)) 0 wrong_twice
unfolding failures_after
met = ran our_box failures_after (leb 2) 2 (by_ours 2) (omega arith) (first_state (counting 0)) 0 wrong_twice
    refl refl

-- so the right password is judged, and draws 691
abbrev called : RunState
called = end (run_next our_box) (first_state (counting 0)) (calls 2 wrong_twice)

pub stopped : (is_guess our_box called (sent true) ≡ true)
    × LockedOut our_box called (sent true)
stopped =
    let g = is_guess_lem our_box failures_after (leb 2) 2 (by_ours 2) (omega arith) called
    (count_after failures_after (leb 2) 0 wrong_twice) met.counted met.on_line true in (
      g,
      guess_limit 2 (omega arith) (counting 0) [] (calls 2 wrong_twice) met.of_limit
          met.not_reset (omega (arith, met.many)) (sent true) g,
    )
