-- `mschap::ciphers::mschap_challenge_response` meets its contract.
-- Assumes nothing.
use mathlib.Core.Path.{◌≡◌, refl, sym, ap₂, ◌∙◌}
use mathlib.Core.Bool.{true}
use borrow.Author.Rules.{rules}
use lib.ListN.{length}
use Rattle.credentials.specs.Credentials.{response_of}
use Rattle.layouts.specs.Call.{both_sized}
use Rattle.layouts.proofs.Filling.{taken_whole, filled_behind}
use Rattle.mschap.proofs.ciphers.mschap_challenge_response.Goals as goal

-- a hash or a challenge of another size
pub returns-then-not-are_sized : goal.returns-then-not-are_sized
returns-then-not-are_sized c =
    record {
      number = simp (sym c.are_sized.ensures ∙ c.if-not-are_sized.true);
      bytes = refl;
    }

pub returns : goal.returns
returns c =
    let put = c in
    let made = put in
    let second = made in
    let first = second in
    let passed = first in
    let a = passed.args in
    let good : both_sized 16 a.hash.now 8 a.challenge.now ≡ true =
    sym passed.are_sized.ensures ∙ passed.if-not-are_sized.false in
    let whole = taken_whole 16 a.hash.now 8 a.challenge.now good in
    let value =
    made.challenge_response-result.ensures
    ∙ ap₂ response_of (first.array_at.ensures ∙ whole.0)
    (second.array_at-2.ensures ∙ whole.1) in
    let size : length made.challenge_response-result.result ≡ 24 = search rules in
    filled_behind 16 a.hash.now 8 a.challenge.now good size value put.fill.ensures
