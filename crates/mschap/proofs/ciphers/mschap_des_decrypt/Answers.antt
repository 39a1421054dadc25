-- `mschap::ciphers::mschap_des_decrypt` meets its contract.
-- Assumes nothing.
use mathlib.Core.Path.{◌≡◌, refl, sym, ap₂, ◌∙◌}
use mathlib.Core.Bool.{true}
use borrow.Author.Tests.{eqb-true}
use lib.ListN.{length}
use Rattle.des.specs.Des.{des_decrypt}
use Rattle.layouts.specs.Call.{both_sized, sized}
use Rattle.layouts.proofs.Filling.{both, taken_whole, refused_argument, valid_argument, filled_with}
use borrow.Author.Rules.{rules}
use Rattle.mschap.proofs.ciphers.mschap_des_decrypt.Goals as goal

-- a key or a block of another size
pub returns-then-not-are_sized : goal.returns-then-not-are_sized
returns-then-not-are_sized c =
    refused_argument (sym c.are_sized.ensures ∙ c.if-not-are_sized.true)

pub returns : goal.returns
returns c =
    let put = c in
    let made = put in
    let second = made in
    let first = second in
    let passed = first in
    let a = passed.args in
    let key = a.key.now in
    let block = a.block.now in
    let good : both_sized 7 key 8 block ≡ true =
    sym passed.are_sized.ensures ∙ passed.if-not-are_sized.false in
    let whole = taken_whole 7 key 8 block good in
    let value =
    made.decrypt-result.ensures
    ∙ ap₂ des_decrypt (first.array_at.ensures ∙ whole.0) (second.array_at-2.ensures ∙ whole.1) in
    let size : length made.decrypt-result.result ≡ 8 = search rules in
    valid_argument good (eqb-true (length block) 8 (both (sized 7 key) (sized 8 block) good).1)
    (filled_with size value refl put.fill.ensures)
