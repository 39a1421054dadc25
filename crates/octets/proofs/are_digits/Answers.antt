-- `octets::are_digits` meets its contract.
-- Assumes nothing.
use mathlib.Core.Path.{◌∙◌}
use mathlib.Core.Bool.{true, ◌&&◌}
use borrow.Author.Rules.{rules}
use borrow.Author.Tests.{tests}
use lib.Dec.{ltb}
use Rattle.std.proofs.lemmas.Iterator.{YieldsList-from_slice}
use Rattle.std.proofs.lemmas.Iterator.Consumers.{fold_from_yields_List}
use Rattle.octets.specs.Digits.{digit_of}
use Rattle.octets.proofs.DigitLoop.{all_fold}
use Rattle.octets.proofs.are_digits.Goals as goal

pub returns : goal.returns
returns c =
    let a = c.args in
    fold_from_yields_List _ (λ all d. all && ltb (digit_of d) a.base) true _ c.fold.ensures.ran
    (YieldsList-from_slice a.digits.now cc) (λ b x r q k. search (rules, tests))
    ∙ all_fold a.base a.digits.now true
