-- `mschap::lists::mschap_list_used` meets its contract.
-- Assumes nothing.
use mathlib.Core.Path.{sym, ap, ◌∙◌}
use mathlib.Core.Bool.{Bool}
use Rattle.layouts.specs.Lists.{used_in}
use Rattle.layouts.specs.Call.{value_or}
use Rattle.mschap.proofs.lists.mschap_list_used.Goals as goal

pub returns-then-not-is_good_list : goal.returns-then-not-is_good_list
returns-then-not-is_good_list c = simp (sym c.is_good_list.ensures ∙ c.if-not-is_good_list.true)

pub returns : goal.returns
returns c =
    let passed = c in
    let bytes = passed.args.list.now in
    let valid = sym passed.is_good_list.ensures ∙ passed.if-not-is_good_list.false in
    c.used_in.ensures ∙ ap (λ (t : Bool). value_or t (used_in bytes)) (sym valid)
