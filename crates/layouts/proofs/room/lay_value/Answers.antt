-- `layouts::room::lay_value` meets its contract.
-- Assumes nothing.
use mathlib.Core.Path.{ap, ◌∙◌}
use mathlib.Core.List.{List}
use Prim.Native.Nat.{ℕ}
use Rattle.octets.specs.Parts.{part, over}
use Rattle.layouts.proofs.room.lay_value.Goals as goal

pub returns : goal.returns
returns c =
    let put = c in
    let taken = put in
    let tagged = taken in
    let a = tagged.args in
    put.copy.ensures
    ∙ ap (λ (l : List ℕ). over l a.out.now)
    (taken.part_of.ensures ∙ ap (part 0 a.size) tagged.tag.ensures)
