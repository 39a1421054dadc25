-- `layouts::room::is_value` meets its contract.
-- Assumes nothing.
use mathlib.Core.Path.{ap, ◌∙◌}
use mathlib.Core.List.{List}
use Prim.Native.Nat.{ℕ}
use Rattle.octets.specs.Parts.{part, agrees}
use Rattle.layouts.proofs.room.is_value.Goals as goal

pub returns : goal.returns
returns c =
    let taken = c in
    let tagged = taken in
    let a = tagged.args in
    c.agree.ensures
    ∙ ap (λ (l : List ℕ). agrees l a.bytes.now)
    (taken.part_of.ensures ∙ ap (part 0 a.size) tagged.tag.ensures)
