-- `layouts::room::put_value` meets its contract.
-- Assumes nothing.
use mathlib.Core.Path.{refl, ap, ◌∙◌}
use lib.ListN.{length}
use Rattle.octets.specs.Parts.{part}
use Rattle.layouts.proofs.Filling.{filled_with}
use Rattle.layouts.proofs.room.put_value.Goals as goal

pub returns : goal.returns
returns c =
    let a = c.args in
    let value = c.part_of.ensures ∙ ap (part 0 a.size) c.tag.ensures in
    filled_with (ap length value) value refl c.fill.ensures
