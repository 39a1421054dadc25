-- `layouts::lists::places_in` meets its contract.
-- Assumes nothing.
use mathlib.Core.Path.{◌∙◌}
use native.Mathlib.Omega.{arith}
use lib.ListN.{length, drop, length-drop}
use lib.Seq.{take_all}
use Rattle.layouts.proofs.lists.places_in.Goals as goal

-- as many bytes as there are at all are not too few
pub returns : goal.returns
returns c =
    let bytes = c.args.bytes.now in
    c.part_of.ensures
    ∙ take_all (length bytes) (drop 4 bytes) (omega (arith, length-drop 4 bytes))
