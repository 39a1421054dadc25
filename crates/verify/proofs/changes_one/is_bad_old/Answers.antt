-- `verify::changes_one::is_bad_old` meets its contract.
-- Assumes nothing.
use mathlib.Core.Bool.{not}
use mathlib.Core.Path.{ap, ◌∙◌}
use Rattle.octets.specs.Parts.{agrees}
use Rattle.verify.proofs.changes_one.is_bad_old.Goals as goal

pub returns : goal.returns
returns c =
    let a = c.args in
    ap not (c.is_same_hash.ensures
    ∙ ap (agrees a.field) c.hash_under_challenge.ensures)
