-- `layouts::records::encode_hash` meets its contract.
-- Assumes nothing.
use mathlib.Core.Path.{refl}
use mathlib.Core.List.{[], ◌∷◌}
use Rattle.layouts.specs.Records.{flag}
use Rattle.layouts.proofs.Putting.{first, last}
use Rattle.layouts.proofs.records.encode_hash.Goals as goal

pub returns : goal.returns
returns c =
    let present = c in
    let a = present.args in
    let piece = flag a.hash.present ∷ [] in
    let s₁ = first a.at a.room.bytes piece 1 refl present.put_flag-room.ensures in
    last s₁ a.hash.octets c.put_octets.ensures
