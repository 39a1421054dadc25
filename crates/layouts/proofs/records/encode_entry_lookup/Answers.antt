-- `layouts::records::encode_entry_lookup` meets its contract.
-- Assumes nothing.
use mathlib.Core.Path.{refl}
use mathlib.Core.List.{[], ◌∷◌}
use Rattle.layouts.specs.Records.{flag, encode_entry, encode_entry_lookup}
use Rattle.layouts.proofs.Putting.{first, last}
use Rattle.layouts.proofs.records.encode_entry_lookup.Goals as goal

pub returns : goal.returns
unfolding encode_entry_lookup
returns c =
    let found = c in
    let a = found.args in
    let piece = flag a.lookup.found ∷ [] in
    let s₁ = first a.at a.room.bytes piece 1 refl found.put_flag-room.ensures in
    last s₁ (encode_entry a.lookup.entry) c.encode_entry.ensures
