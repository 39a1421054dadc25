-- `layouts::records::decode_hash` meets its contract.
-- Assumes nothing.
use mathlib.Core.Path.{ap, ◌∙◌}
use Rattle.layouts.specs.Records.{is_flag}
use Rattle.layouts.proofs.RecordLaws.{hash_same}
use Rattle.layouts.proofs.records.decode_hash.Goals as goal

pub returns : goal.returns
returns c =
    let octets = c in
    let present = octets in
    c.hash_if.ensures
    ∙ hash_same (present.is_flag-present.ensures ∙ ap is_flag present.octet.ensures)
    octets.array_at-octets.ensures
