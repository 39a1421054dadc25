-- `layouts::records::decode_entry_lookup` meets its contract.
-- Assumes nothing.
use mathlib.Core.Path.{ap, ◌∙◌}
use Rattle.layouts.specs.Records.{is_flag, decode_entry, decode_entry_lookup}
use Rattle.layouts.proofs.RecordLaws.{entry_lookup_same}
use Rattle.layouts.proofs.records.decode_entry_lookup.Goals as goal

pub returns : goal.returns
unfolding decode_entry_lookup
returns c =
    let found = c in
    entry_lookup_same (found.is_flag-found.ensures ∙ ap is_flag found.octet.ensures)
    (c.decode_entry-entry.ensures ∙ ap decode_entry c.part_of.ensures)
