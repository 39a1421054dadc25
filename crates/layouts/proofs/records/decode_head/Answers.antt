-- `layouts::records::decode_head` meets its contract.
-- Assumes nothing.
use mathlib.Core.Path.{ap, ◌∙◌}
use Rattle.layouts.specs.Records.{decode_entry_lookup}
use Rattle.layouts.proofs.records.decode_head.Goals as goal

pub returns : goal.returns
returns c = c.decode_entry_lookup.ensures ∙ ap decode_entry_lookup c.part_of.ensures
