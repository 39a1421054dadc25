-- `layouts::records::is_encoded_record` meets its contract.
-- Assumes nothing.
use mathlib.Core.Path.{ap, ◌∙◌}
use Rattle.accounts.specs.declared.EntryLookup.{EntryLookup}
use Rattle.layouts.specs.Records.{is_record_of, is_encoded_record}
use Rattle.layouts.proofs.records.is_encoded_record.Goals as goal

pub returns : goal.returns
unfolding is_encoded_record
returns c =
    let bytes = c.args.bytes.now in
    c.is_record.ensures
    ∙ ap (λ (l : EntryLookup). is_record_of l bytes) c.decode_head.ensures
