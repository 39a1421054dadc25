-- `layouts::records::flag` meets its contract.
-- Assumes nothing.
use Rattle.layouts.proofs.RecordLaws.{flag_cast}
use Rattle.layouts.proofs.records.flag.Goals as goal

pub returns : goal.returns
returns c = flag_cast c.args.b
