-- `smbpasswd::entries::Line::name` meets its contract.
-- Assumes nothing.
use Rattle.smbpasswd.proofs.FieldLaws.{laid}
use Rattle.smbpasswd.proofs.entries.Line.name.Goals as goal

pub field-requires : goal.field-requires
field-requires c = (laid c.args.self.now.laid).uid
