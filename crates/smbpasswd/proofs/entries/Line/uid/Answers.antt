-- `smbpasswd::entries::Line::uid` meets its contract.
-- Assumes nothing.
use mathlib.Core.Path.{◌∙◌}
use Rattle.smbpasswd.proofs.FieldLaws.{laid}
use Rattle.smbpasswd.proofs.entries.Line.uid.Goals as goal

pub field-requires : goal.field-requires
field-requires c = (laid c.args.self.now.laid).lm

pub returns : goal.returns
returns c = c.field.ensures ∙ (laid c.args.self.now.laid).uid_field
