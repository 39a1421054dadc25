-- `smbpasswd::entries::Line::time` meets its contract.
-- Assumes nothing.
use mathlib.Core.Path.{◌∙◌}
use Rattle.smbpasswd.proofs.FieldLaws.{laid}
use Rattle.smbpasswd.proofs.entries.Line.time.Goals as goal

pub field-requires : goal.field-requires
field-requires c = (laid c.args.self.now.laid).rest

pub returns : goal.returns
returns c = c.field.ensures ∙ (laid c.args.self.now.laid).time_field
