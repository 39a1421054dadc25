-- `smbpasswd::entries::Line::flags` meets its contract.
-- Assumes nothing.
use mathlib.Core.Path.{◌∙◌}
use Rattle.smbpasswd.proofs.FieldLaws.{laid}
use Rattle.smbpasswd.proofs.entries.Line.flags.Goals as goal

pub field-requires : goal.field-requires
field-requires c = (laid c.args.self.now.laid).time

pub returns : goal.returns
returns c = c.field.ensures ∙ (laid c.args.self.now.laid).flags_field
