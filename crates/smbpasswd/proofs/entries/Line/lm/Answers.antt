-- `smbpasswd::entries::Line::lm` meets its contract.
-- Assumes nothing.
use mathlib.Core.Path.{◌∙◌}
use Rattle.smbpasswd.proofs.FieldLaws.{laid}
use Rattle.smbpasswd.proofs.entries.Line.lm.Goals as goal

pub field-requires : goal.field-requires
field-requires c = (laid c.args.self.now.laid).nt

pub returns : goal.returns
returns c = c.field.ensures ∙ (laid c.args.self.now.laid).lm_field
