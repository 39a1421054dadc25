-- `smbpasswd::entries::Entry::has_expired` meets its contract.
-- Assumes nothing.
use mathlib.Core.Path.{ap, ◌∙◌}
use Rattle.smbpasswd.specs.Line.{is_time}
use Rattle.smbpasswd.proofs.FieldLaws.{form}
use Rattle.smbpasswd.proofs.entries.Entry.has_expired.Goals as goal

pub time_in-requires : goal.time_in-requires
time_in-requires c = ap is_time c.time.ensures ∙ (form _ c.args.self.now.formed).time
