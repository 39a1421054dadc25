-- `packets::names::split_at` meets its contract.
-- Assumes nothing.
use mathlib.Core.Path.{ap}
use lib.ListN.{length}
use Rattle.packets.proofs.names.split_at.Goals as goal

pub returns : goal.returns
returns c = ap length c.up_to.ensures
