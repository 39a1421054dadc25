-- `packets::changes::read_change` meets its contract.
-- Assumes nothing.
use Rattle.packets.proofs.Fields.{change_same}
use Rattle.packets.proofs.changes.read_change.Goals as goal

pub returns : goal.returns
returns c =
    change_same
    c.array_at.ensures c.array_at-2.ensures
    c.array_at-3.ensures c.array_at-4.ensures
    c.array_at-5.ensures c.array_at-6.ensures c.number_at.ensures
