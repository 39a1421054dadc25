-- `packets::changes_one::read_change_one` meets its contract.
-- Assumes nothing.
use Rattle.packets.proofs.Fields.{change_one_same}
use Rattle.packets.proofs.changes_one.read_change_one.Goals as goal

pub returns : goal.returns
returns c =
    change_one_same
    c.array_at.ensures c.array_at-2.ensures
    c.array_at-3.ensures c.array_at-4.ensures
    c.number_at.ensures c.number_at-2.ensures
