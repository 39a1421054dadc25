-- `packets::frames::octet` meets its contract.
-- Assumes nothing.
use mathlib.Core.Path.{sym}
use lib.ListN.{get_or-eq_default}
use Rattle.packets.proofs.frames.octet.Goals as goal

pub returns-else-i-packet : goal.returns-else-i-packet
returns-else-i-packet c = sym (get_or-eq_default c.args.packet.now 0 c.if-i-packet.false)
