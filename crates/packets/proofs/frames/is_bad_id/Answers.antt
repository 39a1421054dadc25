-- `packets::frames::is_bad_id` meets its contract.
-- Assumes nothing.
use Rattle.packets.proofs.frames.is_bad_id.Goals as goal

pub returns : goal.returns
returns c = simp c.octet.ensures
