-- `packets::responses::is_bad_flag` meets its contract.
-- Assumes nothing.
use Rattle.packets.proofs.responses.is_bad_flag.Goals as goal

pub returns : goal.returns
returns c = simp c.octet.ensures
