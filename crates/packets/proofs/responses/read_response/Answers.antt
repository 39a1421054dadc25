-- `packets::responses::read_response` meets its contract.
-- Assumes nothing.
use Rattle.packets.proofs.Fields.{response_same}
use Rattle.packets.proofs.responses.read_response.Goals as goal

pub returns : goal.returns
returns c = response_same c.array_at.ensures c.array_at-2.ensures c.octet.ensures
