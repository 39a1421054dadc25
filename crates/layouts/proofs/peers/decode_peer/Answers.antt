-- `layouts::peers::decode_peer` meets its contract.
-- Assumes nothing.
use mathlib.Core.Path.{ap, ◌∙◌}
use Rattle.layouts.specs.Peers.{decode_turns}
use Rattle.layouts.proofs.peers.decode_peer.Goals as goal

pub returns : goal.returns
returns c = c.decode_turns.ensures ∙ ap decode_turns c.part_of.ensures
