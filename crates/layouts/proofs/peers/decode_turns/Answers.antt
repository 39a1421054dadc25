-- `layouts::peers::decode_turns` meets its contract.
-- Assumes nothing.
use mathlib.Core.Path.{ap, ◌∙◌}
use Rattle.layouts.specs.Records.{is_flag}
use Rattle.layouts.specs.Peers.{decode_turns}
use Rattle.layouts.proofs.PeerLaws.{peer_same}
use Rattle.layouts.proofs.peers.decode_turns.Goals as goal

-- each field in turn, the last first
pub returns : goal.returns
unfolding decode_turns
returns c =
    let next = c in
    let answered = next in
    let last = answered in
    let present = last in
    peer_same (present.is_flag-present.ensures ∙ ap is_flag present.octet.ensures)
    last.octet-last.ensures answered.array_at-answered.ensures next.octet-next.ensures
    c.array_at-challenge.ensures
