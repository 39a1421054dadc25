-- `layouts::peers::put_peer` meets its contract.
-- Assumes nothing.
use native.Mathlib.Omega.{arith}
use Rattle.layouts.specs.Values.{peer_kind}
use Rattle.layouts.specs.Peers.{encode_turns}
use Rattle.layouts.proofs.PeerLaws.{SizedPeer, length_turns}
use Rattle.layouts.proofs.Putting.{filled}
use borrow.Author.Rules.{rules}
use Rattle.layouts.proofs.peers.put_peer.Goals as goal

pub returns : goal.returns
returns c =
    let sized : SizedPeer c.args.peer =
    record { sent = search rules; turn = search rules } in
    let v = c.args.peer in
    filled peer_kind 19 (omega arith) (encode_turns v) (length_turns v sized)
    c.encode_turns-body.ensures
    c.put_value.ensures
