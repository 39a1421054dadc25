-- `layouts::peers::is_encoded_peer` meets its contract.
-- Assumes nothing.
use mathlib.Core.Path.{ap, ◌∙◌}
use native.Mathlib.Omega.{arith}
use Rattle.peer.specs.declared.Peer.{Peer}
use Rattle.layouts.specs.Values.{peer_kind}
use Rattle.layouts.specs.Inner.{in_room}
use Rattle.layouts.specs.Peers.{encode_turns, decode_peer, is_encoded_peer}
use Rattle.layouts.proofs.PeerLaws.{length_turns, decoded_peer_sized}
use Rattle.layouts.proofs.Putting.{compared}
use Rattle.layouts.proofs.peers.is_encoded_peer.Goals as goal

pub returns : goal.returns
unfolding is_encoded_peer
returns c =
    let encoded = c in
    let decoded = encoded in
    let bytes = decoded.args.bytes.now in
    let v = decode_peer bytes in
    compared peer_kind 19 (omega arith) (encode_turns v) (length_turns v (decoded_peer_sized bytes))
    (encoded.encode_turns-body.ensures ∙ ap (λ (u : Peer). in_room (encode_turns u))
    decoded.decode_peer.ensures) bytes
    c.is_value.ensures
