-- `peer_calls::read_reply` meets its contract.
-- Assumes nothing.
use mathlib.Core.Bool.{true}
use mathlib.Core.Path.{◌≡◌, refl, sym, ◌∙◌}
use Rattle.layouts.specs.Peers.{is_encoded_peer}
use Rattle.peer_calls.proofs.Calling.{reply_refused, reply_called}
use Rattle.peer_calls.proofs.read_reply.Goals as goal

-- The peer is tested and decoded, the reply is read, and what was read is put into the caller's
-- memory: Calling says what that makes the call return and leave.
-- the peer is not valid
pub returns-then-not-is_encoded_peer : goal.returns-then-not-is_encoded_peer
returns-then-not-is_encoded_peer c =
    record {
      number = simp (sym c.is_encoded_peer.ensures ∙ c.if-not-is_encoded_peer.true);
      next = refl;
      calls = refl;
      says = refl;
    }

-- the reply is refused
pub returns-in-Err : goal.returns-in-Err
returns-in-Err c =
    let a = c.args in
    let valid : is_encoded_peer a.peer.now ≡ true =
    sym c.is_encoded_peer.ensures ∙ c.if-not-is_encoded_peer.false in
    reply_refused a.peer.now a.packet.now valid c.decode_peer.ensures
    c.read_reply.ensures c.in-Err.refusal c.in-Err.is c.refused.ensures

-- it is not
pub returns-in-Ok : goal.returns-in-Ok
returns-in-Ok c =
    let a = c.args in
    let valid : is_encoded_peer a.peer.now ≡ true =
    sym c.is_encoded_peer.ensures ∙ c.if-not-is_encoded_peer.false in
    reply_called a.peer.now a.packet.now valid c.decode_peer.ensures
    c.read_reply.ensures c.in-Ok.read c.in-Ok.is
    c.call_in.ensures c.failure_reason.ensures c.put_peer.ensures
