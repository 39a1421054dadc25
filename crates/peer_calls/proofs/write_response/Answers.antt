-- `peer_calls::write_response` meets its contract.
-- Assumes nothing.
use mathlib.Core.Path.{◌≡◌, refl, sym, ap, ◌∙◌}
use mathlib.Core.Bool.{true}
use mathlib.Core.List.{List}
use Prim.Native.Nat.{ℕ}
use Rattle.peer.specs.Write.{write_response}
use Rattle.peer.specs.declared.Turn.{Turn}
use Rattle.layouts.specs.Passwords.{decode_password, is_encoded_password}
use Rattle.layouts.specs.Peers.{is_encoded_peer}
use Rattle.layouts.proofs.Filling.{both}
use Rattle.peer_calls.specs.Calls.{response_arguments}
use Rattle.peer_calls.proofs.Calling.{wrote_refused, wrote_called, response_kept}
use Rattle.peer_calls.proofs.write_response.Goals as goal

encoded : (peer password : List ℕ) → response_arguments peer password ≡ true
    → is_encoded_peer peer ≡ true
unfolding response_arguments
encoded peer password e = (both (is_encoded_peer peer) (is_encoded_password password) e).0

-- The arguments are tested and decoded, the packet is written, and the next peer is put into the
-- caller's buffer: Calling says what that makes the call return and leave.
-- the arguments are not valid
pub returns-then-not-are_response_arguments : goal.returns-then-not-are_response_arguments
returns-then-not-are_response_arguments c =
    record {
      number = simp (sym c.are_response_arguments.ensures ∙ c.if-not-are_response_arguments.true);
      next = refl;
      packet = refl;
    }

-- they are valid, and the packet is refused
pub returns-in-Err : goal.returns-in-Err
returns-in-Err c =
    let a = c.args in
    let peer = a.peer.now in
    let out = a.out.now in
    let name = a.name.now in
    let password = decode_password a.password.now in
    let turn = c.decode_peer-before.result.turn in
    let valid =
    sym c.are_response_arguments.ensures ∙ c.if-not-are_response_arguments.false in
    wrote_refused (λ (t : Turn). write_response t password name out) peer out
    (response_arguments peer a.password.now) valid
    (encoded peer a.password.now valid) (response_kept password name out)
    c.decode_peer-before.ensures
    (ap (λ (k : List ℕ). write_response turn k name out) c.decode_password.ensures)
    c.write_response.ensures c.in-Err.refusal c.in-Err.is c.refused.ensures

-- it is written
pub returns-in-Ok : goal.returns-in-Ok
returns-in-Ok c =
    let a = c.args in
    let peer = a.peer.now in
    let out = a.out.now in
    let name = a.name.now in
    let password = decode_password a.password.now in
    let turn = c.decode_peer-before.result.turn in
    let valid =
    sym c.are_response_arguments.ensures ∙ c.if-not-are_response_arguments.false in
    wrote_called (λ (t : Turn). write_response t password name out) peer out
    (response_arguments peer a.password.now) valid
    (encoded peer a.password.now valid) (response_kept password name out)
    c.decode_peer-before.ensures
    (ap (λ (k : List ℕ). write_response turn k name out) c.decode_password.ensures)
    c.write_response.ensures c.in-Ok.written c.in-Ok.is c.put_peer.ensures
