-- `peer_calls::write_change` meets its contract.
-- Assumes nothing.
use mathlib.Core.Path.{refl, sym, ap₂, ◌∙◌}
use mathlib.Core.List.{List}
use Prim.Native.Nat.{ℕ}
use Rattle.peer.specs.Write.{write_change}
use Rattle.peer.specs.declared.Turn.{Turn}
use Rattle.layouts.specs.Passwords.{decode_password}
use Rattle.peer_calls.specs.Calls.{change_arguments}
use Rattle.peer_calls.proofs.Calling.{wrote_refused, wrote_called, change_kept, change_encoded}
use Rattle.peer_calls.proofs.write_change.Goals as goal

-- As write_response, with two passwords.
-- the arguments are not valid
pub returns-then-not-are_change_arguments : goal.returns-then-not-are_change_arguments
returns-then-not-are_change_arguments c =
    record {
      number = simp (sym c.are_change_arguments.ensures ∙ c.if-not-are_change_arguments.true);
      next = refl;
      packet = refl;
    }

-- they are valid, and the packet is refused
pub returns-in-Err : goal.returns-in-Err
returns-in-Err c =
    let a = c.args in
    let peer = a.peer.now in
    let out = a.out.now in
    let filler = a.filler.now in
    let old = decode_password a.old.now in
    let new = decode_password a.new.now in
    let turn = c.decode_peer-before.result.turn in
    let valid =
    sym c.are_change_arguments.ensures ∙ c.if-not-are_change_arguments.false in
    wrote_refused (λ (t : Turn). write_change t old new filler out) peer out
    (change_arguments peer a.old.now a.new.now) valid
    (change_encoded peer a.old.now a.new.now valid) (change_kept old new filler out)
    c.decode_peer-before.ensures
    (ap₂ (λ (l k : List ℕ). write_change turn l k filler out) c.decode_password.ensures
    c.decode_password-2.ensures)
    c.write_change.ensures c.in-Err.refusal c.in-Err.is c.refused.ensures

-- it is written
pub returns-in-Ok : goal.returns-in-Ok
returns-in-Ok c =
    let a = c.args in
    let peer = a.peer.now in
    let out = a.out.now in
    let filler = a.filler.now in
    let old = decode_password a.old.now in
    let new = decode_password a.new.now in
    let turn = c.decode_peer-before.result.turn in
    let valid =
    sym c.are_change_arguments.ensures ∙ c.if-not-are_change_arguments.false in
    wrote_called (λ (t : Turn). write_change t old new filler out) peer out
    (change_arguments peer a.old.now a.new.now) valid
    (change_encoded peer a.old.now a.new.now valid) (change_kept old new filler out)
    c.decode_peer-before.ensures
    (ap₂ (λ (l k : List ℕ). write_change turn l k filler out) c.decode_password.ensures
    c.decode_password-2.ensures)
    c.write_change.ensures c.in-Ok.written c.in-Ok.is c.put_peer.ensures
