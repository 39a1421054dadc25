-- `packets::changes::write_change` meets its contract.
-- Assumes nothing.
use mathlib.Core.Path.{◌≡◌}
use borrow.Author.Tests.{lt-ltb, le-ltb}
use Rattle.refusals.specs.declared.Refusal.TheVariants.{Room}
use Rattle.packets.specs.Change.{change_packet, change_write_refusal, change_written, change_out}
use Rattle.packets.proofs.Writing.{nothing_written, packet_written}
use Rattle.packets.proofs.changes.write_change.Goals as goal

pub returns-then-out-lt-CHANGE_SIZE : goal.returns-then-out-lt-CHANGE_SIZE
unfolding change_written change_out change_write_refusal
returns-then-out-lt-CHANGE_SIZE c =
    let a = c.args in
    let told : 9 ≡ change_write_refusal a.out.now = simp (lt-ltb _ _ c.if-out-lt-CHANGE_SIZE.true) in
    let done = nothing_written (change_packet a.id a.fields) a.out.now (change_write_refusal a.out.now) Room told in
    record { answer = done.0; out = done.1 }

pub returns : goal.returns
unfolding change_written change_out change_write_refusal
returns c =
    let a = c.args in
    let told : change_write_refusal a.out.now ≡ 0 = simp (le-ltb _ _ c.if-out-lt-CHANGE_SIZE.false) in
    let done = packet_written (change_packet a.id a.fields) a.out.now (change_write_refusal a.out.now) told c.put_change.ensures in
    record { answer = done.0; out = done.1 }
