-- `packets::changes_one::write_change_one` meets its contract.
-- Assumes nothing.
use mathlib.Core.Path.{◌≡◌}
use borrow.Author.Tests.{lt-ltb, le-ltb}
use Rattle.refusals.specs.declared.Refusal.TheVariants.{Room}
use Rattle.packets.specs.ChangeOne.{change_one_packet, change_one_write_refusal, change_one_written}
use Rattle.packets.specs.ChangeOne.{change_one_out}
use Rattle.packets.proofs.Writing.{nothing_written, packet_written}
use Rattle.packets.proofs.changes_one.write_change_one.Goals as goal

pub returns-then-out-lt-CHANGE_ONE_SIZE : goal.returns-then-out-lt-CHANGE_ONE_SIZE
unfolding change_one_written change_one_out change_one_write_refusal
returns-then-out-lt-CHANGE_ONE_SIZE c =
    let a = c.args in
    let told : 9 ≡ change_one_write_refusal a.out.now = simp (lt-ltb _ _ c.if-out-lt-CHANGE_ONE_SIZE.true) in
    let done = nothing_written (change_one_packet a.id a.fields) a.out.now (change_one_write_refusal a.out.now) Room told in
    record { answer = done.0; out = done.1 }

pub returns : goal.returns
unfolding change_one_written change_one_out change_one_write_refusal
returns c =
    let a = c.args in
    let told : change_one_write_refusal a.out.now ≡ 0 = simp (le-ltb _ _ c.if-out-lt-CHANGE_ONE_SIZE.false) in
    let done = packet_written (change_one_packet a.id a.fields) a.out.now (change_one_write_refusal a.out.now) told c.put_change_one.ensures in
    record { answer = done.0; out = done.1 }
