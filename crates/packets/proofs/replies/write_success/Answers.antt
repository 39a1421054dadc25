-- `packets::replies::write_success` meets its contract.
-- Assumes nothing.
use mathlib.Core.Path.{sym, ap}
use mathlib.Core.List.{[], append-nil}
use native.Mathlib.Omega.{arith}
use lib.ListN.{length}
use Rattle.packets.specs.Reply.{success_packet}
use Rattle.octets.proofs.Laid as laid
use Rattle.packets.proofs.Writing as writing
use Rattle.packets.proofs.replies.write_success.Goals as goal

pub returns-then-out-lt-HEAD_SIZE : goal.returns-then-out-lt-HEAD_SIZE
returns-then-out-lt-HEAD_SIZE c = writing.too_long _ _ (writing.length_success c.args.id) c.if-out-lt-HEAD_SIZE.true

pub returns : goal.returns
unfolding success_packet
returns c =
    let a = c.args in
    let head = c.head.ensures in
    (writing.framed_laid 3 a.id [] (laid.first 4 (ap length head) c.copy_at.ensures) head (sym (append-nil _))
    (omega arith)).1
