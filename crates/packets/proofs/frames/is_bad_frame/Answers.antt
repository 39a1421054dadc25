-- `packets::frames::is_bad_frame` meets its contract.
-- Assumes nothing.
use native.Mathlib.Omega.{arith}
use borrow.Author.Tests.{lt-ltb, le-ltb}
use lib.ListN.{length}
use Rattle.packets.specs.Frame.{length_of}
use Rattle.packets.proofs.frames.is_bad_frame.Goals as goal

pub returns-then-packet-lt-HEAD_SIZE : goal.returns-then-packet-lt-HEAD_SIZE
returns-then-packet-lt-HEAD_SIZE c = let p = c.args.packet.now in simp (lt-ltb (length p) 4 (omega arith))

pub returns-then-n-lt-HEAD_SIZE : goal.returns-then-n-lt-HEAD_SIZE
returns-then-n-lt-HEAD_SIZE c =
    let p = c.args.packet.now in
    simp (c.length-n.ensures, le-ltb (length p) 4 (omega arith), lt-ltb (length_of p) 4 (omega arith))

pub returns-else-n-lt-HEAD_SIZE : goal.returns-else-n-lt-HEAD_SIZE
returns-else-n-lt-HEAD_SIZE c =
    let p = c.args.packet.now in
    simp (le-ltb (length p) 4 (omega arith), le-ltb (length_of p) 4 (omega arith), c.length-n.ensures)
