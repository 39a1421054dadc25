-- `packets::replies::is_bad_challenge` meets its contract.
-- Assumes nothing.
use native.Mathlib.Omega.{arith}
use borrow.Author.Tests.{lt-ltb, le-ltb, eq-eqb, ne_eqb}
use Rattle.packets.specs.Frame.{octet, length_of}
use Rattle.packets.proofs.replies.is_bad_challenge.Goals as goal

pub returns-then-code-ne-CHALLENGE_CODE : goal.returns-then-code-ne-CHALLENGE_CODE
returns-then-code-ne-CHALLENGE_CODE c =
    let p = c.args.packet.now in
    simp (c.octet-code.ensures, ne_eqb (octet 0 p) 1 (omega arith))

pub returns-then-n-lt-CHALLENGE_LENGTH : goal.returns-then-n-lt-CHALLENGE_LENGTH
returns-then-n-lt-CHALLENGE_LENGTH c =
    let p = c.args.packet.now in
    simp (c.length-n.ensures, eq-eqb (octet 0 p) 1 (omega arith), lt-ltb (length_of p) 13 (omega arith))

pub returns-else-n-lt-CHALLENGE_LENGTH : goal.returns-else-n-lt-CHALLENGE_LENGTH
returns-else-n-lt-CHALLENGE_LENGTH c =
    let p = c.args.packet.now in
    simp (eq-eqb (octet 0 p) 1 (omega arith), le-ltb (length_of p) 13 (omega arith), c.octet-size.ensures)
