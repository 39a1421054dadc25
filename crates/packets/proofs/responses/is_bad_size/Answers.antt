-- `packets::responses::is_bad_size` meets its contract.
-- Assumes nothing.
use native.Mathlib.Omega.{arith}
use borrow.Author.Tests.{lt-ltb, le-ltb}
use Rattle.packets.specs.Sizes.{shortest_response, longest_response}
use Rattle.packets.specs.Frame.{length_of}
use Rattle.packets.proofs.responses.is_bad_size.Goals as goal

pub returns-then-n-lt-SHORTEST_RESPONSE : goal.returns-then-n-lt-SHORTEST_RESPONSE
returns-then-n-lt-SHORTEST_RESPONSE c =
    let p = c.args.packet.now in simp (c.length-n.ensures, lt-ltb (length_of p) shortest_response (omega arith))

pub returns-then-n-gt-LONGEST_RESPONSE : goal.returns-then-n-gt-LONGEST_RESPONSE
returns-then-n-gt-LONGEST_RESPONSE c =
    let p = c.args.packet.now in
    simp (c.length-n.ensures, le-ltb (length_of p) shortest_response (omega arith), lt-ltb longest_response (length_of p) (omega arith))

pub returns-else-n-gt-LONGEST_RESPONSE : goal.returns-else-n-gt-LONGEST_RESPONSE
returns-else-n-gt-LONGEST_RESPONSE c =
    let p = c.args.packet.now in
    simp (le-ltb (length_of p) shortest_response (omega arith), le-ltb longest_response (length_of p) (omega arith), c.octet-size.ensures)
