-- `unicode_text::coded::Coded::append` meets its contract.
-- Assumes nothing.
use mathlib.Core.Path.{ap}
use Prim.Native.Nat.{◌+◌, ◌≤◌}
use native.Mathlib.Omega.{arith}
use lib.ListN.{length}
use Rattle.unicode_text.specs.Inner.{size_back}
use Rattle.unicode_text.proofs.Room.{more_blank}
use Rattle.unicode_text.proofs.coded.Coded.append.Goals as goal

pub invariant_of-self : goal.invariant_of-self
invariant_of-self g c =
    let s = c.self.inside in
    let fits : s.size + length c.args.piece.now ≤ g.row.N =
    omega (arith, c.requires, ap length c.self.view_is, size_back g.row.N s.size s.octets c.self.invariant) in
    (fits, more_blank g.row.N s.size s.octets c.args.piece.now c.copy_from_slice.new.self c.self.invariant fits c.copy_from_slice.ensures.after)
