-- `unicode_text::coded::Coded::new` meets its contract.
-- Assumes nothing.
use native.Mathlib.Omega.{arith}
use Rattle.unicode_text.proofs.Room.{begun_blank}
use Rattle.unicode_text.proofs.coded.Coded.new.Goals as goal

pub invariant_of-result : goal.invariant_of-result
invariant_of-result g c = (omega arith, begun_blank g.row.N)
