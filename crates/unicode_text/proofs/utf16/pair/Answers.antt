-- `unicode_text::utf16::pair` meets its contract.
-- Assumes nothing.
use mathlib.Core.Path.{refl}
use native.Mathlib.Omega.{arith}
use Rattle.octets.specs.Parts.{over}
use Rattle.unicode_text.proofs.utf16.pair.Goals as goal

pub invariant_of-result : goal.invariant_of-result
unfolding over
invariant_of-result c = (omega arith, refl)
