-- `unicode_text::utf8::Utf8Encoding::encode` meets its contract.
-- Assumes nothing.
use mathlib.Core.Path.{refl}
use native.Mathlib.Omega.{arith}
use Rattle.octets.specs.Parts.{over}
use Rattle.unicode_text.proofs.utf8.Utf8Encoding.encode.Goals as goal

pub invariant_of-result : goal.invariant_of-result
unfolding over
invariant_of-result c = (omega arith, refl)

pub invariant_of-result-then-n-lt2048 : goal.invariant_of-result-then-n-lt2048
unfolding over
invariant_of-result-then-n-lt2048 c = (omega arith, refl)

pub invariant_of-result-then-n-lt65536 : goal.invariant_of-result-then-n-lt65536
unfolding over
invariant_of-result-then-n-lt65536 c = (omega arith, refl)

pub invariant_of-result-2 : goal.invariant_of-result-2
unfolding over
invariant_of-result-2 c = (omega arith, refl)
