-- `md4::digest_of` meets its contract.
-- Assumes nothing.
use mathlib.Core.Path.{ap, ◌∙◌}
use mathlib.Core.List.{List}
use Prim.Native.Nat.{ℕ}
use Rattle.octets.specs.Parts.{part, over, fixed}
use Rattle.md4.specs.Md4.{digest_of}
use Rattle.md4.proofs.digest_of.Goals as goal

pub returns : goal.returns
unfolding digest_of over
returns c =
    let words =
    simp (c.u32_to_le.ensures, c.u32_to_le-2.ensures, c.u32_to_le-3.ensures, c.u32_to_le-4.ensures) at c.as_flattened.ensures.value in
    c.array_at.ensures ∙ ap (λ (l : List ℕ). fixed 16 (part 0 16 l)) words
