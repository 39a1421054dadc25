-- `octets::masked` meets its contract.
-- Assumes nothing.
use mathlib.Core.Path.{◌≡◌, ap, ◌∙◌}
use Prim.Native.Nat.{ℕ, ◌^◌, ◌<◌}
use native.Mathlib.Nat.{mod-eq_of_lt}
use lib.Bits.{bit_and, bit_xor, and_zero_l, and_mask, and_comm, xor_zero_r, xor_comm, xor_lt}
use Rattle.octets.proofs.Xor.{xor_undo}
use Rattle.octets.proofs.masked.Goals as goal

under_255 : (x y : ℕ) → bit_xor x y < 2 ^ 8 → bit_xor y (bit_and 255 (bit_xor x y)) ≡ x
under_255 x y h =
    let d = bit_xor x y in
    ap (bit_xor y) (and_comm 255 d ∙ and_mask d 8 ∙ mod-eq_of_lt h) ∙ xor_comm y d ∙ xor_undo x y

under_0 : (x y : ℕ) → bit_xor y (bit_and 0 (bit_xor x y)) ≡ y
under_0 x y = ap (bit_xor y) (and_zero_l (bit_xor x y)) ∙ xor_zero_r y

pub returns : goal.returns
returns c =
    let x = c.args.x in
    let y = c.args.y in
    let by : ℕ → ℕ = λ m. bit_xor y (bit_and m (bit_xor x y)) in (
      λ e. ap by e ∙ under_255 x y (xor_lt 8 x y c.ranges.x.fits c.ranges.y.fits),
      λ e. ap by e ∙ under_0 x y,
    )
