-- The five exchanges of bits that make IP, and the same in the opposite order, which make its
-- inverse.
-- Assumes nothing.
use mathlib.Core.Path.{◌≡◌}
use Prim.Native.Nat.{ℕ, ◌^◌, ◌<◌}
use Rattle.des.specs.Tables.{ip, fp}
use Rattle.des.specs.Des.{permute}
use Rattle.des.specs.Inner.{bits_swapped}
use Rattle.des.proofs.Linear.{Linear, agree, lin_id, lin_xor, lin_shr, lin_mod, lin_shl, lin_mask}
use Rattle.des.proofs.Permute.{lin_permute}

lin_swapped : (n m : ℕ) {g : ℕ → ℕ} → Linear g → Linear (λ x. bits_swapped n m (g x))
unfolding bits_swapped
lin_swapped n m lg =
    let kept = lin_mask m (lin_xor (lin_shr n lg) lg) in
    lin_xor (lin_xor lg kept) (lin_mod 64 (lin_shl n kept))

module _ (n₁ m₁ n₂ m₂ n₃ m₃ n₄ m₄ n₅ m₅ : ℕ) where
  abbrev five : ℕ → ℕ
  five x = bits_swapped n₅ m₅ (bits_swapped n₄ m₄ (bits_swapped n₃ m₃ (bits_swapped n₂ m₂ (bits_swapped n₁ m₁ x))))

  lin_five : Linear five
  lin_five = lin_swapped n₅ m₅ (lin_swapped n₄ m₄ (lin_swapped n₃ m₃ (lin_swapped n₂ m₂ (lin_swapped n₁ m₁ lin_id))))

abbrev ip_swaps : ℕ → ℕ
ip_swaps = five 3 0x1111_1111_1111_1111 9 0x0055_0055_0055_0055 6 0x0303_0303_0303_0303 18 0x0000_3333_0000_3333 36 0x0000_0000_0f0f_0f0f

abbrev fp_swaps : ℕ → ℕ
fp_swaps = five 36 0x0000_0000_0f0f_0f0f 18 0x0000_3333_0000_3333 6 0x0303_0303_0303_0303 9 0x0055_0055_0055_0055 3 0x1111_1111_1111_1111

pub ip_swaps_lem : (x : ℕ) → x < 2 ^ 64 → ip_swaps x ≡ permute 64 ip x
unfolding ip bits_swapped
ip_swaps_lem = agree ip_swaps (permute 64 ip) (lin_five 3 _ 9 _ 6 _ 18 _ 36 _) (lin_permute 64 ip) 64 tt

pub fp_swaps_lem : (x : ℕ) → x < 2 ^ 64 → fp_swaps x ≡ permute 64 fp x
unfolding fp bits_swapped
fp_swaps_lem = agree fp_swaps (permute 64 fp) (lin_five 36 _ 18 _ 6 _ 9 _ 3 _) (lin_permute 64 fp) 64 tt
