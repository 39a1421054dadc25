-- PC-2 by seven bits of C and D at a time and by the two halves, with the bits of a round key as
-- FIPS 46-2 numbers them (Choices has both as a stored round key has them).
-- Assumes nothing.
use mathlib.Core.Path.{◌≡◌, sym, ap₂, ◌∙◌}
use Prim.Native.Nat.{ℕ, ◌+◌, ◌*◌, ◌/◌, ◌%◌, ◌^◌, ◌<◌}
use native.Mathlib.Nat.{mod-lt}
use lib.Arith.{digits_lt}
use lib.Bits.{bit_xor, bit_and}
use lib.Pow.{pow_pos, high, low}
use Rattle.des.specs.Tables.{pc2}
use Rattle.des.specs.Des.{permute}
use Rattle.des.specs.Inner.{chosen_at}
use Rattle.des.proofs.Linear.{Linear, agree, lin_id, lin_after, lin_xor, lin_shr, lin_mod, lin_shl}
use Rattle.des.proofs.Linear.{lin_mask}
use Rattle.des.proofs.Permute.{lin_permute}

lin_chosen : (s : ℕ) {g : ℕ → ℕ} → Linear g → Linear (λ x. chosen_at s (g x))
unfolding chosen_at
lin_chosen s lg = lin_after (lin_permute 56 pc2) (lin_xor (lin_shl (s + 28) lg) (lin_shl s lg))

-- seven bits, k places from the end
seven : (k : ℕ) → Linear (λ x. chosen_at k (x / 2 ^ k % 2 ^ 7))
seven k = lin_chosen k (lin_mod 7 (lin_shr k lin_id))

abbrev by_sevens : ℕ → ℕ
by_sevens x =
    bit_xor (bit_xor (bit_xor (chosen_at 21 (x / 2 ^ 21 % 2 ^ 7)) (chosen_at 14 (x / 2 ^ 14 % 2 ^ 7))) (chosen_at 7 (x / 2 ^ 7 % 2 ^ 7)))
    (chosen_at 0 (x / 2 ^ 0 % 2 ^ 7))

-- four times seven bits are all 28
pub sevens : (x : ℕ) → x < 2 ^ 64 → by_sevens x ≡ chosen_at 0 (x % 2 ^ 28)
unfolding chosen_at pc2
sevens =
    agree by_sevens (λ x. chosen_at 0 (x % 2 ^ 28)) (lin_xor (lin_xor (lin_xor (seven 21) (seven 14)) (seven 7)) (seven 0))
    (lin_chosen 0 (lin_mod 28 lin_id)) 64 tt

abbrev by_halves : ℕ → ℕ → ℕ
by_halves c d = bit_xor (bit_and (chosen_at 0 c) 0xFFFF_FF00_0000) (bit_and (chosen_at 0 d) 0xFF_FFFF)

-- the first 24 bits are from C, the last 24 from D
halves : (x : ℕ) → x < 2 ^ 56 → by_halves (x / 2 ^ 28) (x % 2 ^ 28) ≡ permute 56 pc2 x
unfolding chosen_at pc2
halves =
    agree (λ x. by_halves (x / 2 ^ 28) (x % 2 ^ 28)) (permute 56 pc2)
    (lin_xor (lin_mask 0xFFFF_FF00_0000 (lin_chosen 0 (lin_shr 28 lin_id))) (lin_mask 0xFF_FFFF (lin_chosen 0 (lin_mod 28 lin_id))))
    (lin_permute 56 pc2) 56 tt

pub by_halves_lem : (c d : ℕ) {u v : ℕ} → u ≡ chosen_at 0 (c % 2 ^ 28) → v ≡ chosen_at 0 (d % 2 ^ 28)
    → bit_xor (bit_and u 0xFFFF_FF00_0000) (bit_and v 0xFF_FFFF) ≡ permute 56 pc2 (c % 2 ^ 28 * 2 ^ 28 + d % 2 ^ 28)
by_halves_lem c d eu ev =
    let a = c % 2 ^ 28 in
    let b = d % 2 ^ 28 in
    let hb = mod-lt d (pow_pos 28) in
    ap₂ (λ (u v : ℕ). bit_xor (bit_and u 0xFFFF_FF00_0000) (bit_and v 0xFF_FFFF)) eu ev
    ∙ ap₂ by_halves (sym (high a 28 hb)) (sym (low a 28 hb))
    ∙ halves (a * 2 ^ 28 + b) (digits_lt (mod-lt c (pow_pos 28)) hb)
