-- The auxiliary functions in fewer operations.
-- Assumes nothing.
use Rattle.std.proofs.Common.{◌≡◌, ℕ, ◌+◌, ◌-◌, ◌%◌, ◌^◌, ◌<◌, [], ◌∷◌, sym, ap, ◌∙◌, ap₂}
use Rattle.std.proofs.Common.{mod-eq_of_lt, arith}
use lib.Bits.{bit_and, bit_or, bit_xor, and_mask, xor_add_and, or_disjoint, or_lt, and_lt}
use Rattle.octets.proofs.Bitwise.{at, none, and, or, xor, bitwise}
use Rattle.md4.specs.Md4.{aux_f, aux_g}

-- the complement of a word is its exclusive or with all ones
complement : (x : ℕ) → x < 2 ^ 32 → 2 ^ 32 - 1 - x ≡ bit_xor x (2 ^ 32 - 1)
complement x h = omega (arith, xor_add_and x (2 ^ 32 - 1), and_mask x 32, mod-eq_of_lt h)

-- m stands for all ones: a word masked by it is the word
pub choose_right : (x y z : ℕ) → x < 2 ^ 32 → z < 2 ^ 32 → bit_xor (bit_and (bit_xor y z) x) z ≡ aux_f x y z
choose_right x y z hx hz =
    let m : ℕ = 2 ^ 32 - 1 in
    let z₁ : z ≡ bit_and z m = sym (and_mask z 32 ∙ mod-eq_of_lt hz) in
    ap (λ (v : ℕ). bit_xor (bit_and (bit_xor y v) x) v) z₁
    ∙ bitwise (xor (and (xor (at 1) (and (at 2) (at 3))) (at 0)) (and (at 2) (at 3))) (or (and (at 0) (at 1)) (and (xor (at 0) (at 3)) (and (at 2) (at 3)))) (x ∷ y ∷ z ∷ m ∷ []) tt
    ∙ ap₂ (λ (u v : ℕ). bit_or (bit_and x y) (bit_and u v)) (sym (complement x hx)) (sym z₁)

-- the two terms have no bit in common, so that their sum is their union
pub majority_right : (x y z : ℕ) → x < 2 ^ 32 → y < 2 ^ 32 → z < 2 ^ 32 → (bit_and y z + bit_and x (bit_xor y z)) % 2 ^ 32 ≡ aux_g x y z
majority_right x y z hx hy hz =
    ap (λ (v : ℕ). v % 2 ^ 32)
    (sym (or_disjoint (bit_and y z) (bit_and x (bit_xor y z)) (bitwise (and (and (at 1) (at 2)) (and (at 0) (xor (at 1) (at 2)))) none (x ∷ y ∷ z ∷ []) tt))
    ∙ bitwise (or (and (at 1) (at 2)) (and (at 0) (xor (at 1) (at 2)))) (or (or (and (at 0) (at 1)) (and (at 0) (at 2))) (and (at 1) (at 2))) (x ∷ y ∷ z ∷ []) tt)
    ∙ mod-eq_of_lt (or_lt 32 (bit_or (bit_and x y) (bit_and x z)) (bit_and y z) (or_lt 32 (bit_and x y) (bit_and x z) (and_lt 32 x y hx hy) (and_lt 32 x z hx hz)) (and_lt 32 y z hy hz))
