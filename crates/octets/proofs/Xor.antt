-- Laws of exclusive or and of masks that lib.Bits lacks, each one computed test.
-- Assumes nothing.
use mathlib.Core.Path.{◌≡◌, sym, ap, ◌∙◌}
use mathlib.Core.List.{[], ◌∷◌}
use Prim.Native.Nat.{ℕ}
use lib.Bits.{bit_and, bit_xor, xor_zero_l}
use Rattle.octets.proofs.Bitwise.{at, and, xor, bitwise}

-- the middle two change places
pub xor_swap : (a b c d : ℕ) → bit_xor (bit_xor a b) (bit_xor c d) ≡ bit_xor (bit_xor a c) (bit_xor b d)
xor_swap a b c d =
    bitwise (xor (xor (at 0) (at 1)) (xor (at 2) (at 3))) (xor (xor (at 0) (at 2)) (xor (at 1) (at 3))) (a ∷ b ∷ c ∷ d ∷ []) tt

-- the second operand twice
pub xor_undo : (a b : ℕ) → bit_xor (bit_xor a b) b ≡ a
xor_undo a b = bitwise (xor (xor (at 0) (at 1)) (at 1)) (at 0) (a ∷ b ∷ []) tt

-- a mask passes through
pub and_xor : (a b m : ℕ) → bit_and (bit_xor a b) m ≡ bit_xor (bit_and a m) (bit_and b m)
and_xor a b m = bitwise (and (xor (at 0) (at 1)) (at 2)) (xor (and (at 0) (at 2)) (and (at 1) (at 2))) (a ∷ b ∷ m ∷ []) tt

-- numbers that differ nowhere are equal
pub xor_none : (a b : ℕ) → bit_xor a b ≡ 0 → a ≡ b
xor_none a b e = sym (xor_undo a b) ∙ ap (λ (x : ℕ). bit_xor x b) e ∙ xor_zero_l b
