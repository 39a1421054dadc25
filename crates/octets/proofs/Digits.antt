-- Laws of digits: one that is written is read back.
-- Assumes nothing.
use mathlib.Core.Path.{◌≡◌, refl, sym, subst}
use mathlib.Core.Bool.{Bool, true, false, ◌&&◌}
use Prim.Native.Nat.{ℕ, zero, suc, ◌<◌, ◌≤◌}
use native.Mathlib.Omega.{arith}
use borrow.Author.Tests.{eqb-true, eqb-false}
use lib.Arith.{lt_of_le-ne}
use lib.Dec.{T, eqb, leb, eqb→eq, leb→le}
use Rattle.octets.specs.Digits.{between, digit_of, hex_of}
use Rattle.octets.proofs.Bitwise.{both_left, both_right}

-- what lies between two bounds is at least the lower
pub between_low : (low high c : ℕ) → between low high c ≡ true → low ≤ c
between_low low high c e = leb→le low c (both_left (leb low c) (leb c high) (subst T (sym e) tt))

-- the test at each value below n
abbrev back : ℕ → Bool
back zero = true
back (suc n) = eqb (digit_of (hex_of n)) n && back n

below : (n v : ℕ) → T (back n) → v < n → digit_of (hex_of v) ≡ v
below zero v t h = absurd (omega (arith, h))
below (suc n) v t h = which (eqb v n) refl (λ k. below n v (both_right (eqb (digit_of (hex_of n)) n) (back n) t) k)
  where
    which : (b : Bool) → eqb v n ≡ b → (v < n → digit_of (hex_of v) ≡ v) → digit_of (hex_of v) ≡ v
    which true e rest = subst (λ (m : ℕ). digit_of (hex_of m) ≡ m) (sym (eqb-true v n e)) (eqb→eq (digit_of (hex_of n)) n (both_left (eqb (digit_of (hex_of n)) n) (back n) t))
    which false e rest = rest (lt_of_le-ne (omega arith) (eqb-false v n e))

pub digit_back : (v : ℕ) → v < 16 → digit_of (hex_of v) ≡ v
unfolding digit_of hex_of
digit_back v h = below 16 v tt h
