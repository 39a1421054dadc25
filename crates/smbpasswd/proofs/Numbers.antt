-- A decimal number of 32 bits, digit by digit.
-- Assumes nothing.
use mathlib.Core.Bool.{true, false, and-false}
use mathlib.Core.List.{List, [], ◌∷◌, map}
use mathlib.Core.Path.{◌≡◌, refl, sym, ap, ◌∙◌}
use Prim.Native.Nat.{ℕ, ◌+◌, ◌*◌, ◌≤◌, ◌<◌, ◌^◌}
use native.Mathlib.Omega.{arith}
use borrow.Author.Tests.{le-leb, lt-leb, lt-ltb, le-ltb}
use lib.Dec.{leb, ltb}
use lib.ListN.{length, get_or}
use Rattle.octets.specs.Digits.{digit_of, all_below, number_from}
use Rattle.octets.proofs.DigitLoop.{left, left_cons, left_end, below_first}
use Rattle.smbpasswd.specs.Summary.{value_of}
use Rattle.smbpasswd.specs.Inner.{number_in}
use Rattle.std.specs.Prelude.{Some, None}

-- ---- no number

module _ (s : List ℕ) where
  pub none_empty : length s ≡ 0 → None ≡ number_in s
  none_empty e = rw (lt-leb 1 (length s) (omega arith))

  pub none_other : all_below 10 (map digit_of s) ≡ false → None ≡ number_in s
  none_other d = rw (d, and-false (leb 1 (length s)))

  module _ (some : 1 ≤ length s) (d : all_below 10 (map digit_of s) ≡ true) where
    pub none_large : 2 ^ 32 ≤ value_of s → None ≡ number_in s
    none_large h = rw (le-leb 1 (length s) some, d, le-ltb (value_of s) (2 ^ 32) h)

    pub a_number : {v : ℕ} → v ≡ value_of s → v < 2 ^ 32 → Some v ≡ number_in s
    a_number {v} e h =
        let small : ltb (value_of s) (2 ^ 32) ≡ true = lt-ltb (value_of s) (2 ^ 32) (omega (arith, h, e)) in
        rw (le-leb 1 (length s) some, d, small) (ap Some e)

-- ---- digit by digit

-- further digits make a number no smaller
grows : (n : ℕ) (ds : List ℕ) → n ≤ number_from 10 n ds
grows n [] = omega arith
grows n (d ∷ ds) = omega (arith, grows (n * 10 + d) ds)

-- i digits are read, v is their number and fits 32 bits
pub record Read (s : List ℕ) (v i : ℕ) : Type 0 where
  pub small : v < 2 ^ 32
  pub value : number_from 10 v (left s i) ≡ value_of s
  pub below : all_below 10 (left s i) ≡ true
  pub within : i ≤ length s

pub none_read : (s : List ℕ) → all_below 10 (map digit_of s) ≡ true → Read s 0 0
none_read s d = record { small = omega arith; value = refl; below = d; within = omega arith }

module _ {s : List ℕ} {v i : ℕ} (r : Read s v i) (h : i < length s) {d : ℕ} (e : d ≡ digit_of (get_or s i 0)) where
  first : (digit_of (get_or s i 0) < 10) × (all_below 10 (left s (i + 1)) ≡ true)
  first = below_first 10 (digit_of (get_or s i 0)) (left s (i + 1)) (sym (ap (all_below 10) (left_cons s i h)) ∙ r.below)

  pub digit_small : d < 10
  digit_small = omega (arith, first.0)

  next_value : number_from 10 (v * 10 + d) (left s (i + 1)) ≡ value_of s
  next_value =
      ap (λ (x : ℕ). number_from 10 (v * 10 + x) (left s (i + 1))) e ∙ sym (ap (number_from 10 v) (left_cons s i h)) ∙ r.value

  -- one that does not fit never will
  pub too_large : 2 ^ 32 ≤ v * 10 + d → 2 ^ 32 ≤ value_of s
  too_large big = omega (arith, grows (v * 10 + d) (left s (i + 1)), next_value)

  pub one_read : v * 10 + d < 2 ^ 32 → Read s (v * 10 + d) (i + 1)
  one_read fits = record { small = fits; value = next_value; below = first.1; within = omega arith }

pub all_read : {s : List ℕ} {v i : ℕ} → Read s v i → length s ≤ i → v ≡ value_of s
all_read {s} {v} {i} r h = sym (ap (number_from 10 v) (left_end s i h)) ∙ r.value
