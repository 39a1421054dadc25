-- Laws of numbers as digits and as octets, over the width: each reading undoes the writing and each
-- writing the reading.
-- Assumes nothing.
use mathlib.Core.Path.{◌≡◌, refl, sym, ap, ap₂, ◌∙◌, subst}
use mathlib.Core.List.{List, [], ◌∷◌, ◌++◌}
use Prim.Native.Nat.{ℕ, zero, suc, ◌+◌, ◌*◌, ◌/◌, ◌%◌, ◌^◌, ◌<◌}
use native.Mathlib.Nat.{mod-one, add_comm, add_assoc, add-mul, mul_assoc, mul-suc, mul-zero}
use native.Mathlib.Nat.{zero-mul, zero-add}
use native.Mathlib.Omega.{arith}
use lib.Arith.{digits_lt, digits_mod}
use lib.ListN.{length, get_or}
use lib.Pow.{pow-add, pow_pos, high, mod-pow-add}
use Rattle.octets.specs.Numbers.{from_digits, to_digits, from_be, to_be, from_le, to_le}

-- each element is below m
abbrev pub Below : ℕ → List ℕ → Type 0
Below m l = (i : ℕ) → get_or l i 0 < m

abbrev pub Octets : List ℕ → Type 0
Octets l = Below 256 l

-- ---- the most significant digit first

next : (w n : ℕ) → w + w * n ≡ w * suc n
next w n = add_comm w (w * n) ∙ sym (mul-suc w n)

-- one more digit of w bits
pub one_more : (w n : ℕ) → 2 ^ w * 2 ^ (w * n) ≡ 2 ^ (w * suc n)
one_more w n = sym (pow-add 2 w (w * n)) ∙ ap (λ (k : ℕ). 2 ^ k) (next w n)

module _ (w : ℕ) where
  pub length_digits : (n x : ℕ) → length (to_digits w n x) ≡ n
  length_digits zero x = refl
  length_digits (suc n) x = ap suc (length_digits n x)

  pub digits_below : (l : List ℕ) → Below (2 ^ w) l → from_digits w l < 2 ^ (w * length l)
  digits_below [] h = pow_pos (w * 0)
  digits_below (d ∷ ds) h =
      subst (λ (p : ℕ). from_digits w (d ∷ ds) < p) (one_more w (length ds)) (digits_lt (h 0) (digits_below ds (λ i. h (suc i))))

  pub from_to : (n x : ℕ) → from_digits w (to_digits w n x) ≡ x % 2 ^ (w * n)
  from_to zero x = sym (ap (λ (k : ℕ). x % 2 ^ k) (mul-zero w) ∙ mod-one x)
  from_to (suc n) x =
      ap₂ (λ (k r : ℕ). x / 2 ^ (w * n) % 2 ^ w * 2 ^ (w * k) + r) (length_digits n x) (from_to n x)
      ∙ sym (mod-pow-add x w (w * n)) ∙ ap (λ (k : ℕ). x % 2 ^ k) (next w n)

  -- a digit joined to the number before it
  regroup : (a d n x : ℕ) → a * 2 ^ (w * suc n) + (d * 2 ^ (w * n) + x) ≡ (a * 2 ^ w + d) * 2 ^ (w * n) + x
  regroup a d n x =
      let p = 2 ^ (w * n) in
      ap (λ (q : ℕ). a * q + (d * p + x)) (sym (one_more w n))
      ∙ sym (add_assoc (a * (2 ^ w * p)) (d * p) x)
      ∙ ap (λ (v : ℕ). v + x) (ap (λ (v : ℕ). v + d * p) (sym (mul_assoc a (2 ^ w) p)) ∙ sym (add-mul (a * 2 ^ w) d p))

  -- digits that were joined, with any number before them, are found again
  found_after : (l : List ℕ) → Below (2 ^ w) l → (a : ℕ) → to_digits w (length l) (a * 2 ^ (w * length l) + from_digits w l) ≡ l
  found_after [] h a = refl
  found_after (d ∷ ds) h a =
      let n = length ds in
      ap (to_digits w (suc n)) (regroup a d n (from_digits w ds))
      ∙ ap₂ (λ (v : ℕ) (m : List ℕ). v ∷ m)
      (ap (λ (v : ℕ). v % 2 ^ w) (high (a * 2 ^ w + d) (w * n) (digits_below ds (λ i. h (suc i)))) ∙ digits_mod a (h 0))
      (found_after ds (λ i. h (suc i)) (a * 2 ^ w + d))

  pub to_from : (l : List ℕ) → Below (2 ^ w) l → to_digits w (length l) (from_digits w l) ≡ l
  to_from l h =
      let x = from_digits w l in
      ap (to_digits w (length l)) (sym (ap (λ (v : ℕ). v + x) (zero-mul (2 ^ (w * length l))) ∙ zero-add x)) ∙ found_after l h 0

-- as octets

pub from_be-lt : (l : List ℕ) → Octets l → from_be l < 2 ^ (8 * length l)
from_be-lt l h = digits_below 8 l h

pub from_be-to_be : (n x : ℕ) → from_be (to_be n x) ≡ x % 2 ^ (8 * n)
from_be-to_be n x = from_to 8 n x

pub to_be-from_be : (l : List ℕ) → Octets l → to_be (length l) (from_be l) ≡ l
to_be-from_be l h = to_from 8 l h

-- ---- the least significant octet first

pub length-to_le : (n x : ℕ) → length (to_le n x) ≡ n
length-to_le zero x = refl
length-to_le (suc n) x = ap suc (length-to_le n (x / 256))

pub from_le-to_le : (n x : ℕ) → from_le (to_le n x) ≡ x % 2 ^ (8 * n)
from_le-to_le zero x = sym (mod-one x)
from_le-to_le (suc n) x =
    ap (λ (r : ℕ). x % 256 + 256 * r) (from_le-to_le n (x / 256))
    ∙ omega (arith, mod-pow-add x (8 * n) 8)
    ∙ ap (λ (k : ℕ). x % 2 ^ k) turned
  where
    turned : 8 * n + 8 ≡ 8 * suc n
    turned = omega arith

pub to_le-from_le : (l : List ℕ) → Octets l → to_le (length l) (from_le l) ≡ l
to_le-from_le [] h = refl
to_le-from_le (b ∷ bs) h =
    let q : (b + 256 * from_le bs) / 256 ≡ from_le bs = omega (arith, h 0) in
    ap₂ (λ (x : ℕ) (l : List ℕ). x ∷ l) (omega (arith, h 0)) (ap (to_le (length bs)) q ∙ to_le-from_le bs (λ i. h (suc i)))

-- ---- octets

pub octets_append : (l m : List ℕ) → Octets l → Octets m → Octets (l ++ m)
octets_append [] m h k i = k i
octets_append (x ∷ l) m h k zero = h 0
octets_append (x ∷ l) m h k (suc i) = octets_append l m (λ j. h (suc j)) k i

pub octets-to_le : (n x : ℕ) → Octets (to_le n x)
octets-to_le zero x i = omega arith
octets-to_le (suc n) x zero = omega arith
octets-to_le (suc n) x (suc i) = octets-to_le n (x / 256) i

pub octets-to_be : (n x : ℕ) → Octets (to_be n x)
octets-to_be zero x i = omega arith
octets-to_be (suc n) x zero = omega arith
octets-to_be (suc n) x (suc i) = octets-to_be n x i
