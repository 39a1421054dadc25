-- What lies between two bounds and what does not, and the ranges of the scalar values.
-- Assumes nothing.
use mathlib.Core.Bool.{Bool, true, false, ◌&&◌, ◌||◌, and-eq-true_iff, and-false, false≢true}
use mathlib.Core.Logic.{◌⊎◌, inl, inr, ⊎_elim}
use mathlib.Core.Path.{◌≡◌, refl, sym, ap, ap₂, ◌∙◌}
use Prim.Native.Nat.{ℕ, ◌≤◌, ◌<◌}
use native.Mathlib.Omega.{arith}
use borrow.Author.Tests.{le-leb, lt-leb, leb-true, leb-false, lt-ltb, le-ltb, ltb-true}
use lib.Dec.{leb, ltb}
use Rattle.octets.specs.Digits.{between}
use Rattle.unicode_text.specs.Scalars.{is_scalar}

pub between_both : (low high c : ℕ) → between low high c ≡ true → (low ≤ c) × (c ≤ high)
between_both low high c e =
    let both = (and-eq-true_iff (leb low c) (leb c high)).0 e in
    (leb-true low c both.0, leb-true c high both.1)

pub inside : (low high c : ℕ) → low ≤ c → c ≤ high → between low high c ≡ true
inside low high c a b = ap₂ ◌&&◌ (le-leb low c a) (le-leb c high b)

pub below : (low high c : ℕ) → c < low → between low high c ≡ false
below low high c h = ap (λ (t : Bool). t && leb c high) (lt-leb low c h)

pub above : (low high c : ℕ) → high < c → between low high c ≡ false
above low high c h = ap (λ (t : Bool). leb low c && t) (lt-leb c high h) ∙ and-false (leb low c)

pub outside : (low high c : ℕ) → between low high c ≡ false → low ≤ c → high < c
outside low high c e a = which (leb c high) refl
  where
    which : (t : Bool) → leb c high ≡ t → high < c
    which true p = absurd (false≢true (sym e ∙ inside low high c a (leb-true c high p)))
    which false p = leb-false c high p

-- ---- scalar values

pub scalar_low : (n : ℕ) → n < 0xd800 → is_scalar n ≡ true
scalar_low n h = ap (λ (t : Bool). t || between 0xe000 0x10ffff n) (lt-ltb n 0xd800 h)

pub scalar_high : (n : ℕ) → 0xe000 ≤ n → n ≤ 0x10ffff → is_scalar n ≡ true
scalar_high n a b =
    ap₂ ◌||◌ (le-ltb n 0xd800 (omega (arith, a))) (inside 0xe000 0x10ffff n a b)

pub scalar_cases : (n : ℕ) → is_scalar n ≡ true → (n < 0xd800) ⊎ ((0xe000 ≤ n) × (n ≤ 0x10ffff))
scalar_cases n e = which (ltb n 0xd800) refl e
  where
    which : (t : Bool) → ltb n 0xd800 ≡ t → (t || between 0xe000 0x10ffff n) ≡ true
        → (n < 0xd800) ⊎ ((0xe000 ≤ n) × (n ≤ 0x10ffff))
    which true p q = inl (ltb-true n 0xd800 p)
    which false p q = inr (between_both 0xe000 0x10ffff n q)

pub scalar_most : (n : ℕ) → is_scalar n ≡ true → n ≤ 0x10ffff
scalar_most n e = ⊎_elim (λ h. omega (arith, h)) (λ h. h.1) (scalar_cases n e)
