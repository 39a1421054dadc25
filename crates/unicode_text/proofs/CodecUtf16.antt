-- UTF-16: a character is told from its octets, and only from them.
-- Assumes nothing.
use mathlib.Core.Bool.{Bool, true, false, cond, ◌&&◌, and-eq-true_iff}
use mathlib.Core.List.{List, [], ◌∷◌, ◌++◌}
use mathlib.Core.Logic.{⊎_elim}
use mathlib.Core.Path.{◌≡◌, refl, sym, ap, ap₂, ◌∙◌, subst}
use Prim.Native.Nat.{ℕ, ◌+◌, ◌-◌, ◌*◌, ◌≤◌, ◌<◌}
use native.Mathlib.Omega.{arith}
use borrow.Author.Tests.{lt-ltb, le-ltb, ltb-true, ltb-false, le-leb, leb-true}
use lib.Dec.{leb, ltb}
use lib.ListN.{length, take, drop, get_or}
use lib.Seq.{get_or-drop}
use Rattle.octets.specs.Numbers.{from_le, to_le}
use Rattle.octets.proofs.Listed.{part_written}
use Rattle.octets.proofs.Numbers.{Octets}
use Rattle.unicode_text.specs.declared.encoding.Char.{Char}
use Rattle.unicode_text.specs.Scalars.{is_scalar, decoded_as, malformed}
use Rattle.unicode_text.specs.Utf16.{high_of, low_of, utf16_of, is_high, is_low, char_from_units}
use Rattle.unicode_text.specs.Utf16.{unit_at}
use Rattle.unicode_text.specs.Utf16.{utf16_first}
use Rattle.unicode_text.proofs.Ranges.{between_both, inside, below, above, outside, scalar_low}
use Rattle.unicode_text.proofs.Ranges.{scalar_high, scalar_cases, scalar_most}
use Rattle.unicode_text.proofs.Texts.{Codec}

-- ---- the octets of a value

pub utf16_one : (n : ℕ) → n < 0x10000 → utf16_of n ≡ to_le 2 n
unfolding utf16_of
utf16_one n h = simp (lt-ltb n 0x10000 h)

pub utf16_two : (n : ℕ) → 0x10000 ≤ n → utf16_of n ≡ to_le 2 (high_of n) ++ to_le 2 (low_of n)
unfolding utf16_of
utf16_two n h = simp (le-ltb n 0x10000 h)

-- by how many units a value has
pub data Size (n : ℕ) : Type 0 where
  one : n < 0x10000 → Size n
  two : 0x10000 ≤ n → Size n

pub size : (n : ℕ) → Size n
size n = which (ltb n 0x10000) refl
  where
    which : (a : Bool) → ltb n 0x10000 ≡ a → Size n
    which true p = one (ltb-true n 0x10000 p)
    which false p = two (ltb-false n 0x10000 p)

some_octets : (n : ℕ) → 0 < length (utf16_of n)
some_octets n = by (size n)
  where
    by : Size n → 0 < length (utf16_of n)
    by (one h) = omega (arith, ap length (utf16_one n h))
    by (two h) = omega (arith, ap length (utf16_two n h))

pub two_units : (n : ℕ) → length (utf16_of n) ≤ 4
two_units n = by (size n)
  where
    by : Size n → length (utf16_of n) ≤ 4
    by (one h) = omega (arith, ap length (utf16_one n h))
    by (two h) = omega (arith, ap length (utf16_two n h))

-- ---- a character is told from its octets

-- the unit of two octets
unit_back : (n : ℕ) → n < 0x10000 → from_le (to_le 2 n) ≡ n
unit_back n h = omega arith

no_surrogate : (n : ℕ) → is_scalar n ≡ true → (is_high n ≡ false) × (is_low n ≡ false)
no_surrogate n s =
    ⊎_elim
    (λ h. (below 0xd800 0xdbff n h, below 0xdc00 0xdfff n (omega (arith, h))))
    (λ h. (above 0xd800 0xdbff n (omega (arith, h.0)), above 0xdc00 0xdfff n h.0))
    (scalar_cases n s)

told_one : (m u v n : ℕ) → is_scalar n ≡ true → 2 ≤ m → u ≡ n → char_from_units m u v ≡ decoded_as 2 n
told_one m u v n s h e =
    let k = no_surrogate n s in
    ap (λ (x : ℕ). char_from_units m x v) e ∙ simp (le-ltb m 2 h, k.0, k.1)

told_two : (m u v n : ℕ) → 4 ≤ m → is_high u ≡ true → is_low v ≡ true
    → 0x10000 + ((u - 0xd800) * 1024 + (v - 0xdc00)) ≡ n
    → char_from_units m u v ≡ decoded_as 4 n
told_two m u v n h t w e = simp (le-ltb m 2 (omega arith), t, w, le-leb 4 m h) (ap (decoded_as 4) e)

high_is : (n : ℕ) → n ≤ 0x10ffff → is_high (high_of n) ≡ true
high_is n h = inside 0xd800 0xdbff (high_of n) (omega arith) (omega arith)

low_is : (n : ℕ) → is_low (low_of n) ≡ true
low_is n = inside 0xdc00 0xdfff (low_of n) (omega arith) (omega arith)

pair_back : (n : ℕ) → 0x10000 ≤ n → 0x10000 + ((high_of n - 0xd800) * 1024 + (low_of n - 0xdc00)) ≡ n
pair_back n h = omega arith

read : (n : ℕ) (l : List ℕ) → is_scalar n ≡ true
    → utf16_first (utf16_of n ++ l) ≡ decoded_as (length (utf16_of n)) n
unfolding utf16_first
read n l s = by (size n)
  where
    from : (o : List ℕ) → utf16_of n ≡ o → utf16_first (o ++ l) ≡ decoded_as (length o) n
        → utf16_first (utf16_of n ++ l) ≡ decoded_as (length (utf16_of n)) n
    from o e p = subst (λ (x : List ℕ). utf16_first (x ++ l) ≡ decoded_as (length x) n) (sym e) p

    by : Size n → utf16_first (utf16_of n ++ l) ≡ decoded_as (length (utf16_of n)) n
    by (one h) =
        from (to_le 2 n) (utf16_one n h)
        (told_one (length (to_le 2 n ++ l)) (from_le (to_le 2 n)) (unit_at l 0) n s (omega arith)
        (unit_back n h))
    by (two h) =
        let m = scalar_most n s in
        let hi = unit_back (high_of n) (omega arith) in
        let lo = unit_back (low_of n) (omega arith) in
        let k = length ((to_le 2 (high_of n) ++ to_le 2 (low_of n)) ++ l) in
        from (to_le 2 (high_of n) ++ to_le 2 (low_of n)) (utf16_two n h)
        (ap₂ (λ (x y : ℕ). char_from_units k x y) hi lo
        ∙ told_two k (high_of n) (low_of n) n (omega arith) (high_is n m) (low_is n) (pair_back n h))

-- ---- and only from them

-- what char_from_units finds, with the tests that it made
data Told (m u v : ℕ) : Char → Type 0 where
  none : Told m u v malformed
  one : 2 ≤ m → is_high u ≡ false → is_low u ≡ false → Told m u v (decoded_as 2 u)
  two : 4 ≤ m → is_high u ≡ true → is_low v ≡ true
      → Told m u v (decoded_as 4 (0x10000 + ((u - 0xd800) * 1024 + (v - 0xdc00))))

found : (m u v : ℕ) → Told m u v (char_from_units m u v)
found m u v = by (ltb m 2) (is_high u) (leb 4 m && is_low v) (is_low u) refl refl refl refl
  where
    by : (p q r s : Bool) → ltb m 2 ≡ p → is_high u ≡ q → (leb 4 m && is_low v) ≡ r → is_low u ≡ s
        → Told m u v
        (cond p malformed
        (cond q (cond r (decoded_as 4 (0x10000 + ((u - 0xd800) * 1024 + (v - 0xdc00)))) malformed)
        (cond s malformed (decoded_as 2 u))))
    by true q r s ep eq er es = none
    by false true true s ep eq er es =
        let b = (and-eq-true_iff (leb 4 m) (is_low v)).0 er in
        two (leb-true 4 m b.0) eq b.1
    by false true false s ep eq er es = none
    by false false r true ep eq er es = none
    by false false r false ep eq er es = one (ltb-false m 2 ep) eq es

fits : (l : List ℕ) → 0 < length l → (utf16_first l).width ≤ length l
unfolding utf16_first
fits l h = by _ (found (length l) (unit_at l 0) (unit_at l 2))
  where
    by : (x : Char) → Told (length l) (unit_at l 0) (unit_at l 2) x → x.width ≤ length l
    by x none = omega arith
    by x (one p q r) = p
    by x (two p q r) = p

-- a unit that is no surrogate is a scalar value
unit_scalar : (u : ℕ) → u < 0x10000 → is_high u ≡ false → is_low u ≡ false → is_scalar u ≡ true
unit_scalar u h p q = which (ltb u 0xd800) refl
  where
    which : (t : Bool) → ltb u 0xd800 ≡ t → is_scalar u ≡ true
    which true e = scalar_low u (ltb-true u 0xd800 e)
    which false e =
        let a = outside 0xd800 0xdbff u p (ltb-false u 0xd800 e) in
        let b = outside 0xdc00 0xdfff u q a in
        scalar_high u b (omega arith)

abbrev Back : List ℕ → Char → Type 0
Back l x = (is_scalar x.value ≡ true) × (utf16_of x.value ≡ take x.width l)

-- two octets of their unit
octets_back : (a b : ℕ) → a < 256 → b < 256 → to_le 2 (from_le (a ∷ b ∷ [])) ≡ a ∷ b ∷ []
octets_back a b h k = ap₂ (λ (x y : ℕ). x ∷ y ∷ []) (omega arith) (omega arith)

pair_units : (u v : ℕ) → is_high u ≡ true → is_low v ≡ true
    → let n = 0x10000 + ((u - 0xd800) * 1024 + (v - 0xdc00)) in
    (0x10000 ≤ n) × (n ≤ 0x10ffff) × (high_of n ≡ u) × (low_of n ≡ v)
pair_units u v p q =
    let a = between_both 0xd800 0xdbff u p in
    let b = between_both 0xdc00 0xdfff v q in
    omega arith

back : (l : List ℕ) → Octets l → 0 < length l → 0 < (utf16_first l).width → Back l (utf16_first l)
unfolding utf16_first
back l o h p = by _ (found (length l) (unit_at l 0) (unit_at l 2)) p
  where
    first_two : to_le 2 (unit_at l 0) ≡ get_or l 0 0 ∷ get_or l 1 0 ∷ []
    first_two = octets_back (get_or l 0 0) (get_or l 1 0) (o 0) (o 1)

    next_two : to_le 2 (unit_at l 2) ≡ get_or l 2 0 ∷ get_or l 3 0 ∷ []
    next_two = octets_back (get_or l 2 0) (get_or l 3 0) (o 2) (o 3)

    by : (x : Char) → Told (length l) (unit_at l 0) (unit_at l 2) x → 0 < x.width → Back l x
    by x none p = absurd (omega (arith, p))
    by x (one q r s) p =
        let k : unit_at l 0 < 0x10000 = omega (arith, o 0, o 1) in (
          unit_scalar (unit_at l 0) k r s,
          utf16_one (unit_at l 0) k ∙ first_two
              ∙ sym (part_written 2 0 l q),
        )
    by x (two q r s) p =
        let k = pair_units (unit_at l 0) (unit_at l 2) r s in
        let n = 0x10000 + ((unit_at l 0 - 0xd800) * 1024 + (unit_at l 2 - 0xdc00)) in (
          scalar_high n (omega (arith, k.0)) k.1,
          utf16_two n k.0
              ∙ ap₂ (λ (x y : ℕ). to_le 2 x ++ to_le 2 y) k.2 k.3
              ∙ ap₂ ◌++◌ first_two next_two
              ∙ sym (part_written 4 0 l q),
        )

octets_kept : (w : ℕ) (l : List ℕ) → Octets l → Octets (drop w l)
octets_kept w l o i = subst (λ (x : ℕ). x < 256) (sym (get_or-drop w l i 0)) (o (w + i))

pub utf16_codec : Codec Octets utf16_first utf16_of
utf16_codec = record {
  read = read;
  back = back;
  fits = fits;
  some_octets = some_octets;
  kept = octets_kept;
}
