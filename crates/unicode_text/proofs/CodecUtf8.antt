-- UTF-8: a character is told from its octets, and only from them.
-- Assumes nothing.
use mathlib.Core.Bool.{Bool, true, false, cond, ◌&&◌, and-eq-true_iff, false≢true}
use mathlib.Core.List.{List, [], ◌∷◌, ◌++◌}
use mathlib.Core.Path.{◌≡◌, refl, sym, ap, ap₂, ◌∙◌, subst}
use Prim.Native.Nat.{ℕ, ◌+◌, ◌*◌, ◌/◌, ◌%◌, ◌≤◌, ◌<◌}
use native.Mathlib.Omega.{arith}
use borrow.Author.Tests.{lt-ltb, le-ltb, ltb-true, ltb-false, le-leb, leb-true, leb-false}
use lib.Dec.{leb, ltb}
use lib.ListN.{length, take, get_or, get_or-eq_default}
use Rattle.octets.specs.Digits.{between}
use Rattle.octets.proofs.Listed.{part_written}
use Rattle.unicode_text.specs.declared.encoding.Char.{Char}
use Rattle.unicode_text.specs.Scalars.{is_scalar, decoded_as, malformed}
use Rattle.unicode_text.specs.Utf8.{tail, utf8_of, is_tail, char_if_valid, char_from_octets}
use Rattle.unicode_text.specs.Utf8.{utf8_first}
use Rattle.unicode_text.proofs.Ranges.{between_both, inside, above, scalar_low, scalar_most}
use Rattle.unicode_text.proofs.Texts.{Codec}

-- ---- the octets of a value

pub utf8_one : (n : ℕ) → n < 0x80 → utf8_of n ≡ n ∷ []
unfolding utf8_of
utf8_one n h = simp (lt-ltb n 0x80 h)

pub utf8_two : (n : ℕ) → 0x80 ≤ n → n < 0x800 → utf8_of n ≡ (0xc0 + n / 64) ∷ tail n ∷ []
unfolding utf8_of
utf8_two n h k = simp (le-ltb n 0x80 h, lt-ltb n 0x800 k)

pub utf8_three : (n : ℕ) → 0x800 ≤ n → n < 0x10000
    → utf8_of n ≡ (0xe0 + n / 4096) ∷ tail (n / 64) ∷ tail n ∷ []
unfolding utf8_of
utf8_three n h k = simp (le-ltb n 0x80 (omega arith), le-ltb n 0x800 h, lt-ltb n 0x10000 k)

pub utf8_four : (n : ℕ) → 0x10000 ≤ n
    → utf8_of n ≡ (0xf0 + n / 262144 % 8) ∷ tail (n / 4096) ∷ tail (n / 64) ∷ tail n ∷ []
unfolding utf8_of
utf8_four n h =
    simp (le-ltb n 0x80 (omega arith), le-ltb n 0x800 (omega arith), le-ltb n 0x10000 h)

-- by how many octets a value has
pub data Size (n : ℕ) : Type 0 where
  one : n < 0x80 → Size n
  two : 0x80 ≤ n → n < 0x800 → Size n
  three : 0x800 ≤ n → n < 0x10000 → Size n
  four : 0x10000 ≤ n → Size n

pub size : (n : ℕ) → Size n
size n = which (ltb n 0x80) (ltb n 0x800) (ltb n 0x10000) refl refl refl
  where
    which : (a b c : Bool) → ltb n 0x80 ≡ a → ltb n 0x800 ≡ b → ltb n 0x10000 ≡ c → Size n
    which true b c p q r = one (ltb-true n 0x80 p)
    which false true c p q r = two (ltb-false n 0x80 p) (ltb-true n 0x800 q)
    which false false true p q r = three (ltb-false n 0x800 q) (ltb-true n 0x10000 r)
    which false false false p q r = four (ltb-false n 0x10000 r)

some_octets : (n : ℕ) → 0 < length (utf8_of n)
some_octets n = by (size n)
  where
    by : Size n → 0 < length (utf8_of n)
    by (one h) = omega (arith, ap length (utf8_one n h))
    by (two h k) = omega (arith, ap length (utf8_two n h k))
    by (three h k) = omega (arith, ap length (utf8_three n h k))
    by (four h) = omega (arith, ap length (utf8_four n h))

pub at_most_four : (n : ℕ) → length (utf8_of n) ≤ 4
at_most_four n = by (size n)
  where
    by : Size n → length (utf8_of n) ≤ 4
    by (one h) = omega (arith, ap length (utf8_one n h))
    by (two h k) = omega (arith, ap length (utf8_two n h k))
    by (three h k) = omega (arith, ap length (utf8_three n h k))
    by (four h) = omega (arith, ap length (utf8_four n h))

pub at_most_three : (n : ℕ) → n < 0x10000 → length (utf8_of n) ≤ 3
at_most_three n m = by (size n)
  where
    by : Size n → length (utf8_of n) ≤ 3
    by (one h) = omega (arith, ap length (utf8_one n h))
    by (two h k) = omega (arith, ap length (utf8_two n h k))
    by (three h k) = omega (arith, ap length (utf8_three n h k))
    by (four h) = absurd (omega (arith, m, h))

-- ---- a character is told from its octets

tail_is : (n : ℕ) → is_tail (tail n) ≡ true
tail_is n = inside 0x80 0xbf (tail n) (omega arith) (omega arith)

-- a value with its tails is told where it has no shorter form
told_good : (w least : ℕ) {tails : Bool} {v n : ℕ} → tails ≡ true → v ≡ n → least ≤ n
    → is_scalar n ≡ true
    → char_if_valid w least tails v ≡ decoded_as w n
told_good w least {tails} {v} {n} t e h s =
    ap₂ (λ (b : Bool) (x : ℕ). char_if_valid w least b x) t e
    ∙ ap₂ (λ (a b : Bool). cond (a && b) (decoded_as w n) malformed) (le-leb least n h) s

-- the values that the octets tell, by their number
abbrev pub value_two : ℕ → ℕ → ℕ
value_two a b = a % 32 * 64 + b % 64

abbrev pub value_three : ℕ → ℕ → ℕ → ℕ
value_three a b c = a % 16 * 4096 + b % 64 * 64 + c % 64

abbrev pub value_four : ℕ → ℕ → ℕ → ℕ → ℕ
value_four a b c d = a % 8 * 262144 + b % 64 * 4096 + c % 64 * 64 + d % 64

-- by the range of the first octet
module _ (a b c d : ℕ) (h : 0x80 ≤ a) where
  pub from_two : between 0xc0 0xdf a ≡ true
      → char_from_octets a b c d ≡ char_if_valid 2 0x80 (is_tail b) (value_two a b)
  from_two p = simp (le-ltb a 0x80 h, p)

  pub from_three : between 0xc0 0xdf a ≡ false → between 0xe0 0xef a ≡ true
      → char_from_octets a b c d ≡ char_if_valid 3 0x800 (is_tail b && is_tail c) (value_three a b c)
  from_three p q = simp (le-ltb a 0x80 h, p, q)

  pub from_four : between 0xc0 0xdf a ≡ false → between 0xe0 0xef a ≡ false
      → between 0xf0 0xf7 a ≡ true
      → char_from_octets a b c d ≡ char_if_valid 4 0x10000 (is_tail b && (is_tail c && is_tail d))
      (value_four a b c d)
  from_four p q r = simp (le-ltb a 0x80 h, p, q, r)

  pub from_none : between 0xc0 0xdf a ≡ false → between 0xe0 0xef a ≡ false
      → between 0xf0 0xf7 a ≡ false
      → char_from_octets a b c d ≡ malformed
  from_none p q r = simp (le-ltb a 0x80 h, p, q, r)

module _ (a b c d n : ℕ) (s : is_scalar n ≡ true) where
  told_two : 0xc0 ≤ a → a ≤ 0xdf → is_tail b ≡ true → value_two a b ≡ n → 0x80 ≤ n
      → char_from_octets a b c d ≡ decoded_as 2 n
  told_two h k t e m = from_two a b c d (omega arith) (inside 0xc0 0xdf a h k)
      ∙ told_good 2 0x80 t e m s

  told_three : 0xe0 ≤ a → a ≤ 0xef → is_tail b ≡ true → is_tail c ≡ true → value_three a b c ≡ n
      → 0x800 ≤ n
      → char_from_octets a b c d ≡ decoded_as 3 n
  told_three h k t u e m =
      from_three a b c d (omega arith) (above 0xc0 0xdf a (omega arith)) (inside 0xe0 0xef a h k)
      ∙ told_good 3 0x800 (ap₂ ◌&&◌ t u) e m s

  told_four : 0xf0 ≤ a → a ≤ 0xf7 → is_tail b ≡ true → is_tail c ≡ true → is_tail d ≡ true
      → value_four a b c d ≡ n → 0x10000 ≤ n
      → char_from_octets a b c d ≡ decoded_as 4 n
  told_four h k t u v e m =
      from_four a b c d (omega arith) (above 0xc0 0xdf a (omega arith))
      (above 0xe0 0xef a (omega arith)) (inside 0xf0 0xf7 a h k)
      ∙ told_good 4 0x10000 (ap₂ ◌&&◌ t (ap₂ ◌&&◌ u v)) e m s

-- the bits of a value in four octets, joined again
sum_four : (a b c d x y : ℕ) {n : ℕ} → a + b ≡ x → c + d ≡ y → x + y ≡ n → a + b + c + d ≡ n
sum_four a b c d x y p q r = omega arith

six_bits : (n : ℕ) → tail n % 64 ≡ n % 64
six_bits n = omega arith

low_bits : (n : ℕ) → n / 64 % 64 * 64 + n % 64 ≡ n % 4096
low_bits n = omega arith

high_bits : (n : ℕ) → n ≤ 0x10ffff
    → (0xf0 + n / 262144 % 8) % 8 * 262144 + n / 4096 % 64 * 4096 ≡ n / 4096 * 4096
high_bits n h = omega arith

all_bits : (n : ℕ) → n / 4096 * 4096 + n % 4096 ≡ n
all_bits n = omega arith

four_back : (n : ℕ) → n ≤ 0x10ffff
    → value_four (0xf0 + n / 262144 % 8) (tail (n / 4096)) (tail (n / 64)) (tail n) ≡ n
four_back n h =
    simp six_bits
    (sum_four
    ((0xf0 + n / 262144 % 8) % 8 * 262144) (n / 4096 % 64 * 4096) (n / 64 % 64 * 64) (n % 64)
    (n / 4096 * 4096) (n % 4096)
    (high_bits n h) (low_bits n) (all_bits n))

read : (n : ℕ) (l : List ℕ) → is_scalar n ≡ true
    → utf8_first (utf8_of n ++ l) ≡ decoded_as (length (utf8_of n)) n
unfolding utf8_first
read n l s = by (size n)
  where
    from : (o : List ℕ) → utf8_of n ≡ o → utf8_first (o ++ l) ≡ decoded_as (length o) n
        → utf8_first (utf8_of n ++ l) ≡ decoded_as (length (utf8_of n)) n
    from o e p = subst (λ (x : List ℕ). utf8_first (x ++ l) ≡ decoded_as (length x) n) (sym e) p

    by : Size n → utf8_first (utf8_of n ++ l) ≡ decoded_as (length (utf8_of n)) n
    by (one h) = from (n ∷ []) (utf8_one n h) (simp (lt-ltb n 0x80 h))
    by (two h k) =
        from ((0xc0 + n / 64) ∷ tail n ∷ []) (utf8_two n h k)
        (told_two (0xc0 + n / 64) (tail n) (get_or l 0 0) (get_or l 1 0) n s
        (omega arith) (omega arith) (tail_is n) (omega arith) h)
    by (three h k) =
        from ((0xe0 + n / 4096) ∷ tail (n / 64) ∷ tail n ∷ []) (utf8_three n h k)
        (told_three (0xe0 + n / 4096) (tail (n / 64)) (tail n) (get_or l 0 0) n s
        (omega arith) (omega arith) (tail_is (n / 64)) (tail_is n) (omega arith) h)
    by (four h) =
        let m = scalar_most n s in
        from ((0xf0 + n / 262144 % 8) ∷ tail (n / 4096) ∷ tail (n / 64) ∷ tail n ∷ [])
        (utf8_four n h)
        (told_four (0xf0 + n / 262144 % 8) (tail (n / 4096)) (tail (n / 64)) (tail n) n s
        (omega arith) (omega arith) (tail_is (n / 4096)) (tail_is (n / 64)) (tail_is n)
        (four_back n m) h)

-- ---- and only from them

-- what char_from_octets finds, with the tests that it made
data Told (a b c d : ℕ) : Char → Type 0 where
  none : Told a b c d malformed
  one : a < 0x80 → Told a b c d (decoded_as 1 a)
  two : 0xc0 ≤ a → a ≤ 0xdf → is_tail b ≡ true → 0x80 ≤ value_two a b
      → is_scalar (value_two a b) ≡ true
      → Told a b c d (decoded_as 2 (value_two a b))
  three : 0xe0 ≤ a → a ≤ 0xef → is_tail b ≡ true → is_tail c ≡ true → 0x800 ≤ value_three a b c
      → is_scalar (value_three a b c) ≡ true
      → Told a b c d (decoded_as 3 (value_three a b c))
  four : 0xf0 ≤ a → a ≤ 0xf7 → is_tail b ≡ true → is_tail c ≡ true → is_tail d ≡ true
      → 0x10000 ≤ value_four a b c d
      → is_scalar (value_four a b c d) ≡ true → Told a b c d (decoded_as 4 (value_four a b c d))

module _ (a b c d : ℕ) where
  from : (w least : ℕ) (tails : Bool) (v : ℕ)
      → (tails ≡ true → least ≤ v → is_scalar v ≡ true → Told a b c d (decoded_as w v))
      → Told a b c d (char_if_valid w least tails v)
  from w least tails v good = which (tails && (leb least v && is_scalar v)) refl
    where
      which : (t : Bool) → (tails && (leb least v && is_scalar v)) ≡ t
          → Told a b c d (cond t (decoded_as w v) malformed)
      which true e =
          let p = (and-eq-true_iff tails (leb least v && is_scalar v)).0 e in
          let q = (and-eq-true_iff (leb least v) (is_scalar v)).0 p.1 in
          good p.0 (leb-true least v q.0) q.1
      which false e = none

  found : Told a b c d (char_from_octets a b c d)
  found = by (ltb a 0x80) (between 0xc0 0xdf a) (between 0xe0 0xef a)
      (between 0xf0 0xf7 a) refl refl refl refl
    where
      by : (p q r s : Bool) → ltb a 0x80 ≡ p → between 0xc0 0xdf a ≡ q → between 0xe0 0xef a ≡ r
          → between 0xf0 0xf7 a ≡ s
          → Told a b c d
          (cond p (decoded_as 1 a)
          (cond q (char_if_valid 2 0x80 (is_tail b) (value_two a b))
          (cond r (char_if_valid 3 0x800 (is_tail b && is_tail c) (value_three a b c))
          (cond s (char_if_valid 4 0x10000 (is_tail b && (is_tail c && is_tail d)) (value_four a b c d))
          malformed))))
      by true q r s ep eq er es = one (ltb-true a 0x80 ep)
      by false true r s ep eq er es =
          let k = between_both 0xc0 0xdf a eq in
          from 2 0x80 (is_tail b) (value_two a b) (λ t m u. two k.0 k.1 t m u)
      by false false true s ep eq er es =
          let k = between_both 0xe0 0xef a er in
          from 3 0x800 (is_tail b && is_tail c) (value_three a b c)
          (λ t m u. let ts = (and-eq-true_iff (is_tail b) (is_tail c)).0 t in
          three k.0 k.1 ts.0 ts.1 m u)
      by false false false true ep eq er es =
          let k = between_both 0xf0 0xf7 a es in
          from 4 0x10000 (is_tail b && (is_tail c && is_tail d)) (value_four a b c d)
          (λ t m u. let ts = (and-eq-true_iff (is_tail b) (is_tail c && is_tail d)).0 t in
          let us = (and-eq-true_iff (is_tail c) (is_tail d)).0 ts.1 in
          four k.0 k.1 ts.0 us.0 us.1 m u)
      by false false false false ep eq er es = none

-- a tail is an octet that is there
present : (l : List ℕ) (i : ℕ) → is_tail (get_or l i 0) ≡ true → i < length l
present l i t = which (leb (length l) i) refl
  where
    which : (b : Bool) → leb (length l) i ≡ b → i < length l
    which true e =
        let z = get_or-eq_default l 0 (leb-true (length l) i e) in
        absurd (false≢true (sym (ap is_tail z) ∙ t))
    which false e = leb-false (length l) i e

-- groups of six bits are found again
module _ (x y z w : ℕ) (hy : y < 64) (hz : z < 64) (hw : w < 64) where
  group_one : (x * 262144 + y * 4096 + z * 64 + w) / 262144 ≡ x
  group_one = omega arith

  group_two : (x * 262144 + y * 4096 + z * 64 + w) / 4096 % 64 ≡ y
  group_two = omega arith

  group_three : (x * 262144 + y * 4096 + z * 64 + w) / 64 % 64 ≡ z
  group_three = omega arith

  group_four : (x * 262144 + y * 4096 + z * 64 + w) % 64 ≡ w
  group_four = omega arith

-- a tail is made of its bits again
tail_back : {b : ℕ} (n : ℕ) → is_tail b ≡ true → n % 64 ≡ b % 64 → tail n ≡ b
tail_back {b} n t e = let r = between_both 0x80 0xbf b t in omega arith

-- the octets of the value are those that told it
two_back : (a b : ℕ) → 0xc0 ≤ a → a ≤ 0xdf → is_tail b ≡ true → 0x80 ≤ value_two a b
    → utf8_of (value_two a b) ≡ a ∷ b ∷ []
two_back a b h k t m =
    let v = value_two a b in
    utf8_two v m (omega arith)
    ∙ ap₂ (λ (x y : ℕ). x ∷ y ∷ []) (omega arith) (tail_back v t (omega arith))

three_back : (a b c : ℕ) → 0xe0 ≤ a → a ≤ 0xef → is_tail b ≡ true → is_tail c ≡ true
    → 0x800 ≤ value_three a b c
    → utf8_of (value_three a b c) ≡ a ∷ b ∷ c ∷ []
three_back a b c h k t u m =
    let v = value_three a b c in
    utf8_three v m (omega arith)
    ∙ ap₂ (λ (x : ℕ) (l : List ℕ). x ∷ l) (omega arith)
    (ap₂ (λ (x y : ℕ). x ∷ y ∷ []) (tail_back (v / 64) t (omega arith))
    (tail_back v u (omega arith)))

lead_back : (a : ℕ) → 0xf0 ≤ a → a ≤ 0xf7 → (n : ℕ) → n ≡ a % 8 → 0xf0 + n % 8 ≡ a
lead_back a h k n e = omega arith

four_octets : (a b c d : ℕ) → 0xf0 ≤ a → a ≤ 0xf7 → is_tail b ≡ true → is_tail c ≡ true
    → is_tail d ≡ true → 0x10000 ≤ value_four a b c d
    → utf8_of (value_four a b c d) ≡ a ∷ b ∷ c ∷ d ∷ []
four_octets a b c d h k t u w m =
    let v = value_four a b c d in
    let p : b % 64 < 64 = omega arith in
    let q : c % 64 < 64 = omega arith in
    let r : d % 64 < 64 = omega arith in
    utf8_four v m
    ∙ ap₂ (λ (x : ℕ) (l : List ℕ). x ∷ l)
    (lead_back a h k (v / 262144) (group_one (a % 8) (b % 64) (c % 64) (d % 64) p q r))
    (ap₂ (λ (x : ℕ) (l : List ℕ). x ∷ l)
    (tail_back (v / 4096) t (group_two (a % 8) (b % 64) (c % 64) (d % 64) p q r))
    (ap₂ (λ (x y : ℕ). x ∷ y ∷ [])
    (tail_back (v / 64) u (group_three (a % 8) (b % 64) (c % 64) (d % 64) p q r))
    (tail_back v w (group_four (a % 8) (b % 64) (c % 64) (d % 64) p q r))))

fits : (l : List ℕ) → 0 < length l → (utf8_first l).width ≤ length l
unfolding utf8_first
fits l h = by _ (found (get_or l 0 0) (get_or l 1 0) (get_or l 2 0) (get_or l 3 0))
  where
    by : (x : Char) → Told (get_or l 0 0) (get_or l 1 0) (get_or l 2 0) (get_or l 3 0) x
        → x.width ≤ length l
    by x none = omega arith
    by x (one p) = h
    by x (two p q t m s) = present l 1 t
    by x (three p q t u m s) = present l 2 u
    by x (four p q t u v m s) = present l 3 v

abbrev Back : List ℕ → Char → Type 0
Back l x = (is_scalar x.value ≡ true) × (utf8_of x.value ≡ take x.width l)

back : (l : List ℕ) → Unit {0} → 0 < length l → 0 < (utf8_first l).width → Back l (utf8_first l)
unfolding utf8_first
back l o h p = by _ (found (get_or l 0 0) (get_or l 1 0) (get_or l 2 0) (get_or l 3 0)) p
  where
    by : (x : Char) → Told (get_or l 0 0) (get_or l 1 0) (get_or l 2 0) (get_or l 3 0) x → 0 < x.width
        → Back l x
    by x none p = absurd (omega (arith, p))
    by x (one q) p = (
      scalar_low (get_or l 0 0) (omega arith),
      utf8_one (get_or l 0 0) q
          ∙ sym (part_written 1 0 l h),
    )
    by x (two q r t m s) p =
        (s, two_back (get_or l 0 0) (get_or l 1 0) q r t m ∙ sym (part_written 2 0 l (present l 1 t)))
    by x (three q r t u m s) p = (
      s,
      three_back (get_or l 0 0) (get_or l 1 0) (get_or l 2 0) q r t u m
          ∙ sym (part_written 3 0 l (present l 2 u)),
    )
    by x (four q r t u v m s) p = (
      s,
      four_octets (get_or l 0 0) (get_or l 1 0) (get_or l 2 0) (get_or l 3 0) q r t u v m
          ∙ sym (part_written 4 0 l (present l 3 v)),
    )

-- every list will do: only octets pass the tests
pub utf8_codec : Codec (λ l. Unit {0}) utf8_first utf8_of
utf8_codec = record {
  read = read;
  back = back;
  fits = fits;
  some_octets = some_octets;
  kept = λ w l o. o;
}
