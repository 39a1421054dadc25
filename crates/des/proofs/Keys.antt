-- The round key of each round: C and D there are those of PC-1, rotated by all left shifts up to
-- it, and stand so in C and D written twice.
-- Assumes nothing.
use mathlib.Core.Path.{◌≡◌, sym, ap, ap₂, ◌∙◌, subst}
use mathlib.Core.List.{List, [], ◌∷◌}
use Prim.Native.Nat.{ℕ, zero, suc, ◌+◌, ◌-◌, ◌*◌, ◌/◌, ◌%◌, ◌^◌, ◌≤◌, ◌<◌}
use native.Mathlib.Nat.{add-zero, zero-add, add_assoc, add-mul, mul_assoc, mod-lt, not-suc-le-zero}
use native.Mathlib.Nat.{le_of_suc-le-suc}
use native.Mathlib.Omega.{arith}
use lib.Arith.{digits_lt}
use lib.ListN.{length, get_or}
use lib.Pow.{pow-add, pow_pos, shl-shr, high, low, split, mod-pow-add, shr_lt}
use Rattle.octets.specs.Numbers.{from_be}
use Rattle.des.specs.Tables.{pc1, pc2, shifts}
use Rattle.des.specs.Des.{permute, rotate, keys_from, round_keys, expand_key, schedule_of}
use Rattle.des.specs.Inner.{shifts_of, rotated_by, keys_of}
use Rattle.des.proofs.Permute.{permute_lt}

-- the C and D of PC-1: the first has 28 bits, as any remainder of the other has, and the round keys
-- are from them
pub choice_lt : (cd key : ℕ) → cd ≡ permute 64 pc1 key → cd / 2 ^ 28 < 2 ^ 28
unfolding pc1
choice_lt cd key e = shr_lt 28 28 (rw e (permute_lt 64 key pc1))

pub choice_keys : (cd : ℕ) (key : List ℕ) → cd ≡ permute 64 pc1 (from_be (expand_key key))
    → keys_of (cd / 2 ^ 28) (cd % 2 ^ 28) ≡ schedule_of key
unfolding schedule_of round_keys
choice_keys cd key e = ap (λ (v : ℕ). keys_of (v / 2 ^ 28) (v % 2 ^ 28)) e

-- ---- rotations

-- three groups of bits, the last two of s and j bits
regroup : (a b e s j : ℕ) → (a * 2 ^ s + b) * 2 ^ j + e ≡ a * 2 ^ (s + j) + (b * 2 ^ j + e)
regroup a b e s j =
    ap (λ (v : ℕ). v + e)
    (add-mul (a * 2 ^ s) b (2 ^ j)
    ∙ ap (λ (v : ℕ). v + b * 2 ^ j) (mul_assoc a (2 ^ s) (2 ^ j) ∙ ap (λ (p : ℕ). a * p) (sym (pow-add 2 s j))))
    ∙ add_assoc (a * 2 ^ (s + j)) (b * 2 ^ j) e

joined_lt : {a b : ℕ} (m n : ℕ) → a < 2 ^ m → b < 2 ^ n → a * 2 ^ n + b < 2 ^ (m + n)
joined_lt {a} {b} m n ha hb = subst (λ (p : ℕ). a * 2 ^ n + b < p) (sym (pow-add 2 m n)) (digits_lt ha hb)

-- what is left of a number moved up by s places, in n + s bits
shl_mod : (c n s : ℕ) → c * 2 ^ s % 2 ^ (n + s) ≡ c % 2 ^ n * 2 ^ s
shl_mod c n s =
    mod-pow-add (c * 2 ^ s) n s
    ∙ ap₂ (λ (u v : ℕ). u % 2 ^ n * 2 ^ s + v) (shl-shr c s) (ap (λ (u : ℕ). u % 2 ^ s) (sym (add-zero (c * 2 ^ s))) ∙ low c s (pow_pos s))
    ∙ add-zero (c % 2 ^ n * 2 ^ s)

-- the first s bits come last
rotated : (a b s n : ℕ) → n + s ≡ 28 → b < 2 ^ n → rotate s (a * 2 ^ n + b) ≡ b * 2 ^ s + a
rotated a b s n e hb =
    let x = a * 2 ^ n + b in
    let rest : 28 - s ≡ n = omega arith in
    ap₂ (λ (w k : ℕ). x * 2 ^ s % 2 ^ w + x / 2 ^ k) (sym e) rest
    ∙ ap₂ (λ (u v : ℕ). u + v) (shl_mod x n s ∙ ap (λ (u : ℕ). u * 2 ^ s) (low a n hb)) (high a n hb)

module _ (c : ℕ) (h : c < 2 ^ 28) where
  first_lt : (s n : ℕ) → n + s ≡ 28 → c / 2 ^ n < 2 ^ s
  first_lt s n e = shr_lt s n (subst (λ (w : ℕ). c < 2 ^ w) (sym e ∙ omega arith) h)

  -- 28 bits rotated stand in those bits written twice
  rotate_twice : (s : ℕ) → s ≤ 28 → (c * 2 ^ 28 + c) / 2 ^ (28 - s) % 2 ^ 28 ≡ rotate s c
  rotate_twice s hs =
      let n = 28 - s in
      let e : n + s ≡ 28 = omega arith in
      let e' : s + n ≡ 28 = omega arith in
      let a = c / 2 ^ n in
      let b = c % 2 ^ n in
      let hb = mod-lt c (pow_pos n) in
      ap (λ (v : ℕ). v / 2 ^ n % 2 ^ 28)
      (ap₂ (λ (w v : ℕ). c * 2 ^ w + v) (sym e') (sym (split c n)) ∙ sym (regroup c a b s n))
      ∙ ap (λ (v : ℕ). v % 2 ^ 28) (high (c * 2 ^ s + a) n hb)
      ∙ ap (λ (v : ℕ). (v * 2 ^ s + a) % 2 ^ 28) (sym (split c n))
      ∙ ap (λ (v : ℕ). v % 2 ^ 28) (regroup a b a n s)
      ∙ ap (λ (w : ℕ). (a * 2 ^ (n + s) + (b * 2 ^ s + a)) % 2 ^ w) (sym e)
      ∙ low a (n + s) (joined_lt n s hb (first_lt s n e))
      ∙ sym (rotated a b s n e hb)
      ∙ ap (rotate s) (split c n)

  -- two rotations are one
  rotate_rotate : (m s : ℕ) → m + s ≤ 28 → rotate s (rotate m c) ≡ rotate (m + s) c
  rotate_rotate m s hs =
      let j = 28 - (m + s) in
      let e : j + (m + s) ≡ 28 = omega arith in
      let e₁ : s + j + m ≡ 28 = omega arith in
      let e₂ : j + m + s ≡ 28 = omega arith in
      let q = c / 2 ^ j in
      let x = c % 2 ^ j in
      let a = q / 2 ^ s in
      let b = q % 2 ^ s in
      let hx = mod-lt c (pow_pos j) in
      let hb = mod-lt q (pow_pos s) in
      let ha : a < 2 ^ m = shr_lt m s (first_lt (m + s) j e) in
      let three : c ≡ (a * 2 ^ s + b) * 2 ^ j + x = sym (ap (λ (v : ℕ). v * 2 ^ j + x) (split q s) ∙ split c j) in
      ap (λ (v : ℕ). rotate s (rotate m v)) (three ∙ regroup a b x s j)
      ∙ ap (rotate s) (rotated a (b * 2 ^ j + x) m (s + j) e₁ (joined_lt s j hb hx) ∙ regroup b x a j m)
      ∙ rotated b (x * 2 ^ m + a) s (j + m) e₂ (joined_lt j m hx ha)
      ∙ regroup x a b m s
      ∙ sym (rotated (a * 2 ^ s + b) x (m + s) j e hx)
      ∙ ap (rotate (m + s)) (sym three)

  not_rotated : rotate 0 c ≡ c
  not_rotated = omega arith

-- ---- round keys

module _ (c d : ℕ) (hc : c < 2 ^ 28) (hd : d < 2 ^ 28) where
  -- PC-2 of C and D rotated by m places
  abbrev key_by : ℕ → ℕ
  key_by m = permute 56 pc2 (rotate m c * 2 ^ 28 + rotate m d)

  -- the keys from C and D rotated by m places
  key_from : (ss : List ℕ) (m i : ℕ) → i < length ss → m + shifts_of (length ss) ss ≤ 28
      → get_or (keys_from ss (rotate m c) (rotate m d)) i 0 ≡ key_by (m + shifts_of (suc i) ss)
  key_from [] m i h t = absurd (not-suc-le-zero h)
  key_from (s ∷ ss) m zero h t =
      ap₂ (λ (u v : ℕ). permute 56 pc2 (u * 2 ^ 28 + v)) (rotate_rotate c hc m s (omega arith)) (rotate_rotate d hd m s (omega arith))
      ∙ ap (λ (n : ℕ). key_by (m + n)) (sym (add-zero s))
  key_from (s ∷ ss) m (suc i) h t =
      ap₂ (λ (u v : ℕ). get_or (keys_from ss u v) i 0) (rotate_rotate c hc m s (omega arith)) (rotate_rotate d hd m s (omega arith))
      ∙ key_from ss (m + s) i (le_of_suc-le-suc h) (omega arith)
      ∙ ap key_by (add_assoc m s (shifts_of (suc i) ss))

  key_at : (i : ℕ) → i < 16 → get_or (keys_from shifts c d) i 0 ≡ key_by (rotated_by i)
  unfolding rotated_by shifts
  key_at i h =
      sym (ap₂ (λ (u v : ℕ). get_or (keys_from shifts u v) i 0) (not_rotated c hc) (not_rotated d hd))
      ∙ key_from shifts 0 i h (omega arith)
      ∙ ap key_by (zero-add (shifts_of (suc i) shifts))

-- 28 bits written twice
abbrev pub twice : ℕ → ℕ
twice c = c * 2 ^ 28 + c

-- the key of the round i, as PC-2 finds its bits in C and D written twice
pub key_at_place : (c d i m : ℕ) → c < 2 ^ 28 → d < 2 ^ 28 → i < 16 → m ≡ rotated_by i → m ≤ 28
    → permute 56 pc2 (twice c / 2 ^ (28 - m) % 2 ^ 28 * 2 ^ 28 + twice d / 2 ^ (28 - m) % 2 ^ 28) ≡ get_or (keys_of c d) i 0
key_at_place c d i m hc hd hi e hm =
    ap₂ (λ (u v : ℕ). permute 56 pc2 (u * 2 ^ 28 + v)) (rotate_twice c hc m hm) (rotate_twice d hd m hm)
    ∙ ap (key_by c d hc hd) e
    ∙ sym (key_at c d hc hd i hi)

-- all left shifts are 28 places
below_all : (n : ℕ) (ss : List ℕ) → shifts_of n ss ≤ shifts_of (length ss) ss
below_all zero ss = omega arith
below_all (suc n) [] = omega arith
below_all (suc n) (s ∷ ss) = omega (arith, below_all n ss)

pub rotated_le : (i : ℕ) → rotated_by i ≤ 28
unfolding rotated_by shifts
rotated_le i = below_all (suc i) shifts
