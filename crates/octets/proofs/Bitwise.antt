-- Expressions in and, or and exclusive or. Two of them that agree on all binary digits agree on all
-- numbers, so that a law of these operations is one computed test.
-- Assumes nothing.
use mathlib.Core.Path.{◌≡◌, refl, sym, ap₂, ◌∙◌, subst}
use mathlib.Core.Bool.{Bool, true, false, ◌&&◌}
use mathlib.Core.List.{List, [], ◌∷◌, map}
use Prim.Native.Nat.{ℕ, zero, suc, ◌+◌, ◌*◌, ◌/◌, ◌%◌, ◌^◌, ◌<◌}
use native.Mathlib.Nat.{mod-lt, div-add-mod', zero-lt-suc, pow-suc, lt_of_lt_of_le}
use native.Mathlib.Omega.{arith}
use lib.Dec.{T, eqb, eqb→eq, lit<}
use lib.ListN.{length, get_or, length-map, get_or-map}
use lib.Pow.{pow_mono}
use lib.Bits.{bit_and, bit_or, bit_xor, and_block, or_block, xor_block, and_lt, or_lt, xor_lt}
use Rattle.octets.proofs.Numbers.{Below}

-- `at i` is the number at the place i of a list
pub data Term : Type 0 where
  at : ℕ → Term
  none : Term
  and or xor : Term → Term → Term

abbrev pub value : Term → List ℕ → ℕ
value (at i) l = get_or l i 0
value none l = 0
value (and t u) l = bit_and (value t l) (value u l)
value (or t u) l = bit_or (value t l) (value u l)
value (xor t u) l = bit_xor (value t l) (value u l)

-- p holds of each list of n binary digits
abbrev pub on_digits : ℕ → (List ℕ → Bool) → Bool
on_digits zero p = p []
on_digits (suc n) p = on_digits n (λ l. p (0 ∷ l)) && on_digits n (λ l. p (1 ∷ l))

pub both_left : (a b : Bool) → T (a && b) → T a
both_left true b t = tt
both_left false b t = absurd t

pub both_right : (a b : Bool) → T (a && b) → T b
both_right true b t = t
both_right false b t = absurd t

-- what the test over the digits says of one list of them
on_digits_lem : (n : ℕ) (p : List ℕ → Bool) → T (on_digits n p) → (l : List ℕ) → length l ≡ n → Below 2 l → T (p l)
on_digits_lem zero p t [] e h = t
on_digits_lem zero p t (x ∷ l) e h = absurd (omega (arith, e))
on_digits_lem (suc n) p t [] e h = absurd (omega (arith, e))
on_digits_lem (suc n) p t (zero ∷ l) e h =
    on_digits_lem n (λ l. p (0 ∷ l)) (both_left (on_digits n (λ l. p (0 ∷ l))) (on_digits n (λ l. p (1 ∷ l))) t) l (omega (arith, e)) (λ i. h (suc i))
on_digits_lem (suc n) p t (suc zero ∷ l) e h =
    on_digits_lem n (λ l. p (1 ∷ l)) (both_right (on_digits n (λ l. p (0 ∷ l))) (on_digits n (λ l. p (1 ∷ l))) t) l (omega (arith, e)) (λ i. h (suc i))
on_digits_lem (suc n) p t (suc (suc x) ∷ l) e h = absurd (omega (arith, h 0))

abbrev halves : List ℕ → List ℕ
halves l = map (λ x. x / 2) l

abbrev lasts : List ℕ → List ℕ
lasts l = map (λ x. x % 2) l

lasts_below : (l : List ℕ) → Below 2 (lasts l)
lasts_below l i = subst (λ (v : ℕ). v < 2) (sym (get_or-map (λ x. x % 2) l i 0)) (mod-lt (get_or l i 0) (zero-lt-suc 1))

halves_below : (k : ℕ) (l : List ℕ) → Below (2 ^ suc k) l → Below (2 ^ k) (halves l)
halves_below k l h i = subst (λ (v : ℕ). v < 2 ^ k) (sym (get_or-map (λ x. x / 2) l i 0)) (omega (arith, rw (pow-suc 2 k) at (h i)))

value_below : (t : Term) (l : List ℕ) → Below 2 l → value t l < 2
value_below (at i) l h = h i
value_below none l h = lit< tt
value_below (and t u) l h = and_lt 1 (value t l) (value u l) (value_below t l h) (value_below u l h)
value_below (or t u) l h = or_lt 1 (value t l) (value u l) (value_below t l h) (value_below u l h)
value_below (xor t u) l h = xor_lt 1 (value t l) (value u l) (value_below t l h) (value_below u l h)

-- a value by those of the halves and of the last digits
split : (t : Term) (l : List ℕ) → value t l ≡ value t (halves l) * 2 + value t (lasts l)
split (at i) l =
    sym (div-add-mod' (get_or l i 0) 2)
    ∙ ap₂ (λ (a r : ℕ). a * 2 + r) (sym (get_or-map (λ x. x / 2) l i 0)) (sym (get_or-map (λ x. x % 2) l i 0))
split none l = refl
split (and t u) l =
    ap₂ bit_and (split t l) (split u l)
    ∙ and_block 1 (value t (halves l)) (value u (halves l)) (value t (lasts l)) (value u (lasts l)) (value_below t (lasts l) (lasts_below l)) (value_below u (lasts l) (lasts_below l))
split (or t u) l =
    ap₂ bit_or (split t l) (split u l)
    ∙ or_block 1 (value t (halves l)) (value u (halves l)) (value t (lasts l)) (value u (lasts l)) (value_below t (lasts l) (lasts_below l)) (value_below u (lasts l) (lasts_below l))
split (xor t u) l =
    ap₂ bit_xor (split t l) (split u l)
    ∙ xor_block 1 (value t (halves l)) (value u (halves l)) (value t (lasts l)) (value u (lasts l)) (value_below t (lasts l) (lasts_below l)) (value_below u (lasts l) (lasts_below l))

-- a power of two above each number of a list
size : List ℕ → ℕ
size [] = 0
size (x ∷ l) = x + size l

below_size : (l : List ℕ) → Below (2 ^ size l) l
unfolding size
below_size [] i = lit< tt
below_size (x ∷ l) zero = lt_of_lt_of_le (grows x) (pow_mono (omega arith))
  where
    grows : (n : ℕ) → n < 2 ^ n
    grows zero = lit< tt
    grows (suc n) = omega (arith, pow-suc 2 n, grows n)
below_size (x ∷ l) (suc i) = lt_of_lt_of_le (below_size l i) (pow_mono (omega arith))

module _ (t u : Term) where
  abbrev same : List ℕ → Bool
  same l = eqb (value t l) (value u l)

  below : (n k : ℕ) → T (on_digits n same) → (l : List ℕ) → length l ≡ n → Below (2 ^ k) l → value t l ≡ value u l
  below n zero test l e h =
      eqb→eq (value t l) (value u l) (on_digits_lem n same test l e (λ i. omega (arith, h i)))
  below n (suc k) test l e h =
      split t l
      ∙ ap₂ (λ (a r : ℕ). a * 2 + r)
      (below n k test (halves l) (length-map l (λ x. x / 2) ∙ e) (halves_below k l h))
      (eqb→eq (value t (lasts l)) (value u (lasts l)) (on_digits_lem n same test (lasts l) (length-map l (λ x. x % 2) ∙ e) (lasts_below l)))
      ∙ sym (split u l)

  -- the law: one test over all digits, and the equation at all numbers
  pub bitwise : (l : List ℕ) → T (on_digits (length l) same) → value t l ≡ value u l
  bitwise l test = below (length l) (size l) test l refl (below_size l)
