-- Queues, first in first out: what holds of each element, and of queues whose first elements are of
-- one kind and the rest of another, as one is added behind, any is lost or the first is delivered.
-- Assumes nothing.
use mathlib.Core.Bool.{Bool, true, false, ◌||◌}
use mathlib.Core.List.{List, [], ◌∷◌, ◌++◌}
use mathlib.Core.Logic.{◌⊎◌, inl, inr}
use mathlib.Core.Path.{◌≡◌, refl, ap, ap₂}
use Prim.Native.Nat.{ℕ, zero, suc, ◌<◌}
use native.Mathlib.Omega.{arith}
use borrow.Author.Tests.{eq-eqb, ne_eqb}
use lib.Dec.{eqb}
use Rattle.series.specs.Line.{among, without}

-- P holds of each
abbrev pub Each : {A : Type 0} → (A → Type 0) → List A → Type 0
Each P [] = Unit {0}
Each P (x ∷ xs) = P x × Each P xs

-- some of which P holds, and behind them some of which Q does
abbrev pub InTurn : {A : Type 0} → (A → Type 0) → (A → Type 0) → List A → Type 0
InTurn P Q [] = Unit {0}
InTurn P Q (x ∷ xs) = (P x × InTurn P Q xs) ⊎ (Q x × Each Q xs)

module _ {A : Type 0} where
  pub each_map : (P Q : A → Type 0) → ((x : A) → P x → Q x) → (xs : List A) → Each P xs → Each Q xs
  each_map P Q f [] h = tt
  each_map P Q f (x ∷ xs) h = (f x h.0, each_map P Q f xs h.1)

  pub each_behind : (P : A → Type 0) (xs : List A) (y : A) → Each P xs → P y
      → Each P (xs ++ (y ∷ []))
  each_behind P [] y h p = (p, tt)
  each_behind P (x ∷ xs) y h p = (h.0, each_behind P xs y h.1 p)

  pub each_without : (P : A → Type 0) (i : ℕ) (xs : List A) → Each P xs → Each P (without i xs)
  each_without P i [] h = tt
  each_without P zero (x ∷ xs) h = h.1
  each_without P (suc i) (x ∷ xs) h = (h.0, each_without P i xs h.1)

  pub turn_map : (P Q R S : A → Type 0) → ((x : A) → P x → R x) → ((x : A) → Q x → S x)
      → (xs : List A) → InTurn P Q xs → InTurn R S xs
  turn_map P Q R S f g [] h = tt
  turn_map P Q R S f g (x ∷ xs) (inl h) = inl (f x h.0, turn_map P Q R S f g xs h.1)
  turn_map P Q R S f g (x ∷ xs) (inr h) = inr (g x h.0, each_map Q S g xs h.1)

  pub turn_behind : (P Q : A → Type 0) (xs : List A) (y : A) → InTurn P Q xs → Q y
      → InTurn P Q (xs ++ (y ∷ []))
  turn_behind P Q [] y h q = inr (q, tt)
  turn_behind P Q (x ∷ xs) y (inl h) q = inl (h.0, turn_behind P Q xs y h.1 q)
  turn_behind P Q (x ∷ xs) y (inr h) q = inr (h.0, each_behind Q xs y h.1 q)

  -- the first kind alone, and the second alone
  pub turn_first : (P Q : A → Type 0) (xs : List A) → Each P xs → InTurn P Q xs
  turn_first P Q [] h = tt
  turn_first P Q (x ∷ xs) h = inl (h.0, turn_first P Q xs h.1)

  pub turn_second : (P Q : A → Type 0) (xs : List A) → Each Q xs → InTurn P Q xs
  turn_second P Q [] h = tt
  turn_second P Q (x ∷ xs) h = inr h

  pub turn_without : (P Q : A → Type 0) (i : ℕ) (xs : List A) → InTurn P Q xs
      → InTurn P Q (without i xs)
  turn_without P Q i [] h = tt
  turn_without P Q zero (x ∷ xs) (inl h) = h.1
  turn_without P Q zero (x ∷ xs) (inr h) = turn_second P Q xs h.1
  turn_without P Q (suc i) (x ∷ xs) (inl h) = inl (h.0, turn_without P Q i xs h.1)
  turn_without P Q (suc i) (x ∷ xs) (inr h) = inr (h.0, each_without Q i xs h.1)

-- ---- numbers in the line's book

abbrev pub Below : ℕ → List ℕ → Type 0
Below n ms = Each (λ (m : ℕ). m < n) ms

pub none_among : (n : ℕ) (ms : List ℕ) → Below n ms → among n ms ≡ false
none_among n [] h = refl
none_among n (m ∷ ms) h =
    ap₂ (λ (x y : Bool). x || y) (ne_eqb n m (λ e. omega (arith, e, h.0)))
    (none_among n ms h.1)

pub below_more : (n : ℕ) (ms : List ℕ) → Below n ms → Below (suc n) ms
below_more n ms h =
    each_map (λ (m : ℕ). m < n) (λ (m : ℕ). m < suc n) (λ m less. omega (arith, less)) ms h

or_true : (x y : Bool) → y ≡ true → (x || y) ≡ true
or_true true y e = refl
or_true false y e = e

pub still_among : (n m : ℕ) (ms : List ℕ) → among n ms ≡ true → among n (m ∷ ms) ≡ true
still_among n m ms h = or_true (eqb n m) (among n ms) h

pub first_among : (n : ℕ) (ms : List ℕ) → among n (n ∷ ms) ≡ true
first_among n ms = ap (λ (x : Bool). x || among n ms) (eq-eqb n n refl)
