-- The operations of a round, one after the other, and what its table keeps to at each of them.
-- Assumes nothing.
use mathlib.Core.Path.{◌≡◌, sym, ap, ◌∙◌}
use mathlib.Core.Bool.{true, ◌&&◌, and-eq-true_iff}
use mathlib.Core.List.{List, [], ◌∷◌}
use Prim.Native.Nat.{ℕ, zero, suc, ◌+◌, ◌<◌, ◌≤◌}
use native.Mathlib.Numerals.{add-one}
use native.Mathlib.Omega.{arith}
use borrow.Author.Tests.{ltb-true}
use lib.Dec.{ltb}
use lib.ListN.{length, drop, get_or, drop_of_length-le}
use lib.Seq.{drop-cons}
use Rattle.md4.specs.declared.Registers.{Registers}
use Rattle.md4.specs.Md4.{operation, operations}
use Rattle.md4.specs.Inner.{in_range}

pub record Within (e : ℕ × ℕ) : Type 0 where
  pub word : e.0 < 16
  pub shifts : (0 < e.1) × (e.1 < 32)

pub within_at : (t : List (ℕ × ℕ)) (k : ℕ) (d : ℕ × ℕ) → in_range t ≡ true → k < length t → Within (get_or t k d)
within_at [] k d r h = absurd (omega (arith, h))
within_at (e ∷ t) zero d r h =
    let all = (and-eq-true_iff (ltb e.0 16 && (ltb 0 e.1 && ltb e.1 32)) (in_range t)).0 r in
    let both = (and-eq-true_iff (ltb e.0 16) (ltb 0 e.1 && ltb e.1 32)).0 all.0 in
    let shift = (and-eq-true_iff (ltb 0 e.1) (ltb e.1 32)).0 both.1 in
    record { word = ltb-true e.0 16 both.0; shifts = (ltb-true 0 e.1 shift.0, ltb-true e.1 32 shift.1) }
within_at (e ∷ t) (suc k) d r h =
    within_at t k d ((and-eq-true_iff (ltb e.0 16 && (ltb 0 e.1 && ltb e.1 32)) (in_range t)).0 r).1 (omega (arith, h))

module _ (aux : ℕ → ℕ → ℕ → ℕ) (add : ℕ) (x : List ℕ) (t : List (ℕ × ℕ)) (k : ℕ) where
  -- one operation, and those behind it
  pub one_more : (r : Registers) (d : ℕ × ℕ) → k < length t
      → operations aux add x (drop k t) r
      ≡ operations aux add x (drop (k + 1) t) (operation aux add (get_or t k d).1 (get_or x (get_or t k d).0 0) r)
  unfolding operations
  one_more r d h =
      ap (λ (l : List (ℕ × ℕ)). operations aux add x l r) (drop-cons t k d h)
      ∙ ap (λ (n : ℕ). operations aux add x (drop n t) (operation aux add (get_or t k d).1 (get_or x (get_or t k d).0 0) r)) (sym (add-one k))

  pub none_left : (r : Registers) → length t ≤ k → operations aux add x (drop k t) r ≡ r
  unfolding operations
  none_left r h = ap (λ (l : List (ℕ × ℕ)). operations aux add x l r) (drop_of_length-le t h)
