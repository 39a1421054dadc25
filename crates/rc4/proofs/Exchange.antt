-- The exchange of two entries: what stands where after it, and what the look-ahead sees.
-- Assumes nothing.
use Rattle.std.proofs.Common.{◌≡◌, ℕ, ◌+◌, ◌<◌, Bool, true, false, cond, eqb, List, length, get_or}
use Rattle.std.proofs.Common.{set, sym, refl, ap, ◌∙◌, ap₂, add_comm, length-set, get_or-set_other}
use Rattle.std.proofs.Common.{get_or-set_same, eqb-true}
use borrow.Author.Tests.{eqb-false}
use Rattle.rc4.specs.Rc4.{swapped}

pub length_swapped : (s : List ℕ) (i j : ℕ) → length (swapped s i j) ≡ length s
unfolding swapped
length_swapped s i j = simp length-set

module _ (s : List ℕ) (i j : ℕ) (hj : j < length s) where
  at_j : get_or (swapped s i j) j 0 ≡ get_or s i 0
  unfolding swapped
  at_j = get_or-set_same (set s i (get_or s j 0)) j (get_or s i 0) 0 (rw length-set hj)

  -- a place that is not j: the second store does not reach it
  not_j : (k : ℕ) → eqb k j ≡ false → get_or (swapped s i j) k 0 ≡ get_or (set s i (get_or s j 0)) k 0
  unfolding swapped
  not_j k e = get_or-set_other (set s i (get_or s j 0)) j k (get_or s i 0) 0 (eqb-false k j e)

  at_i : i < length s → get_or (swapped s i j) i 0 ≡ get_or s j 0
  at_i hi = which (eqb i j) refl
    where
      which : (b : Bool) → eqb i j ≡ b → get_or (swapped s i j) i 0 ≡ get_or s j 0
      which true e = let q : i ≡ j = eqb-true i j e in ap (λ (x : ℕ). get_or (swapped s i j) x 0) q ∙ at_j ∙ ap (λ (x : ℕ). get_or s x 0) q
      which false e = not_j i e ∙ get_or-set_same s i (get_or s j 0) 0 hi

  -- the look-ahead: a place k that is not i, by what stood at i and at k before
  pub ahead : (k : ℕ) → (k ≡ i → ⊥) → cond (eqb k j) (get_or s i 0) (get_or s k 0) ≡ get_or (swapped s i j) k 0
  ahead k n = which (eqb k j) refl
    where
      which : (b : Bool) → eqb k j ≡ b → cond b (get_or s i 0) (get_or s k 0) ≡ get_or (swapped s i j) k 0
      which true e = sym (ap (λ (x : ℕ). get_or (swapped s i j) x 0) (eqb-true k j e) ∙ at_j)
      which false e = sym (not_j k e ∙ get_or-set_other s i k (get_or s j 0) 0 n)

  -- the sum of the two, which the exchange does not change
  pub sum_swapped : i < length s → get_or (swapped s i j) i 0 + get_or (swapped s i j) j 0 ≡ get_or s i 0 + get_or s j 0
  sum_swapped hi = ap₂ (λ (x y : ℕ). x + y) (at_i hi) at_j ∙ add_comm (get_or s j 0) (get_or s i 0)
