-- What stands at a place of a table that is made by a rule.
-- Assumes nothing.
use mathlib.Core.Path.{◌≡◌, sym, ap, ap₂, ◌∙◌}
use Prim.Native.Nat.{ℕ, zero, suc, ◌+◌, ◌*◌, ◌/◌, ◌%◌, ◌<◌}
use native.Mathlib.Nat.{not-suc-le-zero, le_of_suc-le-suc, add-zero, add-suc, suc-add, zero-add}
use lib.Arith.{digits_div, digits_mod}
use lib.ListN.{get_or}
use Rattle.des.specs.Inner.{table_entries}

module _ (f : ℕ → ℕ → ℕ) (m : ℕ) where
  at_from : (n k j : ℕ) → j < n → get_or (table_entries f m n k) j 0 ≡ f ((k + j) / m) ((k + j) % m)
  at_from zero k j h = absurd (not-suc-le-zero h)
  at_from (suc n) k zero h = ap (λ (v : ℕ). f (v / m) (v % m)) (sym (add-zero k))
  at_from (suc n) k (suc j) h =
      at_from n (suc k) j (le_of_suc-le-suc h) ∙ ap (λ (v : ℕ). f (v / m) (v % m)) (suc-add k j ∙ sym (add-suc k j))

  -- the entry in the row i at the column b
  pub entry_at : (n i b : ℕ) → b < m → i * m + b < n → get_or (table_entries f m n 0) (i * m + b) 0 ≡ f i b
  entry_at n i b hb h =
      at_from n 0 (i * m + b) h ∙ ap (λ (v : ℕ). f (v / m) (v % m)) (zero-add (i * m + b)) ∙ ap₂ f (digits_div i hb) (digits_mod i hb)
