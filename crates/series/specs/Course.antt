-- A course: steps one after the other, each from the place that the one before it led to.
-- Assumes nothing: these are definitions.
use Rattle.std.specs.Prelude.{List, [], ◌∷◌, ◌++◌, ℕ, ◌+◌}

-- what each step has of something, one after the other
abbrev pub collect : {M A : Type 0} → (M → List A) → List M → List A
collect f [] = []
collect f (m ∷ ms) = f m ++ collect f ms

module _ {S M : Type 0} (next : S → M → S) where
  -- where the steps lead
  abbrev pub end : S → List M → S
  end s [] = s
  end s (m ∷ ms) = end (next s m) ms

  -- P holds of each step, at its place
  abbrev pub Along : (S → M → Type 0) → S → List M → Type 0
  Along P s [] = Unit {0}
  Along P s (m ∷ ms) = P s m × Along P (next s m) ms

  -- the sum of f over the steps
  abbrev pub total : (S → M → ℕ) → S → List M → ℕ
  total f s [] = 0
  total f s (m ∷ ms) = f s m + total f (next s m) ms
