-- What the table of a round keeps to.
-- Assumes nothing: these are definitions.
use Rattle.std.specs.Prelude.{Bool, true, ◌&&◌, List, [], ◌∷◌, ℕ, nat_lt}

-- the number of a word is below 16, and a shift is 1 to 31
abbrev pub in_range : List (ℕ × ℕ) → Bool
in_range [] = true
in_range (e ∷ t) = (nat_lt e.0 16 && (nat_lt 0 e.1 && nat_lt e.1 32)) && in_range t
