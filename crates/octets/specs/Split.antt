-- A list of octets, cut at an octet c.
-- Assumes nothing: these are definitions.
use Rattle.std.specs.Prelude.{Bool, false, cond, ◌||◌, List, [], ◌∷◌, ℕ, eqb}

-- whether c is one of them
abbrev pub holds : ℕ → List ℕ → Bool
holds c [] = false
holds c (x ∷ l) = eqb x c || holds c l

-- what stands before the first c, or all where there is none
abbrev pub before : ℕ → List ℕ → List ℕ
before c [] = []
before c (x ∷ l) = cond (eqb x c) [] (x ∷ before c l)

-- what stands behind the first c, and nothing where there is none
abbrev pub behind : ℕ → List ℕ → List ℕ
behind c [] = []
behind c (x ∷ l) = cond (eqb x c) l (behind c l)

-- pieces, of which the first gets x at its front
abbrev pub with_first : ℕ → List (List ℕ) → List (List ℕ)
with_first x [] = (x ∷ []) ∷ []
with_first x (w ∷ ws) = (x ∷ w) ∷ ws
