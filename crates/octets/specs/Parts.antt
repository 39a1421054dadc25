-- Parts of a list of octets, a copy laid over a list, and agreement of two lists.
-- Assumes nothing: these are definitions.
use Rattle.std.specs.Prelude.{Bool, true, false, ◌&&◌, List, [], ◌∷◌, ◌++◌, ℕ, eqb, take, drop}
use Rattle.std.specs.Prelude.{replicate}

-- the n octets of l from the place a on, or as many of them as l has
abbrev pub part : ℕ → ℕ → List ℕ → List ℕ
part a n l = take n (drop a l)

-- xs laid over the front of l, which stays as long as it is: what xs does not reach is unchanged,
-- and what of xs finds no place is left out
unfoldable pub over : List ℕ → List ℕ → List ℕ
over [] l = l
over (x ∷ xs) [] = []
over (x ∷ xs) (y ∷ l) = x ∷ over xs l

-- the same from the place a on
abbrev pub over_at : ℕ → List ℕ → List ℕ → List ℕ
over_at a xs l = take a l ++ over xs (drop a l)

-- exactly n octets: the first n of l, or l and then zeros
abbrev pub fixed : ℕ → List ℕ → List ℕ
fixed n l = over l (replicate n 0)

-- equally long, and the same octet at each place
unfoldable pub agrees : List ℕ → List ℕ → Bool
agrees [] [] = true
agrees [] (y ∷ ys) = false
agrees (x ∷ xs) [] = false
agrees (x ∷ xs) (y ∷ ys) = eqb x y && agrees xs ys
