-- What the loops of the code leave, as their invariants say it.
-- Assumes nothing: these are definitions.
use Rattle.std.specs.Prelude.{Bool, false, List, [], ◌∷◌, ◌≡◌, ℕ, ◌+◌, ◌<◌, get_or, set}
use Rattle.issued.specs.Issued.{last_of, ending}

-- a count raised by 1
abbrev pub raised_at : List ℕ → ℕ → List ℕ
raised_at counts x = set counts x (get_or counts x 0 + 1)

-- for each entry the count of its last octet is raised
unfoldable pub raised : List ℕ → List (List ℕ) → List ℕ
raised counts [] = counts
raised counts (e ∷ es) = raised (raised_at counts (last_of e)) es

-- n more fit every count
abbrev pub CountsFit : List ℕ → ℕ → Type 0
CountsFit counts n = (x : ℕ) → get_or counts x 0 + n < 65536

-- an octet that is not marked ends none of the entries
abbrev pub Marked : List Bool → List (List ℕ) → Type 0
Marked marks es = (x : ℕ) → get_or marks x false ≡ false → ending x es ≡ 0
