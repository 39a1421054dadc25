-- The challenges that follow one another in a conversation, and the identifiers of the packets that
-- answer them (RFC 2433, section 8, section 10 for a change and B.1 for a retry).
-- Assumes nothing: these are definitions.
use Rattle.std.specs.Prelude.{ℕ, zero, suc, ◌+◌, ◌%◌, List, [], ◌∷◌}

-- the identifier of the packet that answers a Failure
abbrev pub next_id : ℕ → ℕ
next_id id = (id + 1) % 256

-- "previous challenge value plus decimal 23 in the first octet" (section 8), with no carry into
-- the others: document 01's "23 rule"
abbrev pub incremented : List ℕ → List ℕ
incremented [] = []
incremented (x ∷ xs) = (x + 23) % 256 ∷ xs

-- the challenge c and those that follow it by the 23 rule, n in all
unfoldable pub challenges_from : ℕ → List ℕ → List (List ℕ)
challenges_from zero c = []
challenges_from (suc n) c = c ∷ challenges_from n (incremented c)
