-- Numbers as digits of w bits each, and as octets. "Be" (big-endian) has the most significant octet
-- first, "Le" (little-endian) the least significant.
-- Assumes nothing: these are definitions.
use Rattle.std.specs.Prelude.{List, [], ◌∷◌, ℕ, zero, suc, ◌+◌, ◌*◌, ◌/◌, ◌%◌, ◌^◌, length}

-- the number that digits of w bits make, the most significant first
abbrev pub from_digits : ℕ → List ℕ → ℕ
from_digits w [] = 0
from_digits w (d ∷ ds) = d * 2 ^ (w * length ds) + from_digits w ds

-- the n low digits of x
abbrev pub to_digits : ℕ → ℕ → ℕ → List ℕ
to_digits w zero x = []
to_digits w (suc n) x = x / 2 ^ (w * n) % 2 ^ w ∷ to_digits w n x

abbrev pub from_be : List ℕ → ℕ
from_be l = from_digits 8 l

abbrev pub to_be : ℕ → ℕ → List ℕ
to_be n x = to_digits 8 n x

abbrev pub from_le : List ℕ → ℕ
from_le [] = 0
from_le (b ∷ bs) = b + 256 * from_le bs

-- the n low octets of x
abbrev pub to_le : ℕ → ℕ → List ℕ
to_le zero x = []
to_le (suc n) x = x % 256 ∷ to_le n (x / 256)
