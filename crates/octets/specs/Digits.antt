-- ASCII digits.
-- Assumes nothing: these are definitions.
use Rattle.std.specs.Prelude.{Bool, true, cond, ◌&&◌, List, [], ◌∷◌, ℕ, ◌+◌, ◌-◌, ◌*◌, ◌/◌, ◌%◌}
use Rattle.std.specs.Prelude.{leb, ltb}

abbrev pub between : ℕ → ℕ → ℕ → Bool
between low high c = leb low c && leb c high

-- the value of the octet c as a hexadecimal digit of either case, and 16 where it is none. c is a
-- digit of base b exactly where this is below b.
unfoldable pub digit_of : ℕ → ℕ
digit_of c =
    cond (between 48 57 c) (c - 48)
    (cond (between 65 70 c) (c - 55)
    (cond (between 97 102 c) (c - 87) 16))

-- the upper-case hexadecimal digit of a value below 16, which below 10 is the decimal digit
unfoldable pub hex_of : ℕ → ℕ
hex_of v = cond (ltb v 10) (v + 48) (v + 55)

-- each value is below the base (an octet that is no digit has the value 16)
abbrev pub all_below : ℕ → List ℕ → Bool
all_below base [] = true
all_below base (d ∷ ds) = ltb d base && all_below base ds

-- the number that digit values make after n
abbrev pub number_from : ℕ → ℕ → List ℕ → ℕ
number_from base n [] = n
number_from base n (d ∷ ds) = number_from base (n * base + d) ds

-- hexadecimal digit values in pairs, as octets
abbrev pub pairs : List ℕ → List ℕ
pairs [] = []
pairs (x ∷ []) = []
pairs (x ∷ y ∷ ds) = (x * 16 + y) ∷ pairs ds

-- each octet as two upper-case hexadecimal digits
abbrev pub hex_text : List ℕ → List ℕ
hex_text [] = []
hex_text (x ∷ l) = hex_of (x / 16 % 16) ∷ hex_of (x % 16) ∷ hex_text l
