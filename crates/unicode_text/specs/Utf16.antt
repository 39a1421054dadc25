-- UTF-16 (RFC 2781), the least significant octet of each 16-bit unit first, as the Unicode
-- characters of an NT password stand (RFC 2433 A.6).
-- Assumes nothing: these are definitions.
use Rattle.std.specs.Prelude.{Bool, cond, ◌&&◌, List, [], ◌∷◌, ◌++◌, leb, ltb, length, get_or}
use Rattle.std.specs.Prelude.{ℕ, ◌+◌, ◌-◌, ◌*◌, ◌/◌, ◌%◌}
use Rattle.std.proofs.Math.Option.{Option}
use Rattle.octets.specs.Digits.{between}
use Rattle.octets.specs.Numbers.{from_le, to_le}
use Rattle.unicode_text.specs.declared.encoding.Char.{Char}
use Rattle.unicode_text.specs.Scalars.{decoded_as, malformed, encoded, decoded}

-- section 2.1: one unit, or from 10000 on a high and a low surrogate with ten bits each of what
-- the value is over 10000
abbrev pub high_of : ℕ → ℕ
high_of n = 0xd800 + (n - 0x10000) / 1024

abbrev pub low_of : ℕ → ℕ
low_of n = 0xdc00 + (n - 0x10000) % 1024

unfoldable pub utf16_of : ℕ → List ℕ
utf16_of n = cond (ltb n 0x10000) (to_le 2 n) (to_le 2 (high_of n) ++ to_le 2 (low_of n))

-- the kinds of surrogates
abbrev pub is_high : ℕ → Bool
is_high unit = between 0xd800 0xdbff unit

abbrev pub is_low : ℕ → Bool
is_low unit = between 0xdc00 0xdfff unit

-- section 2.2: the character with which a list of n octets begins, from its first two units.
-- Malformed are a unit cut short, a low surrogate with no high one before it, and a high one with
-- no low one behind it.
abbrev pub char_from_units : ℕ → ℕ → ℕ → Char
char_from_units n unit next =
    cond (ltb n 2) malformed
    (cond (is_high unit)
    (cond (leb 4 n && is_low next)
    (decoded_as 4 (0x10000 + ((unit - 0xd800) * 1024 + (next - 0xdc00)))) malformed)
    (cond (is_low unit) malformed (decoded_as 2 unit)))

-- the unit from the place i on
abbrev pub unit_at : List ℕ → ℕ → ℕ
unit_at l i = from_le (get_or l i 0 ∷ get_or l (i + 1) 0 ∷ [])

unfoldable pub utf16_first : List ℕ → Char
utf16_first l = char_from_units (length l) (unit_at l 0) (unit_at l 2)

-- a text in UTF-16, and the text of octets in UTF-16
abbrev pub utf16_encoded : List ℕ → List ℕ
utf16_encoded vs = encoded utf16_of vs

abbrev pub utf16_decoded : List ℕ → Option (List ℕ)
utf16_decoded l = decoded utf16_first l
