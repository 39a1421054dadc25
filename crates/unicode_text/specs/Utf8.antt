-- UTF-8 (RFC 3629).
-- Assumes nothing: these are definitions.
use Rattle.std.specs.Prelude.{Bool, cond, ◌&&◌, List, [], ◌∷◌, leb, ltb, get_or}
use Rattle.std.specs.Prelude.{ℕ, ◌+◌, ◌*◌, ◌/◌, ◌%◌}
use Rattle.std.proofs.Math.Option.{Option}
use Rattle.octets.specs.Digits.{between}
use Rattle.unicode_text.specs.declared.encoding.Char.{Char}
use Rattle.unicode_text.specs.Scalars.{is_scalar, decoded_as, malformed, encoded, decoded}

-- section 3, the table: the octets of a scalar value. A tail, 10xxxxxx, has six of its bits.
abbrev pub tail : ℕ → ℕ
tail bits = 0x80 + bits % 64

unfoldable pub utf8_of : ℕ → List ℕ
utf8_of n =
    cond (ltb n 0x80) (n ∷ [])
    (cond (ltb n 0x800) ((0xc0 + n / 64) ∷ tail n ∷ [])
    (cond (ltb n 0x10000) ((0xe0 + n / 4096) ∷ tail (n / 64) ∷ tail n ∷ [])
    ((0xf0 + n / 262144 % 8) ∷ tail (n / 4096) ∷ tail (n / 64) ∷ tail n ∷ [])))

-- section 4, UTF8-tail. An octet that is missing is read as 0, and so is none.
abbrev pub is_tail : ℕ → Bool
is_tail octet = between 0x80 0xbf octet

-- a value that has so many octets, of which least is the smallest; or malformed: a tail is none,
-- the value has a shorter form (section 3: "the overlong UTF-8 sequence C0 80"), it is a surrogate,
-- or it is over 10FFFF
abbrev pub char_if_valid : ℕ → ℕ → Bool → ℕ → Char
char_if_valid width least tails value =
    cond (tails && (leb least value && is_scalar value)) (decoded_as width value) malformed

-- the character with which a list that is not empty begins, from its first four octets. A tail
-- (80 to BF) and F8 to FF begin none, and what C0, C1 and F5 to F7 begin is overlong or too large.
abbrev pub char_from_octets : ℕ → ℕ → ℕ → ℕ → Char
char_from_octets a b c d =
    cond (ltb a 0x80) (decoded_as 1 a)
    (cond (between 0xc0 0xdf a) (char_if_valid 2 0x80 (is_tail b) (a % 32 * 64 + b % 64))
    (cond (between 0xe0 0xef a)
    (char_if_valid 3 0x800 (is_tail b && is_tail c) (a % 16 * 4096 + b % 64 * 64 + c % 64))
    (cond (between 0xf0 0xf7 a)
    (char_if_valid 4 0x10000 (is_tail b && (is_tail c && is_tail d))
    (a % 8 * 262144 + b % 64 * 4096 + c % 64 * 64 + d % 64))
    malformed)))

unfoldable pub utf8_first : List ℕ → Char
utf8_first l = char_from_octets (get_or l 0 0) (get_or l 1 0) (get_or l 2 0) (get_or l 3 0)

-- a text in UTF-8, and the text of octets in UTF-8
abbrev pub utf8_encoded : List ℕ → List ℕ
utf8_encoded vs = encoded utf8_of vs

abbrev pub utf8_decoded : List ℕ → Option (List ℕ)
utf8_decoded l = decoded utf8_first l
