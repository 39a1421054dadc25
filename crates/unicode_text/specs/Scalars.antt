-- Unicode scalar values, a character at the front of encoded octets, and texts: what UTF-8 and
-- UTF-16 have in common.
-- Assumes nothing: these are definitions.
use Rattle.std.specs.Prelude.{Bool, true, false, cond, ◌||◌, List, [], ◌∷◌, ◌++◌, eqb, ltb}
use Rattle.std.specs.Prelude.{ℕ, zero, suc, ◌-◌}
use Rattle.std.proofs.Math.Option.{Option, none, some}
use Rattle.octets.specs.Digits.{between}
use Rattle.unicode_text.specs.declared.encoding.Char.{Char}

-- RFC 3629 section 3: U+0000 to U+10FFFF but for U+D800 to U+DFFF, which are the surrogates of
-- UTF-16 and no characters
abbrev pub is_scalar : ℕ → Bool
is_scalar n = ltb n 0xd800 || between 0xe000 0x10ffff n

-- ---- one character

-- the scalar value that the first octets of a list tell, and how many octets those are; of a
-- malformed sequence the width is 0
abbrev pub decoded_as : ℕ → ℕ → Char
decoded_as width value = record { width = width; value = value }

abbrev pub malformed : Char
malformed = decoded_as 0 0

-- ---- a text, which is a list of scalar values

-- the octets of each character, one character behind the other
unfoldable pub encoded : (ℕ → List ℕ) → List ℕ → List ℕ
encoded code [] = []
encoded code (v ∷ vs) = code v ++ encoded code vs

-- a character and the text behind it: none where either is malformed
abbrev pub joined : Char → Option (List ℕ) → Option (List ℕ)
joined c none = none
joined c (some vs) = cond (eqb c.width 0) none (some (c.value ∷ vs))

-- the text of a list of octets, whose first n belong to a character that is decoded already; none
-- where a sequence in it is malformed
unfoldable pub decoded_from : (List ℕ → Char) → ℕ → List ℕ → Option (List ℕ)
decoded_from first n [] = some []
decoded_from first zero (x ∷ l) =
    joined (first (x ∷ l)) (decoded_from first ((first (x ∷ l)).width - 1) l)
decoded_from first (suc n) (x ∷ l) = decoded_from first n l

abbrev pub decoded : (List ℕ → Char) → List ℕ → Option (List ℕ)
decoded first l = decoded_from first 0 l

abbrev pub is_some : Option (List ℕ) → Bool
is_some none = false
is_some (some vs) = true

-- octets in which nothing is malformed
abbrev pub well_formed : (List ℕ → Char) → List ℕ → Bool
well_formed first l = is_some (decoded first l)

-- ---- from one encoding to another

abbrev pub encoded_if : (ℕ → List ℕ) → Option (List ℕ) → Option (List ℕ)
encoded_if code none = none
encoded_if code (some vs) = some (encoded code vs)

-- decoded by the one and encoded by the other
abbrev pub recoded : (List ℕ → Char) → (ℕ → List ℕ) → List ℕ → Option (List ℕ)
recoded first code l = encoded_if code (decoded first l)
