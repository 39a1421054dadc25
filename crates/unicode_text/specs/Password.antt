-- An NT password from the text that a user types, and the text of a password.
-- Assumes nothing: these are definitions.
use Rattle.std.specs.Prelude.{Bool, cond, List, [], ℕ, ltb, length, Result, Ok, Err}
use Rattle.std.proofs.Math.Option.{Option, none, some}
use Rattle.refusals.specs.declared.Refusal.{Refusal}
use Rattle.refusals.specs.declared.Refusal.TheVariants.{Input, Text}
use Rattle.unicode_text.specs.Scalars.{recoded}
use Rattle.unicode_text.specs.Utf8.{utf8_of, utf8_first}
use Rattle.unicode_text.specs.Utf16.{utf16_of, utf16_first}

-- ---- sizes, in octets

-- the longest NT password, and the text of one: 256 units, of which each is a character of at most
-- three octets or half of one of four
abbrev pub password_max : ℕ
password_max = 512

abbrev pub text_max : ℕ
text_max = 768

-- ---- what is converted

-- octets, unless they were malformed, or else too many
abbrev pub converted : Bool → Option (List ℕ) → Result (List ℕ) Refusal
converted long none = Err Text
converted long (some l) = cond long (Err Input) (Ok l)

-- the same, of which at most so many fit
abbrev pub fitted : ℕ → Option (List ℕ) → Result (List ℕ) Refusal
fitted most none = Err Text
fitted most (some l) = converted (ltb most (length l)) (some l)

-- the octets that are answered; a refusal has none
abbrev pub octets_of : Result (List ℕ) Refusal → List ℕ
octets_of (Ok l) = l
octets_of (Err r) = []

-- RFC 2433 A.6, the Unicode password: of a text in UTF-8 the octets in UTF-16. Refusals 101 (the
-- text is malformed), then 8 (the password is over 512 octets).
unfoldable pub password_of : List ℕ → Result (List ℕ) Refusal
password_of text = fitted password_max (recoded utf8_first utf16_of text)

-- the inverse: of a password the text in UTF-8. Refusals 101 (an odd number of octets, or a
-- surrogate that is not paired), then 8 (the password is over 512 octets).
unfoldable pub text_of : List ℕ → Result (List ℕ) Refusal
text_of password =
    converted (ltb password_max (length password)) (recoded utf16_first utf8_of password)
