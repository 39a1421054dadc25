-- Passwords from C: made of a text or of 16-bit characters, read as a text, and hashed.
-- Assumes nothing: these are definitions.
use Rattle.std.specs.Prelude.{Bool, cond, ◌&&◌, List, ◌≡◌, ℕ, ltb, length, Result, Ok, Err}
use Rattle.refusals.specs.Refusal.{number, told}
use Rattle.refusals.specs.declared.Refusal.{Refusal}
use Rattle.octets.specs.Parts.{over}
use Rattle.packets.specs.Sizes.{hash_size}
use Rattle.credentials.specs.Credentials.{bad_nt_password, nt_hashed}
use Rattle.mschap.specs.Answers.{octets_or_zeros}
use Rattle.unicode_text.specs.Password.{octets_of, password_of, text_of}
use Rattle.layouts.specs.Call.{Fills, sized, numbered, after_call}
use Rattle.layouts.specs.Passwords.{password_size, encode_password, decode_password}
use Rattle.layouts.specs.Passwords.{is_encoded_password}

-- ---- made

abbrev pub MakePasswordCall : List ℕ → List ℕ → ℕ → List ℕ → Type 0
MakePasswordCall text out r out_after =
    Fills (sized password_size out) (told (password_of text))
    (encode_password (octets_of (password_of text))) out r out_after

unfoldable pub characters_refusal : List ℕ → ℕ
characters_refusal characters = cond (bad_nt_password characters) 8 0

abbrev pub MakeCharactersCall : List ℕ → List ℕ → ℕ → List ℕ → Type 0
MakeCharactersCall characters out r out_after =
    Fills (sized password_size out) (characters_refusal characters) (encode_password characters)
    out r out_after

-- ---- read

abbrev pub text_from : List ℕ → Result (List ℕ) Refusal
text_from password = text_of (decode_password password)

-- 101 (a valid password is never too long), then 9: the buffer is too small
unfoldable pub read_refusal : Result (List ℕ) Refusal → List ℕ → ℕ
read_refusal (Ok text) out = cond (ltb (length out) (length text)) 9 0
read_refusal (Err r) out = number r

pub record ReadPasswordCall (password out : List ℕ) (size r : ℕ) (out_after : List ℕ)
    (size_after : ℕ) : Type 0 where
  pub number : r ≡ numbered (is_encoded_password password) (read_refusal (text_from password) out)
  pub text : out_after ≡ after_call r (over (octets_of (text_from password)) out) out
  pub long : size_after ≡ after_call r (length (octets_of (text_from password))) size

-- ---- hashed

unfoldable pub hash_arguments : List ℕ → List ℕ → Bool
hash_arguments password hash = is_encoded_password password && sized hash_size hash

abbrev pub HashCall : List ℕ → List ℕ → ℕ → List ℕ → Type 0
HashCall password hash r hash_after =
    Fills (hash_arguments password hash) (told (nt_hashed (decode_password password)))
    (octets_or_zeros hash_size (nt_hashed (decode_password password))) hash r hash_after
