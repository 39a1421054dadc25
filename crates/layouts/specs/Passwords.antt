-- The layout of a password in 16-bit characters: the number of its bytes, and the bytes, with bytes
-- 0 behind them.
-- Assumes nothing: these are definitions.
use Rattle.std.specs.Prelude.{Bool, not, ◌&&◌, List, [], ◌∷◌, ◌++◌, ℕ, length}
use Rattle.octets.specs.Parts.{part, fixed}
use Rattle.octets.specs.Numbers.{to_be, from_be}
use Rattle.packets.specs.Frame.{octet}
use Rattle.credentials.specs.Credentials.{longest_nt, bad_nt_password}
use Rattle.layouts.specs.Values.{password_kind, tagged, is_encoding}

-- the size, in bytes; of the password's own there is room for the most that one has
abbrev pub password_size : ℕ
password_size = 516

-- in the whole value
abbrev pub password_length_at : ℕ
password_length_at = 2

abbrev pub password_bytes_at : ℕ
password_bytes_at = 4

abbrev pub encode_password : List ℕ → List ℕ
encode_password p = tagged password_kind (to_be 2 (length p) ++ fixed longest_nt p)

-- as many bytes as the value says, or as there are
abbrev pub decode_password : List ℕ → List ℕ
decode_password bytes =
    part password_bytes_at (from_be (octet password_length_at bytes ∷ octet 3 bytes ∷ [])) bytes

-- and they are an NT password's: an even number (document 01)
unfoldable pub is_encoded_password : List ℕ → Bool
is_encoded_password bytes =
    is_encoding encode_password decode_password bytes
    && not (bad_nt_password (decode_password bytes))
