-- A changed record, written back into its line (document 02, request 2026-02).
-- Assumes nothing: these are definitions.
use Rattle.std.specs.Prelude.{cond, List, ◌∷◌, ◌++◌, ℕ, ◌+◌, length, take, drop, replicate}
use Rattle.octets.specs.Digits.{hex_text}
use Rattle.octets.specs.Numbers.{to_be}
use Rattle.accounts.specs.declared.Account.{Account}
use Rattle.accounts.specs.declared.Hash.{Hash}
use Rattle.smbpasswd.specs.Line.{letter_x, colon, lct, from_field, field}
use Rattle.smbpasswd.specs.File.{Place, Nowhere, Line, Doubled, Malformed}
use Rattle.smbpasswd.specs.File.{place_of, line_at}

-- "digits in upper case, no hash as 32 X"
abbrev pub hash_text : Hash → List ℕ
hash_text h = cond h.present (hex_text h.octets) (replicate 32 letter_x)

-- "LCT as the present time"
abbrev pub time_text : ℕ → List ℕ
time_text now = lct ++ hex_text (to_be 4 now)

-- the line with LM hash, NT hash and time written anew, and every other octet as it was
unfoldable pub changed_line : Account → ℕ → List ℕ → List ℕ
changed_line a now l =
    field 0 l ++ colon ∷ (field 1 l ++ colon ∷ (hash_text a.lm ++ colon ∷ (hash_text a.nt
    ++ colon ∷ (field 4 l ++ colon ∷ (time_text now ++ colon ∷ from_field 6 l)))))

-- the file with another line in the place of the one that starts at an offset
abbrev pub with_line : ℕ → List ℕ → List ℕ → List ℕ
with_line at new f = take at f ++ (new ++ drop (at + length (line_at at f)) f)

-- "A name on no line is answered none, and nothing is written"; so it is where 14 or 15 is answered
abbrev pub written_at : Account → ℕ → List ℕ → Place → List ℕ
written_at a now f Nowhere = f
written_at a now f (Line at) = with_line at (changed_line a now (line_at at f)) f
written_at a now f (Doubled at) = f
written_at a now f (Malformed at) = f

unfoldable pub written_in : List ℕ → Account → ℕ → List ℕ → List ℕ
written_in name a now f = written_at a now f (place_of name f)
