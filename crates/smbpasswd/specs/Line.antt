-- A line of an account file in Samba's smbpasswd(5) layout. Words in quotes are document 02's,
-- request 2026-02.
-- Assumes nothing: these are definitions.
use Rattle.std.specs.Prelude.{Bool, true, ◌&&◌, ◌||◌, List, [], ◌∷◌, map, length}
use Rattle.std.specs.Prelude.{ℕ, zero, suc, eqb, leb, take, drop, get_or}
use Rattle.octets.specs.Digits.{digit_of, all_below}
use Rattle.octets.specs.Parts.{agrees}
use Rattle.octets.specs.Split.{holds, before, behind}

-- ---- octets, in ASCII

abbrev pub lf : ℕ
lf = 10

abbrev pub number_sign : ℕ
number_sign = 35

abbrev pub colon : ℕ
colon = 58

abbrev pub letter_d : ℕ
letter_d = 68

abbrev pub letter_x : ℕ
letter_x = 88

-- NO PASSWORD
abbrev pub no_password : List ℕ
no_password = 78 ∷ 79 ∷ 32 ∷ 80 ∷ 65 ∷ 83 ∷ 83 ∷ 87 ∷ 79 ∷ 82 ∷ 68 ∷ []

-- LCT- (last change time)
abbrev pub lct : List ℕ
lct = 76 ∷ 67 ∷ 84 ∷ 45 ∷ []

-- a list begins with another
abbrev pub begins : List ℕ → List ℕ → Bool
begins front l = agrees (take (length front) l) front

-- ---- fields, counted from 0

-- what stands from the field n on
abbrev pub from_field : ℕ → List ℕ → List ℕ
from_field zero l = l
from_field (suc n) l = behind colon (from_field n l)

-- the field n: "any octets but colon" (and a line has no LF: File `lines`)
abbrev pub field : ℕ → List ℕ → List ℕ
field n l = before colon (from_field n l)

-- the first n fields are there, "each closed by a colon"
abbrev pub closed : ℕ → List ℕ → Bool
closed zero l = true
closed (suc n) l = closed n l && holds colon (from_field n l)

-- ---- the form of each

-- "name (1 to 256 octets)"
abbrev pub is_name : List ℕ → Bool
is_name f = leb 1 (length f) && leb (length f) 256

-- "uid (1 to 10 digits)"
abbrev pub is_uid : List ℕ → Bool
is_uid f = leb 1 (length f) && (leb (length f) 10 && all_below 10 (map digit_of f))

-- "none if they begin with X or NO PASSWORD"
abbrev pub is_absent : List ℕ → Bool
is_absent f = begins (letter_x ∷ []) f || begins no_password f

-- "LM and NT hash (32 octets, hexadecimal of either case, or none ..)"
abbrev pub is_hash : List ℕ → Bool
is_hash f = eqb (length f) 32 && (is_absent f || all_below 16 (map digit_of f))

-- "11 flags in brackets"
abbrev pub is_flags : List ℕ → Bool
is_flags f = eqb (length f) 13 && (eqb (get_or f 0 0) 91 && eqb (get_or f 12 0) 93)

-- "`LCT-` and 8 such digits"
abbrev pub is_time : List ℕ → Bool
is_time f = eqb (length f) 12 && (begins lct f && all_below 16 (map digit_of (drop 4 f)))

-- ---- the line

-- "a line beginning with # is skipped"
abbrev pub is_comment : List ℕ → Bool
is_comment l = eqb (get_or l 0 0) number_sign

-- "six fields of any octets but colon and LF, each closed by a colon"; "the rest of the line is
-- ignored"
unfoldable pub is_account : List ℕ → Bool
is_account l =
    closed 6 l && (is_name (field 0 l) && (is_uid (field 1 l) && (is_hash (field 2 l)
    && (is_hash (field 3 l) && (is_flags (field 4 l) && is_time (field 5 l))))))
