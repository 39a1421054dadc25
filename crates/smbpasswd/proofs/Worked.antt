-- Worked examples of the account file (document 02, request 2026-02), computed from the definitions.
-- Assumes nothing.
use mathlib.Core.Bool.{Bool, true, false}
use mathlib.Core.List.{List, [], ◌∷◌, ◌++◌}
use mathlib.Core.Path.{◌≡◌, refl}
use Prim.Native.Nat.{ℕ}
use Rattle.std.specs.Prelude.{Ok, Err}
use Rattle.refusals.specs.declared.Refusal.TheVariants as refusal
use Rattle.octets.specs.Digits.{digit_of, hex_of}
use Rattle.octets.specs.Parts.{agrees}
use Rattle.accounts.specs.Account.{no_hash, hash_of, account_with, found}
use Rattle.accounts.specs.declared.Account.{Account}
use Rattle.smbpasswd.specs.Line.{lf, is_account}
use Rattle.smbpasswd.specs.Record.{is_expired, account_in}
use Rattle.smbpasswd.specs.File.{lines, place_of, find_in}
use Rattle.smbpasswd.specs.Write.{changed_line, written_in}
use Rattle.smbpasswd.specs.Summary.{counts_of, summary_of}
use Rattle.smbpasswd.specs.File.{Nowhere, Line, Doubled, Malformed}

-- ---- lines

-- bob
abbrev bob : List ℕ
bob =
    98 ∷ 111 ∷ 98 ∷ []

-- bob:1001:75BA30198E6D1975AAD3B435B51404EE:FC156AF7EDCD6C0EDDE3337D427F4EAC:[U          ]:
-- LCT-000003E8:
abbrev line : List ℕ
line =
    98 ∷ 111 ∷ 98 ∷ 58 ∷ 49 ∷ 48 ∷ 48 ∷ 49 ∷ 58 ∷ 55 ∷ 53 ∷ 66 ∷ 65 ∷ 51 ∷ 48 ∷ 49 ∷ 57 ∷ 56 ∷ 69 ∷ 54 ∷ 68 ∷ 49 ∷ 57 ∷ 55 ∷ 53 ∷ 65
    ∷ 65 ∷ 68 ∷ 51 ∷ 66 ∷ 52 ∷ 51 ∷ 53 ∷ 66 ∷ 53 ∷ 49 ∷ 52 ∷ 48 ∷ 52 ∷ 69 ∷ 69 ∷ 58 ∷ 70 ∷ 67 ∷ 49 ∷ 53 ∷ 54 ∷ 65 ∷ 70 ∷ 55 ∷ 69 ∷ 68
    ∷ 67 ∷ 68 ∷ 54 ∷ 67 ∷ 48 ∷ 69 ∷ 68 ∷ 68 ∷ 69 ∷ 51 ∷ 51 ∷ 51 ∷ 55 ∷ 68 ∷ 52 ∷ 50 ∷ 55 ∷ 70 ∷ 52 ∷ 69 ∷ 65 ∷ 67 ∷ 58 ∷ 91 ∷ 85 ∷ 32
    ∷ 32 ∷ 32 ∷ 32 ∷ 32 ∷ 32 ∷ 32 ∷ 32 ∷ 32 ∷ 32 ∷ 93 ∷ 58 ∷ 76 ∷ 67 ∷ 84 ∷ 45 ∷ 48 ∷ 48 ∷ 48 ∷ 48 ∷ 48 ∷ 51 ∷ 69 ∷ 56 ∷ 58 ∷ []

-- the same with its digits in lower case, and text behind them
abbrev lower : List ℕ
lower =
    98 ∷ 111 ∷ 98 ∷ 58 ∷ 49 ∷ 48 ∷ 48 ∷ 49 ∷ 58 ∷ 55 ∷ 53 ∷ 98 ∷ 97 ∷ 51 ∷ 48 ∷ 49 ∷ 57 ∷ 56 ∷ 101 ∷ 54 ∷ 100 ∷ 49 ∷ 57 ∷ 55 ∷ 53 ∷ 97
    ∷ 97 ∷ 100 ∷ 51 ∷ 98 ∷ 52 ∷ 51 ∷ 53 ∷ 98 ∷ 53 ∷ 49 ∷ 52 ∷ 48 ∷ 52 ∷ 101 ∷ 101 ∷ 58 ∷ 102 ∷ 99 ∷ 49 ∷ 53 ∷ 54 ∷ 97 ∷ 102 ∷ 55 ∷ 101 ∷ 100
    ∷ 99 ∷ 100 ∷ 54 ∷ 99 ∷ 48 ∷ 101 ∷ 100 ∷ 100 ∷ 101 ∷ 51 ∷ 51 ∷ 51 ∷ 55 ∷ 100 ∷ 52 ∷ 50 ∷ 55 ∷ 102 ∷ 52 ∷ 101 ∷ 97 ∷ 99 ∷ 58 ∷ 91 ∷ 85 ∷ 32
    ∷ 32 ∷ 32 ∷ 32 ∷ 32 ∷ 32 ∷ 32 ∷ 32 ∷ 32 ∷ 32 ∷ 93 ∷ 58 ∷ 76 ∷ 67 ∷ 84 ∷ 45 ∷ 48 ∷ 48 ∷ 48 ∷ 48 ∷ 48 ∷ 51 ∷ 101 ∷ 56 ∷ 58 ∷ 120 ∷ 58
    ∷ 121 ∷ 13 ∷ []

-- another account, disabled, without an NT hash, and with the flag X
abbrev ann : List ℕ
ann =
    97 ∷ 110 ∷ 110 ∷ 58 ∷ 49 ∷ 48 ∷ 48 ∷ 49 ∷ 58 ∷ 88 ∷ 63 ∷ 63 ∷ 63 ∷ 63 ∷ 63 ∷ 63 ∷ 63 ∷ 63 ∷ 63 ∷ 63 ∷ 63 ∷ 63 ∷ 63 ∷ 63 ∷ 63 ∷ 63
    ∷ 63 ∷ 63 ∷ 63 ∷ 63 ∷ 63 ∷ 63 ∷ 63 ∷ 63 ∷ 63 ∷ 63 ∷ 63 ∷ 63 ∷ 63 ∷ 63 ∷ 63 ∷ 58 ∷ 78 ∷ 79 ∷ 32 ∷ 80 ∷ 65 ∷ 83 ∷ 83 ∷ 87 ∷ 79 ∷ 82
    ∷ 68 ∷ 88 ∷ 88 ∷ 88 ∷ 88 ∷ 88 ∷ 88 ∷ 88 ∷ 88 ∷ 88 ∷ 88 ∷ 88 ∷ 88 ∷ 88 ∷ 88 ∷ 88 ∷ 88 ∷ 88 ∷ 88 ∷ 88 ∷ 88 ∷ 88 ∷ 58 ∷ 91 ∷ 68 ∷ 88
    ∷ 32 ∷ 32 ∷ 32 ∷ 32 ∷ 32 ∷ 32 ∷ 32 ∷ 32 ∷ 32 ∷ 93 ∷ 58 ∷ 76 ∷ 67 ∷ 84 ∷ 45 ∷ 48 ∷ 48 ∷ 48 ∷ 48 ∷ 48 ∷ 51 ∷ 69 ∷ 56 ∷ 58 ∷ []

-- junk
abbrev junk : List ℕ
junk =
    106 ∷ 117 ∷ 110 ∷ 107 ∷ []

-- ---- hashes

abbrev nt_old : List ℕ
nt_old = 0xfc ∷ 0x15 ∷ 0x6a ∷ 0xf7 ∷ 0xed ∷ 0xcd ∷ 0x6c ∷ 0x0e ∷ 0xdd ∷ 0xe3 ∷ 0x33 ∷ 0x7d ∷ 0x42 ∷ 0x7f ∷ 0x4e ∷ 0xac ∷ []

abbrev lm_old : List ℕ
lm_old = 0x75 ∷ 0xba ∷ 0x30 ∷ 0x19 ∷ 0x8e ∷ 0x6d ∷ 0x19 ∷ 0x75 ∷ 0xaa ∷ 0xd3 ∷ 0xb4 ∷ 0x35 ∷ 0xb5 ∷ 0x14 ∷ 0x04 ∷ 0xee ∷ []

-- of "clientPass"
abbrev nt_new : List ℕ
nt_new = 0x44 ∷ 0xeb ∷ 0xba ∷ 0x8d ∷ 0x53 ∷ 0x12 ∷ 0xb8 ∷ 0xd6 ∷ 0x11 ∷ 0x47 ∷ 0x44 ∷ 0x11 ∷ 0xf5 ∷ 0x69 ∷ 0x89 ∷ 0xae ∷ []

-- ---- looked up

-- "expired when the age is more than that": LCT is 1000; at 1100 the age is 100
abbrev record_of : Bool → Account
record_of expired = account_with (hash_of nt_old) (hash_of lm_old) false false false expired

pub age_of_100 : (find_in 1100 100 bob line).lookup ≡ found (record_of false)
unfolding find_in place_of lines is_account account_in agrees digit_of
age_of_100 = refl

pub age_over_99 : (find_in 1100 99 bob (line ++ lf ∷ [])).lookup ≡ found (record_of true)
unfolding find_in place_of lines is_account account_in agrees digit_of
age_over_99 = refl

-- either case of digits, and the rest ignored; behind a comment and another account
abbrev file : List ℕ
file = 35 ∷ 120 ∷ lf ∷ (ann ++ lf ∷ lower)

pub second_line : place_of bob file ≡ Line 106
unfolding place_of lines is_account agrees digit_of
second_line = refl

pub lower_case : (find_in 1000 0 bob file).lookup ≡ found (record_of false)
unfolding find_in place_of lines is_account account_in agrees digit_of
lower_case = refl

-- D, X .., NO PASSWORD .. and the flag X
pub no_hashes : (find_in 4294967295 0 (97 ∷ 110 ∷ 110 ∷ []) file).lookup ≡ found (account_with no_hash no_hash true false false false)
unfolding find_in place_of lines is_account account_in agrees digit_of
no_hashes = refl

-- the exceptions, and ages of 32 bits
pub exceptions : (is_expired 1100 99 true 1000 ≡ false) × (is_expired 4294967295 0 false 0 ≡ false) × (is_expired 1000 0 false 2000 ≡ false)
    × (is_expired 1000 0 false 1000 ≡ false) × (is_expired 4294967295 4294967293 false 1 ≡ true)
exceptions = (refl, refl, refl, refl, refl)

-- ---- refused, and none

pub malformed_behind : place_of bob (line ++ lf ∷ (junk ++ lf ∷ [])) ≡ Malformed 103
unfolding place_of lines is_account agrees digit_of
malformed_behind = refl

pub malformed_before_doubled : place_of bob (line ++ lf ∷ (line ++ lf ∷ junk)) ≡ Malformed 206
unfolding place_of lines is_account agrees digit_of
malformed_before_doubled = refl

pub doubled : place_of bob (line ++ lf ∷ lower) ≡ Doubled 0
unfolding place_of lines is_account agrees digit_of
doubled = refl

-- a part of a name, and the empty file
pub on_no_line : (place_of (98 ∷ 111 ∷ []) line ≡ Nowhere) × (place_of bob [] ≡ Nowhere)
unfolding place_of lines is_account agrees digit_of
on_no_line = (refl, refl)

-- an empty line between is a line, an empty rest is none
pub lines_end : (lines (97 ∷ lf ∷ lf ∷ 98 ∷ []) ≡ (97 ∷ []) ∷ [] ∷ (98 ∷ []) ∷ []) × (lines (97 ∷ lf ∷ []) ≡ (97 ∷ []) ∷ [])
    × (lines (lf ∷ []) ≡ [] ∷ [])
unfolding lines
lines_end = (refl, refl, refl)

-- ---- written back

-- bob:1001:XXXXXXXXXXXXXXXXXXXXXXXXXXXXXXXX:44EBBA8D5312B8D611474411F56989AE:[U          ]:
-- LCT-FFFFFFFF: and the rest as it was
abbrev changed : List ℕ
changed =
    98 ∷ 111 ∷ 98 ∷ 58 ∷ 49 ∷ 48 ∷ 48 ∷ 49 ∷ 58 ∷ 88 ∷ 88 ∷ 88 ∷ 88 ∷ 88 ∷ 88 ∷ 88 ∷ 88 ∷ 88 ∷ 88 ∷ 88 ∷ 88 ∷ 88 ∷ 88 ∷ 88 ∷ 88 ∷ 88
    ∷ 88 ∷ 88 ∷ 88 ∷ 88 ∷ 88 ∷ 88 ∷ 88 ∷ 88 ∷ 88 ∷ 88 ∷ 88 ∷ 88 ∷ 88 ∷ 88 ∷ 88 ∷ 58 ∷ 52 ∷ 52 ∷ 69 ∷ 66 ∷ 66 ∷ 65 ∷ 56 ∷ 68 ∷ 53 ∷ 51
    ∷ 49 ∷ 50 ∷ 66 ∷ 56 ∷ 68 ∷ 54 ∷ 49 ∷ 49 ∷ 52 ∷ 55 ∷ 52 ∷ 52 ∷ 49 ∷ 49 ∷ 70 ∷ 53 ∷ 54 ∷ 57 ∷ 56 ∷ 57 ∷ 65 ∷ 69 ∷ 58 ∷ 91 ∷ 85 ∷ 32
    ∷ 32 ∷ 32 ∷ 32 ∷ 32 ∷ 32 ∷ 32 ∷ 32 ∷ 32 ∷ 32 ∷ 93 ∷ 58 ∷ 76 ∷ 67 ∷ 84 ∷ 45 ∷ 70 ∷ 70 ∷ 70 ∷ 70 ∷ 70 ∷ 70 ∷ 70 ∷ 70 ∷ 58 ∷ 120 ∷ 58
    ∷ 121 ∷ 13 ∷ []

pub written : written_in bob (account_with (hash_of nt_new) no_hash true true true true) 4294967295 lower ≡ changed
unfolding written_in place_of lines is_account changed_line agrees digit_of hex_of
written = refl

-- ---- summed up

-- `1100 99`, a comment, bob, ann, and a line of another form
pub summed : summary_of (49 ∷ 49 ∷ 48 ∷ 48 ∷ 32 ∷ 57 ∷ 57 ∷ lf ∷ (file ++ lf ∷ junk))
    ≡ Ok (record { lines = 3; bad = 1; disabled = 1; expired = 1; no_nt = 1 })
unfolding summary_of counts_of lines is_account account_in agrees digit_of
summed = refl

-- two spaces; a number of 33 bits
pub refused_heads : (summary_of (53 ∷ 32 ∷ 32 ∷ 53 ∷ lf ∷ []) ≡ Err refusal.Line)
    × (summary_of (52 ∷ 50 ∷ 57 ∷ 52 ∷ 57 ∷ 54 ∷ 55 ∷ 50 ∷ 57 ∷ 54 ∷ 32 ∷ 49 ∷ []) ≡ Err refusal.Line)
unfolding summary_of counts_of lines digit_of
refused_heads = (refl, refl)
