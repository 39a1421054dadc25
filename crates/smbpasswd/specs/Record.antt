-- The account record of a line (document 02, request 2026-02), given the present time and the
-- maximum age of a password.
-- Assumes nothing: these are definitions.
use Rattle.std.specs.Prelude.{Bool, false, cond, not, ◌&&◌, List, map, ℕ, ◌-◌, eqb, ltb, drop}
use Rattle.octets.specs.Digits.{digit_of, pairs}
use Rattle.octets.specs.Numbers.{from_be}
use Rattle.octets.specs.Parts.{part}
use Rattle.octets.specs.Split.{holds}
use Rattle.accounts.specs.Account.{no_hash, hash_of, account_with}
use Rattle.accounts.specs.declared.Account.{Account}
use Rattle.accounts.specs.declared.Hash.{Hash}
use Rattle.smbpasswd.specs.Line.{letter_d, letter_x, field, is_absent}

-- the hash of a field
abbrev pub hash_in : List ℕ → Hash
hash_in f = cond (is_absent f) no_hash (hash_of (pairs (map digit_of f)))

-- a flag is one of the 11 octets in brackets
abbrev pub has_flag : ℕ → List ℕ → Bool
has_flag c f = holds c (part 1 11 f)

-- the time of the last change: "times are 32-bit seconds", the most significant digit first
abbrev pub time_in : List ℕ → ℕ
time_in f = from_be (pairs (map digit_of (drop 4 f)))

-- "an account is expired when the age is more than that, unless the flag X is there, LCT is zero or
-- LCT lies in the future"
abbrev pub is_expired : ℕ → ℕ → Bool → ℕ → Bool
is_expired now max_age never t =
    not never && (not (eqb t 0) && (not (ltb now t) && ltb max_age (now - t)))

-- "D means disabled; the hours and dial-in marks are clear"; the fields 2 and 3 are LM and NT hash
unfoldable pub account_in : ℕ → ℕ → List ℕ → Account
account_in now max_age l =
    account_with (hash_in (field 3 l)) (hash_in (field 2 l)) (has_flag letter_d (field 4 l))
    false false
    (is_expired now max_age (has_flag letter_x (field 4 l)) (time_in (field 5 l)))
