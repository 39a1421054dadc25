-- A record as C makes and reads it: flags and hashes. Its count is set and read by itself.
-- Assumes nothing: these are definitions.
use Rattle.std.specs.Prelude.{Bool, cond, ◌&&◌, List, ℕ, ◌+◌, ◌*◌, ◌/◌, ◌%◌, ltb}
use Rattle.octets.specs.Parts.{part, fixed}
use Rattle.packets.specs.Sizes.{hash_size}
use Rattle.accounts.specs.Account.{hash_if, account_with, lookup_of}
use Rattle.accounts.specs.declared.EntryLookup.{EntryLookup}
use Rattle.accounts.specs.declared.Lookup.{Lookup}
use Rattle.layouts.specs.Call.{sized}
use Rattle.layouts.specs.Records.{flag, is_flag}

-- ---- the flags

abbrev pub found_flag : ℕ
found_flag = 1

abbrev pub nt_flag : ℕ
nt_flag = 2

abbrev pub lm_flag : ℕ
lm_flag = 4

abbrev pub disabled_flag : ℕ
disabled_flag = 8

abbrev pub hours_denied_flag : ℕ
hours_denied_flag = 16

abbrev pub dialin_denied_flag : ℕ
dialin_denied_flag = 32

abbrev pub expired_flag : ℕ
expired_flag = 64

-- flags are below this
abbrev pub flags_end : ℕ
flags_end = 128

abbrev pub is_set : ℕ → ℕ → Bool
is_set the_flag flags = is_flag (flags / the_flag % 2)

unfoldable pub flags_of : EntryLookup → ℕ
flags_of l =
    found_flag * flag l.found
    + (nt_flag * flag l.entry.nt.present
    + (lm_flag * flag l.entry.lm.present
    + (disabled_flag * flag l.entry.disabled
    + (hours_denied_flag * flag l.entry.hours_denied
    + (dialin_denied_flag * flag l.entry.dialin_denied
    + expired_flag * flag l.entry.expired)))))

-- ---- made

-- a hash that was passed, or zeros
abbrev pub passed_hash : List ℕ → List ℕ
passed_hash hash = fixed hash_size (part 0 hash_size hash)

-- with count 0
unfoldable pub record_from : ℕ → List ℕ → List ℕ → Lookup
record_from flags nt lm =
    lookup_of (is_set found_flag flags)
    (account_with (hash_if (is_set nt_flag flags) (passed_hash nt))
    (hash_if (is_set lm_flag flags) (passed_hash lm)) (is_set disabled_flag flags)
    (is_set hours_denied_flag flags) (is_set dialin_denied_flag flags) (is_set expired_flag flags))

-- a hash is passed whole where its flag is set, and else not at all
abbrev pub is_hash_passed : Bool → List ℕ → Bool
is_hash_passed set hash = sized (cond set hash_size 0) hash

unfoldable pub record_arguments : ℕ → List ℕ → List ℕ → Bool
record_arguments flags nt lm =
    ltb flags flags_end
    && (is_hash_passed (is_set nt_flag flags) nt && is_hash_passed (is_set lm_flag flags) lm)
