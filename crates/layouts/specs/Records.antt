-- The layouts of entries (accounts without their round keys), of what a lookup found of one, and of
-- records: that and the round keys behind it. Each has a size, an encoder (`encode..`) and a
-- decoder (`decode..`), which is total; the names in `..At` are places.
-- Assumes nothing: these are definitions.
use Rattle.std.specs.Prelude.{Bool, cond, ◌&&◌, List, [], ◌∷◌, ◌++◌, ℕ, ◌+◌, eqb}
use Rattle.octets.specs.Parts.{part, fixed, agrees}
use Rattle.packets.specs.Sizes.{hash_size}
use Rattle.packets.specs.Frame.{octet}
use Rattle.accounts.specs.Account.{lookup_of, with_schedules, entry_lookup_of}
use Rattle.accounts.specs.declared.Hash.{Hash}
use Rattle.accounts.specs.declared.Entry.{Entry}
use Rattle.accounts.specs.declared.EntryLookup.{EntryLookup}
use Rattle.accounts.specs.declared.Lookup.{Lookup}
use Rattle.layouts.specs.Call.{sized}
use Rattle.layouts.specs.Values.{record_kind, tagged, body_in}
use Rattle.layouts.specs.Keys.{keys_size, both_keys_size, keys_at, encode_schedules}

-- ---- the sizes, in bytes

-- a hash, or none
abbrev pub optional_hash_size : ℕ
optional_hash_size = 17

abbrev pub entry_size : ℕ
entry_size = 39

abbrev pub entry_lookup_size : ℕ
entry_lookup_size = 40

-- a record before its round keys, with kind and version
abbrev pub record_head_size : ℕ
record_head_size = 42

abbrev pub record_size : ℕ
record_size = record_head_size + both_keys_size

-- ---- flags and hashes

-- 1 is true, 0 is false
abbrev pub flag : Bool → ℕ
flag b = cond b 1 0

abbrev pub is_flag : ℕ → Bool
is_flag n = eqb n 1

-- whether there is a hash, and the hash
abbrev pub encode_hash : Hash → List ℕ
encode_hash h = flag h.present ∷ h.octets

abbrev pub decode_hash : List ℕ → Hash
decode_hash bytes =
    record { present = is_flag (octet 0 bytes); octets = fixed hash_size (part 1 hash_size bytes) }

-- ---- entries

abbrev pub nt_at : ℕ
nt_at = 0

abbrev pub lm_at : ℕ
lm_at = 17

abbrev pub disabled_at : ℕ
disabled_at = 34

abbrev pub hours_denied_at : ℕ
hours_denied_at = 35

abbrev pub dialin_denied_at : ℕ
dialin_denied_at = 36

abbrev pub expired_at : ℕ
expired_at = 37

abbrev pub failures_at : ℕ
failures_at = 38

unfoldable pub encode_entry : Entry → List ℕ
encode_entry a =
    encode_hash a.nt
    ++ (encode_hash a.lm
    ++ (flag a.disabled ∷ flag a.hours_denied ∷ flag a.dialin_denied ∷ flag
    a.expired ∷ a.failures ∷ []))

unfoldable pub decode_entry : List ℕ → Entry
decode_entry bytes =
    record {
      nt = decode_hash (part nt_at optional_hash_size bytes);
      lm = decode_hash (part lm_at optional_hash_size bytes);
      disabled = is_flag (octet disabled_at bytes);
      hours_denied = is_flag (octet hours_denied_at bytes);
      dialin_denied = is_flag (octet dialin_denied_at bytes);
      expired = is_flag (octet expired_at bytes);
      failures = octet failures_at bytes;
    }

-- ---- what a lookup found: whether there is an entry, and the entry

abbrev pub found_at : ℕ
found_at = 0

abbrev pub entry_at : ℕ
entry_at = 1

unfoldable pub encode_entry_lookup : EntryLookup → List ℕ
encode_entry_lookup l = flag l.found ∷ encode_entry l.entry

unfoldable pub decode_entry_lookup : List ℕ → EntryLookup
decode_entry_lookup bytes =
    record {
      found = is_flag (octet found_at bytes);
      entry = decode_entry (part entry_at entry_size bytes);
    }

-- ---- records

-- where the round keys of each hash begin, in the whole value
abbrev pub nt_keys_at : ℕ
nt_keys_at = record_head_size

abbrev pub lm_keys_at : ℕ
lm_keys_at = record_head_size + keys_size

-- the bytes before them
abbrev pub record_head : EntryLookup → List ℕ
record_head l = tagged record_kind (encode_entry_lookup l)

abbrev pub encode_record : Lookup → List ℕ
encode_record l = record_head (entry_lookup_of l) ++ encode_schedules l.account

-- a record without its round keys
abbrev pub decode_head : List ℕ → EntryLookup
decode_head bytes = decode_entry_lookup (body_in entry_lookup_size bytes)

abbrev pub decode_record : List ℕ → Lookup
decode_record bytes =
    lookup_of (decode_head bytes).found
    (with_schedules (decode_head bytes).entry (keys_at nt_keys_at bytes) (keys_at lm_keys_at bytes))

-- as many bytes as a record has, with that head in front
abbrev pub is_record_of : EntryLookup → List ℕ → Bool
is_record_of l bytes =
    sized record_size bytes && agrees (record_head l) (part 0 record_head_size bytes)

-- Bytes are a record's where those before the round keys are what the entry decoded from them
-- encodes to. The round keys may be any.
unfoldable pub is_encoded_record : List ℕ → Bool
is_encoded_record bytes = is_record_of (decode_head bytes) bytes

-- the bytes of its round keys
abbrev pub record_keys : List ℕ → List ℕ
record_keys bytes = part record_head_size both_keys_size bytes
