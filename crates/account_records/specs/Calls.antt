-- A record from C: made of flags and hashes, read, its count read and set, and its response.
-- Assumes nothing: these are definitions.
use Rattle.std.specs.Prelude.{Bool, cond, ◌&&◌, ◌||◌, List, ◌++◌, ◌≡◌, ℕ, eqb, ltb}
use Rattle.credentials.specs.Credentials.{response_under}
use Rattle.packets.specs.Sizes.{hash_size, challenge_size, answer_size}
use Rattle.accounts.specs.Account.{entry_failures}
use Rattle.accounts.specs.declared.EntryLookup.{EntryLookup}
use Rattle.accounts.specs.declared.Hash.{Hash}
use Rattle.layouts.specs.Call.{Fills, sized, numbered, value_or, after_call}
use Rattle.layouts.specs.Keys.{keys_at}
use Rattle.layouts.specs.Records.{record_size, nt_keys_at, lm_keys_at, record_head, record_keys}
use Rattle.layouts.specs.Records.{encode_record, decode_head, is_encoded_record}
use Rattle.numbers.specs.Flags.{nt_flag, lm_flag, record_arguments, record_from, flags_of}

-- what making a record returns (r) and leaves
abbrev pub MakeRecordCall : ℕ → List ℕ → List ℕ → List ℕ → ℕ → List ℕ → Type 0
MakeRecordCall flags nt lm out r out_after =
    Fills (record_arguments flags nt lm && sized record_size out) 0
    (encode_record (record_from flags nt lm)) out r out_after

-- ---- read

unfoldable pub read_record_arguments : List ℕ → List ℕ → List ℕ → Bool
read_record_arguments bytes nt lm =
    is_encoded_record bytes && (sized hash_size nt && sized hash_size lm)

-- what reading a record returns (r) and leaves
pub record ReadRecordCall (bytes : List ℕ) (flags : ℕ) (nt lm : List ℕ) (r flags_after : ℕ)
    (nt_after lm_after : List ℕ) : Type 0 where
  pub number : r ≡ numbered (read_record_arguments bytes nt lm) 0
  pub says : flags_after ≡ after_call r (flags_of (decode_head bytes)) flags
  pub nt_hash : nt_after ≡ after_call r (decode_head bytes).entry.nt.octets nt
  pub lm_hash : lm_after ≡ after_call r (decode_head bytes).entry.lm.octets lm

-- ---- its count of invalid Responses in a row (document 02, request 2026-09)

unfoldable pub record_failures : List ℕ → ℕ
record_failures bytes = value_or (is_encoded_record bytes) (decode_head bytes).entry.failures

-- counts are below this
abbrev pub failures_end : ℕ
failures_end = 256

unfoldable pub set_failures_arguments : List ℕ → ℕ → Bool
set_failures_arguments bytes n = is_encoded_record bytes && ltb n failures_end

-- the record that is encoded, with another count; one of no account stays one
abbrev pub failures_set : List ℕ → ℕ → EntryLookup
failures_set bytes n =
    record {
      found = (decode_head bytes).found;
      entry = entry_failures n (decode_head bytes).entry;
    }

-- what setting it returns (r) and leaves in the record: the round keys are those that were there
abbrev pub SetFailuresCall : List ℕ → ℕ → ℕ → List ℕ → Type 0
SetFailuresCall bytes n r bytes_after =
    Fills (set_failures_arguments bytes n) 0
    (record_head (failures_set bytes n) ++ record_keys bytes)
    bytes r bytes_after

-- ---- the response of its round keys (document 02, request 2026-10)

-- of which hash, by its flag
abbrev pub is_one_hash : ℕ → Bool
is_one_hash hash = eqb hash nt_flag || eqb hash lm_flag

unfoldable pub record_response_arguments : List ℕ → ℕ → List ℕ → Bool
record_response_arguments bytes hash challenge =
    is_encoded_record bytes && (is_one_hash hash && sized challenge_size challenge)

abbrev pub named_hash : EntryLookup → ℕ → Hash
named_hash l hash = cond (eqb hash nt_flag) l.entry.nt l.entry.lm

-- where its round keys begin
abbrev pub named_at : ℕ → ℕ
named_at hash = cond (eqb hash nt_flag) nt_keys_at lm_keys_at

-- 102: there is no such hash
abbrev pub RecordResponseCall : List ℕ → ℕ → List ℕ → List ℕ → ℕ → List ℕ → Type 0
RecordResponseCall bytes hash challenge out r out_after =
    Fills (record_response_arguments bytes hash challenge && sized answer_size out)
    (cond (named_hash (decode_head bytes) hash).present 0 102)
    (response_under (keys_at (named_at hash) bytes).keys challenge) out r out_after
