-- A record is decoded from its head and the bytes of its round keys: a record that is made is
-- decoded to itself.
-- Assumes nothing.
use mathlib.Core.Bool.{Bool}
use mathlib.Core.List.{List, ◌++◌}
use mathlib.Core.Path.{◌≡◌, ap, ap₂, ◌∙◌}
use Prim.Native.Nat.{ℕ, ◌*◌}
use native.Mathlib.Omega.{arith}
use lib.ListN.{take}
use lib.Seq.{take_all, take_at, drop_at}
use Rattle.credentials.specs.Credentials.{encode_keys}
use Rattle.credentials.proofs.KeyOctets.{length_encoded}
use Rattle.accounts.specs.Account.{stored_in, schedules_for, with_schedules, account_of, lookup_of}
use Rattle.accounts.specs.declared.Entry.{Entry}
use Rattle.accounts.specs.declared.EntryLookup.{EntryLookup}
use Rattle.accounts.specs.declared.Schedules.{Schedules}
use Rattle.layouts.specs.Keys.{keys_size, keys_at, encode_schedules}
use Rattle.layouts.specs.Records.{record_head_size, nt_keys_at, lm_keys_at, record_head}
use Rattle.layouts.specs.Records.{encode_record}
use Rattle.layouts.specs.Records.{decode_record}
use Rattle.layouts.proofs.RecordLaws.{SizedEntry, length_head, head_back}
use Rattle.account_records.proofs.KeyBounds.{for_length, keys_found}
use Rattle.account_records.proofs.Laying.{part_behind}

-- decoded from its head and the bytes of its round keys
pub record_by : (u : EntryLookup) (keys : List ℕ) → SizedEntry u.entry
    → decode_record (record_head u ++ keys)
    ≡ lookup_of u.found (with_schedules u.entry (keys_at 0 keys) (keys_at keys_size keys))
record_by u keys s =
    let head = length_head u s in
    let bytes = record_head u ++ keys in
    ap (λ (x : EntryLookup). lookup_of x.found (with_schedules x.entry (keys_at nt_keys_at bytes)
    (keys_at lm_keys_at bytes))) (head_back u keys s)
    ∙ ap₂ (λ (n m : List ℕ). lookup_of u.found (with_schedules u.entry (stored_in n)
    (stored_in m)))
    (part_behind 0 keys_size record_head_size (record_head u) keys head)
    (part_behind keys_size keys_size record_head_size (record_head u) keys head)

-- those of its own hashes
pub keys_made : (found : Bool) (e : Entry)
    → let k = encode_schedules (account_of e) in
    lookup_of found (with_schedules e (keys_at 0 k) (keys_at keys_size k)) ≡ lookup_of found (account_of e)
keys_made found e =
    let nt = encode_keys (schedules_for e.nt).keys in
    let lm = encode_keys (schedules_for e.lm).keys in
    let n = length_encoded (schedules_for e.nt).keys
    ∙ ap (λ (k : ℕ). 8 * k) (for_length e.nt) in
    let m = length_encoded (schedules_for e.lm).keys
    ∙ ap (λ (k : ℕ). 8 * k) (for_length e.lm) in
    ap₂ (λ (x y : Schedules). lookup_of found (with_schedules e x y))
    (keys_found 0 (nt ++ lm) e.nt (take_at nt lm keys_size n))
    (keys_found keys_size (nt ++ lm) e.lm
    (ap (take keys_size) (drop_at nt lm keys_size n) ∙ take_all keys_size lm (omega (arith, m))))

-- So the bytes of a record that is made of an entry are decoded to just that record: its round keys
-- are those of its hashes (`Agree` holds of it).
pub made_back : (found : Bool) (e : Entry) → SizedEntry e
    → decode_record (encode_record (lookup_of found (account_of e))) ≡ lookup_of found (account_of e)
made_back found e s =
    record_by (record { found = found; entry = e }) (encode_schedules (account_of e)) s
    ∙ keys_made found e
