-- A record whose count is set is valid, and tells that count.
-- Assumes nothing.
use mathlib.Core.Bool.{Bool, true}
use mathlib.Core.List.{List, ◌++◌}
use mathlib.Core.Path.{◌≡◌, ap, ◌∙◌}
use Prim.Native.Nat.{ℕ}
use lib.ListN.{length}
use Rattle.accounts.specs.declared.EntryLookup.{EntryLookup}
use Rattle.layouts.specs.Call.{value_or}
use Rattle.layouts.specs.Records.{record_size, record_head, record_keys, decode_head}
use Rattle.layouts.specs.Records.{is_encoded_record}
use Rattle.layouts.proofs.Filling.{both, valid_call}
use Rattle.layouts.proofs.RecordLaws.{SizedEntry, decoded_head_sized, record_fits, head_back}
use Rattle.layouts.proofs.RecordLaws.{length_encoded_record}
use Rattle.account_records.specs.Calls.{record_failures, set_failures_arguments, failures_set}
use Rattle.account_records.specs.Calls.{SetFailuresCall}
use Rattle.account_records.proofs.Laying.{length_record_keys}

module _ (bytes : List ℕ) (n : ℕ) where
  pub set_sized : SizedEntry (failures_set bytes n).entry
  set_sized = let s = decoded_head_sized bytes in record { nt = s.nt; lm = s.lm }

  pub set_fits : length bytes ≡ record_size
      → (is_encoded_record (record_head (failures_set bytes n) ++ record_keys bytes) ≡ true)
      × (decode_head (record_head (failures_set bytes n) ++ record_keys bytes) ≡ failures_set bytes n)
  set_fits e = (
    record_fits (failures_set bytes n) (record_keys bytes) set_sized (length_record_keys bytes e),
    head_back (failures_set bytes n) (record_keys bytes) set_sized,
  )

  -- the count that was set is the one that the record tells
  pub set_tells : {after : List ℕ} → SetFailuresCall bytes n 0 after → record_failures after ≡ n
  unfolding record_failures set_failures_arguments
  set_tells call =
      let valid = valid_call (set_failures_arguments bytes n) 0 call.number in
      let e = length_encoded_record bytes (both (is_encoded_record bytes) _ valid).0 in
      let after = record_head (failures_set bytes n) ++ record_keys bytes in
      ap record_failures call.bytes
      ∙ ap (λ (t : Bool). value_or t (decode_head after).entry.failures) (set_fits e).0
      ∙ ap (λ (l : EntryLookup). l.entry.failures) (set_fits e).1
