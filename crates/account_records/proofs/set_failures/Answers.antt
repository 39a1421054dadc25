-- `account_records::set_failures` meets its contract.
-- Assumes nothing.
use mathlib.Core.Path.{◌≡◌, sym, ap, ◌∙◌}
use mathlib.Core.Bool.{Bool, true}
use mathlib.Core.List.{List}
use Prim.Native.Nat.{ℕ, ◌<◌}
use native.Mathlib.Omega.{arith}
use borrow.Author.Tests.{ltb-true}
use lib.Dec.{ltb}
use Rattle.octets.specs.Parts.{over}
use Rattle.accounts.specs.Account.{entry_failures}
use Rattle.accounts.specs.declared.Entry.{Entry}
use Rattle.accounts.specs.declared.EntryLookup.{EntryLookup}
use Rattle.layouts.specs.Call.{numbered}
use Rattle.layouts.specs.Records.{record_head, is_encoded_record}
use Rattle.layouts.proofs.Filling.{both, refused_argument}
use Rattle.layouts.proofs.RecordLaws.{length_encoded_record}
use Rattle.account_records.specs.Calls.{set_failures_arguments, failures_set}
use Rattle.account_records.proofs.Laying.{head_over}
use Rattle.account_records.proofs.Fitting.{set_sized}
use Rattle.account_records.proofs.set_failures.Goals as goal

parts : (bytes : List ℕ) (n : ℕ) → set_failures_arguments bytes n ≡ true
    → (is_encoded_record bytes ≡ true) × (n < 256)
unfolding set_failures_arguments
parts bytes n e =
    let h = both (is_encoded_record bytes) (ltb n 256) e in (h.0, ltb-true n 256 h.1)

pub returns-then-not-are_set_failures_arguments : goal.returns-then-not-are_set_failures_arguments
returns-then-not-are_set_failures_arguments c =
    refused_argument
    (sym c.are_set_failures_arguments.ensures ∙ c.if-not-are_set_failures_arguments.true)

pub overflow_cast-failures : goal.overflow_cast-failures
overflow_cast-failures c =
    let a = c.args in
    let valid : set_failures_arguments a.account.now a.failures ≡ true =
    sym c.are_set_failures_arguments.ensures ∙ c.if-not-are_set_failures_arguments.false in
    omega (arith, (parts a.account.now a.failures valid).1)

pub returns : goal.returns
returns c =
    let a = c.args in
    let valid : set_failures_arguments a.account.now a.failures ≡ true =
    sym c.are_set_failures_arguments.ensures ∙ c.if-not-are_set_failures_arguments.false in
    let bytes = a.account.now in
    let long = length_encoded_record bytes (parts bytes a.failures valid).0 in
    let head : EntryLookup → EntryLookup =
    λ l. record { found = l.found; entry = entry_failures a.failures l.entry } in
    let value =
    ap (λ (e : Entry). let l : EntryLookup = record {
      found = c.decode_head-lookup.result.found;
      entry = e;
    } in l) c.entry_failures-entry.ensures
    ∙ ap head c.decode_head-lookup.ensures in
    record {
      number = sym (ap (λ (t : Bool). numbered t 0) valid);
      bytes = c.put_record_head.ensures
          ∙ ap (λ (l : EntryLookup). over (record_head l) bytes) value
          ∙ head_over (failures_set bytes a.failures) bytes (set_sized bytes a.failures) long;
    }
