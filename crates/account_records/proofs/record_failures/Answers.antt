-- `account_records::record_failures` meets its contract.
-- Assumes nothing.
use mathlib.Core.Path.{sym, ap, ◌∙◌}
use mathlib.Core.Bool.{Bool}
use Rattle.accounts.specs.declared.EntryLookup.{EntryLookup}
use Rattle.layouts.specs.Records.{decode_head}
use Rattle.layouts.specs.Call.{value_or}
use Rattle.account_records.specs.Calls.{record_failures}
use Rattle.account_records.proofs.record_failures.Goals as goal

pub returns-then-not-is_encoded_record : goal.returns-then-not-is_encoded_record
unfolding record_failures
returns-then-not-is_encoded_record c = simp (sym c.is_encoded_record.ensures ∙ c.if-not-is_encoded_record.true)

pub returns : goal.returns
unfolding record_failures
returns c =
    let decoded = c in
    let passed = decoded in
    let bytes = passed.args.account.now in
    let valid = sym passed.is_encoded_record.ensures ∙ passed.if-not-is_encoded_record.false
    in
    ap (λ (l : EntryLookup). l.entry.failures) decoded.decode_head.ensures
    ∙ ap (λ (t : Bool). value_or t (decode_head bytes).entry.failures) (sym valid)
