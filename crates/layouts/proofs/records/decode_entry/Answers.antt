-- `layouts::records::decode_entry` meets its contract.
-- Assumes nothing.
use mathlib.Core.Path.{ap, ◌∙◌}
use Rattle.accounts.specs.Account.{entry_failures}
use Rattle.layouts.specs.Records.{is_flag, decode_hash, decode_entry}
use Rattle.layouts.proofs.RecordLaws.{entry_same}
use Rattle.layouts.proofs.records.decode_entry.Goals as goal

-- each field in turn, the last first
pub returns : goal.returns
unfolding decode_entry
returns c =
    let entry = c in
    let failures = entry in
    let expired = failures in
    let dialin = expired in
    let hours = dialin in
    let disabled = hours in
    let lm = disabled in
    let nt = lm in
    c.entry_failures.ensures
    ∙ ap (entry_failures failures.octet-failures.result) entry.entry_with-entry.ensures
    ∙ entry_same (nt.decode_hash-nt.ensures ∙ ap decode_hash nt.part_of.ensures)
    (lm.decode_hash-lm.ensures ∙ ap decode_hash lm.part_of-2.ensures)
    (disabled.is_flag-disabled.ensures ∙ ap is_flag disabled.octet.ensures)
    (hours.is_flag-hours.ensures ∙ ap is_flag hours.octet-2.ensures)
    (dialin.is_flag-dialin.ensures ∙ ap is_flag dialin.octet-3.ensures)
    (expired.is_flag-expired.ensures ∙ ap is_flag expired.octet-4.ensures)
    failures.octet-failures.ensures
