-- `numbers::flags::record_from` meets its contract.
-- Assumes nothing.
use mathlib.Core.Path.{refl, ap, ap₂, ◌∙◌}
use Rattle.accounts.specs.Account.{lookup_of, account_of}
use Rattle.layouts.proofs.RecordLaws.{hash_same, entry_same}
use Rattle.numbers.specs.Flags.{record_from}
use Rattle.numbers.proofs.flags.record_from.Goals as goal

-- each part in turn, the last first
pub returns : goal.returns
unfolding record_from
returns c =
    let found = c in
    let account = found in
    let expired = account in
    let dialin = expired in
    let hours = dialin in
    let disabled = hours in
    let lm = disabled in
    let nt = lm in
    c.lookup_of.ensures
    ∙ ap₂ lookup_of found.is_set-3.ensures
    (account.account_with-account.ensures
    ∙ ap account_of (entry_same
    (nt.hash_if-nt_hash.ensures ∙ hash_same nt.is_set.ensures
    nt.array_at.ensures)
    (lm.hash_if-lm_hash.ensures ∙ hash_same lm.is_set-2.ensures
    lm.array_at-2.ensures)
    disabled.is_set-disabled.ensures hours.is_set-hours.ensures dialin.is_set-dialin.ensures
    expired.is_set-expired.ensures refl))
