-- `verify::responses::check_response` meets its contract.
-- Assumes nothing.
use mathlib.Core.Bool.{Bool, not, ◌&&◌}
use mathlib.Core.Path.{ap, ap₂, ◌∙◌}
use Prim.Native.Nat.{ℕ}
use Rattle.accounts.specs.Account.{entry_failures}
use Rattle.accounts.specs.declared.Entry.{Entry}
use Rattle.verify.specs.Lockout.{failures_after}
use Rattle.verify.specs.Response.{first_reason, response_reason}
use Rattle.verify.specs.declared.CheckedResponse.{CheckedResponse}
use Rattle.verify.proofs.responses.check_response.Goals as goal

abbrev checked : Bool → ℕ → Entry → CheckedResponse
checked found reason entry =
    record { reason = reason; updated = record { found = found; entry = entry } }

pub returns : goal.returns
unfolding response_reason
returns c =
    let a = c.args in
    let entry = a.lookup.entry in
    let found = a.lookup.found in
    let reason = c.first_reason-reason.ensures
    ∙ ap₂ (λ (t u : Bool). first_reason (found && (not t && u)) entry) c.is_locked-locked.ensures
    c.is_valid-valid.ensures in
    let failures = c.failures_after-failures.ensures
    ∙ ap₂ (λ (t u : Bool). failures_after t u entry.failures) c.is_locked-locked.ensures
    c.is_valid-valid.ensures in
    let after = c.entry_failures-after.ensures ∙ ap (λ (k : ℕ). entry_failures k entry) failures in
    ap₂ (checked found) reason after
