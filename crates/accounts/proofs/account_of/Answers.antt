-- `accounts::account_of` meets its contract.
-- Assumes nothing.
use mathlib.Core.Path.{ap₂, ◌∙◌}
use Rattle.accounts.specs.Account.{with_schedules}
use Rattle.accounts.specs.declared.Schedules.{Schedules}
use Rattle.accounts.proofs.account_of.Goals as goal

pub returns : goal.returns
returns c =
    let lm = c in
    let nt = lm in
    let e = nt.args.entry in
    c.with_schedules.ensures
    ∙ ap₂ (λ (x y : Schedules). with_schedules e x y) nt.schedules_for.ensures
    lm.schedules_for-2.ensures
