-- `accounts::account_with` meets its contract.
-- Assumes nothing.
use mathlib.Core.Path.{ap, ◌∙◌}
use Rattle.accounts.specs.Account.{account_of}
use Rattle.accounts.proofs.account_with.Goals as goal

pub returns : goal.returns
returns c = c.account_of.ensures ∙ ap account_of c.entry_with.ensures
