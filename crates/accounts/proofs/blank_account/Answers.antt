-- `accounts::blank_account` meets its contract.
-- Assumes nothing.
use mathlib.Core.Path.{ap, ◌∙◌}
use Rattle.accounts.specs.Account.{account_of}
use Rattle.accounts.proofs.blank_account.Goals as goal

pub returns : goal.returns
returns c = c.account_of.ensures ∙ ap account_of c.blank_entry.ensures
