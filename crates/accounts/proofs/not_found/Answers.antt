-- `accounts::not_found` meets its contract.
-- Assumes nothing.
use mathlib.Core.Bool.{false}
use mathlib.Core.Path.{ap, ◌∙◌}
use Rattle.accounts.specs.Account.{lookup_of}
use Rattle.accounts.proofs.not_found.Goals as goal

pub returns : goal.returns
returns c = c.lookup_of.ensures ∙ ap (lookup_of false) c.blank_account.ensures
