-- `accounts::blank_entry` meets its contract.
-- Assumes nothing.
use mathlib.Core.Bool.{false}
use mathlib.Core.Path.{ap₂, ◌∙◌}
use Rattle.accounts.specs.Account.{entry_with}
use Rattle.accounts.specs.declared.Hash.{Hash}
use Rattle.accounts.proofs.blank_entry.Goals as goal

pub returns : goal.returns
returns c =
    c.entry_with.ensures
    ∙ ap₂ (λ (n l : Hash). entry_with n l false false false false)
    c.no_hash.ensures c.no_hash-2.ensures
