-- `verify::changes_one::new_in` meets its contract.
-- Assumes nothing.
use mathlib.Core.Path.{ap, ◌∙◌}
use Rattle.accounts.specs.Account.{hash_of}
use Rattle.verify.proofs.changes_one.new_in.Goals as goal

pub returns : goal.returns
returns c = c.hash_of.ensures ∙ ap hash_of c.hash_from_challenge.ensures
