-- `verify::changes_one::check_lm` meets its contract.
-- Assumes nothing.
use Rattle.std.specs.Prelude.{Option}
use mathlib.Core.Bool.{not}
use mathlib.Core.Path.{ap, ap₂, ◌∙◌}
use Rattle.accounts.specs.Account.{no_hash}
use Rattle.verify.specs.Change.{checked_with}
use Rattle.verify.specs.ChangeOne.{new_in}
use Rattle.verify.specs.Faults.{first_fault_one}
use Rattle.verify.specs.declared.ChangeFault.{ChangeFault}
use Rattle.verify.proofs.changes_one.check_lm.Goals as goal

pub returns : goal.returns
returns c =
    let a = c.args in
    let fault : Option ChangeFault = c.first_fault-fault.result in
    c.checked_with.ensures
    ∙ ap₂ (checked_with fault) c.no_hash.ensures c.new_in-lm.ensures
    ∙ ap (λ (x : Option ChangeFault). checked_with x no_hash (new_in a.challenge a.fields.lmnew))
    (c.first_fault-fault.ensures
    ∙ ap (first_fault_one (not a.terms.lm) a.over (not a.kept.lm.present))
    c.is_bad_old-wrong.ensures)
