-- `verify::changes_one::check_nt` meets its contract.
-- Assumes nothing.
use Rattle.std.specs.Prelude.{Option}
use mathlib.Core.Bool.{false, cond, not}
use mathlib.Core.Path.{ap, ap₂, ◌∙◌}
use Rattle.accounts.specs.Account.{no_hash}
use Rattle.verify.specs.Change.{checked_with}
use Rattle.verify.specs.ChangeOne.{new_in}
use Rattle.verify.specs.Faults.{first_fault_one}
use Rattle.verify.specs.declared.ChangeFault.{ChangeFault}
use Rattle.verify.proofs.changes_one.check_nt.Goals as goal

pub returns : goal.returns
returns c =
    let a = c.args in
    let fault : Option ChangeFault = c.first_fault.result in
    c.checked_with.ensures
    ∙ ap₂ (checked_with fault) c.new_in-nt.ensures
    (c.none_if-lm.ensures ∙ ap (cond a.over no_hash) c.new_in.ensures)
    ∙ ap (λ (x : Option ChangeFault). checked_with x (new_in a.challenge a.fields.ntnew)
    (cond a.over no_hash (new_in a.challenge a.fields.lmnew)))
    (c.first_fault.ensures
    ∙ ap (first_fault_one false false (not a.kept.nt.present)) c.is_bad_old-wrong.ensures)
