-- `verify::changes_one::first_fault` meets its contract.
-- Assumes nothing.
use Rattle.verify.specs.Faults.{first_fault_one}
use Rattle.verify.specs.declared.ChangeFault.TheVariants.{LmNotAllowed, LengthOverLm}
use Rattle.verify.specs.declared.ChangeFault.TheVariants.{HashAbsent, HashWrong}
use Rattle.verify.proofs.Choices.{first_of_four}
use Rattle.verify.proofs.changes_one.first_fault.Goals as goal

pub returns : goal.returns
unfolding first_fault_one
returns c =
    let a = c.args in
    let e =
    first_of_four a.lm a.over a.absent a.wrong LmNotAllowed LengthOverLm HashAbsent HashWrong in
    cc
