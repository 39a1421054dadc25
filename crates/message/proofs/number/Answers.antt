-- `message::number` meets its contract.
-- Assumes nothing.
use mathlib.Core.Path.{refl}
use native.Mathlib.Omega.{arith}
use Rattle.message.proofs.Loops.{none_counted, number_fits, one_counted, all_counted}
use Rattle.message.proofs.number.Goals as goal

pub loop-digit-init : goal.loop-digit-init
loop-digit-init c = none_counted _ _ c.requires.1

pub overflow_mul-value : goal.overflow_mul-value
overflow_mul-value c =
    let p = c.requires in
    record { fits = omega (arith, number_fits c.loop-digit.invariant refl c.loop-digit-test.true p.0 p.1) }

pub overflow_add-value : goal.overflow_add-value
overflow_add-value c =
    let p = c.requires in
    record { fits = number_fits c.loop-digit.invariant c.digit_value.ensures c.loop-digit-test.true p.0 p.1 }

pub loop-digit-preserved : goal.loop-digit-preserved
loop-digit-preserved c = one_counted c.loop-digit.invariant c.digit_value.ensures c.loop-digit-test.true

pub returns : goal.returns
returns c = all_counted c.loop-digit.invariant c.loop-digit-test.false
