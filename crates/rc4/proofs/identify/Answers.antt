-- `rc4::identify` meets its contract.
-- Assumes nothing.
use Rattle.std.proofs.Common.{◌≡◌, ◌≤◌, length, refl, le_antisymm, arith, take_all, rules}
use Rattle.rc4.specs.Rc4.{upto}
use Rattle.rc4.proofs.Turns.{upto_turn}
use Rattle.rc4.proofs.identify.Goals as goal

pub loop-i-init : goal.loop-i-init
unfolding upto
loop-i-init c = (search rules, refl)

pub loop-i-preserved : goal.loop-i-preserved
loop-i-preserved c = (search rules, upto_turn _ _ (search rules) c.loop-i.invariant.1)

pub returns : goal.returns
returns c =
    let l : length c.loop-i.s ≤ 256 = omega arith in
    rw (le_antisymm c.loop-i.auto.i-end c.loop-i-test.false, take_all 256 c.loop-i.s) at c.loop-i.invariant.1
