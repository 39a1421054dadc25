-- `rc4::identify` meets its contract. The loop's invariant: the first i entries are 0, 1, .. i - 1.
-- Assumes nothing.
use Rattle.std.proofs.Common.{◌≡◌, length, take}
use Rattle.rc4.specs.Rc4.{upto}
use Rattle.rc4.proofs.identify.Given as goal

abbrev pub invariant-loop-i : goal.invariant-loop-i
invariant-loop-i l = (length l.s ≡ 256) × (take l.i l.s ≡ upto l.i)
