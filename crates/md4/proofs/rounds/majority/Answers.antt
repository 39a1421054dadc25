-- `md4::rounds::majority` meets its contract.
-- Assumes nothing.
use Rattle.md4.proofs.Auxiliary.{majority_right}
use Rattle.md4.proofs.rounds.majority.Goals as goal

pub returns : goal.returns
returns c = majority_right _ _ _ c.ranges.x.fits c.ranges.y.fits c.ranges.z.fits
