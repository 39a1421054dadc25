-- `md4::rounds::choose` meets its contract.
-- Assumes nothing.
use Rattle.md4.proofs.Auxiliary.{choose_right}
use Rattle.md4.proofs.rounds.choose.Goals as goal

pub returns : goal.returns
returns c = choose_right c.args.x c.args.y c.args.z c.ranges.x.fits c.ranges.z.fits
