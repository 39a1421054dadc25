-- `md4::rounds::apply_round` meets its contract. The loop's invariant: the operations that are left,
-- from the registers as they are, give what is asked.
-- Assumes nothing.
use mathlib.Core.Path.{◌≡◌}
use lib.ListN.{drop}
use Rattle.md4.specs.Md4.{operations}
use Rattle.md4.proofs.rounds.apply_round.Given as goal

abbrev pub invariant-loop-k : goal.invariant-loop-k
invariant-loop-k g l =
    operations g.R.Round.aux g.R.Round.ADDED l.x (drop l.k-index l.k-items) l.r
    ≡ operations g.R.Round.aux g.R.Round.ADDED l.x l.k-items l.fn.s
