-- `unicode_text::is_well_formed` meets its contract. The loop's invariant: what is left is
-- well-formed exactly where all is.
-- Assumes nothing.
use Rattle.std.proofs.Common.{◌≡◌, length}
use Rattle.unicode_text.specs.Scalars.{well_formed}
use Rattle.unicode_text.proofs.is_well_formed.Given as goal

abbrev pub invariant-loop-rest : goal.invariant-loop-rest
invariant-loop-rest g l =
    well_formed g.E.Encoding.first l.rest ≡ well_formed g.E.Encoding.first l.s

abbrev pub decreases-loop-rest : goal.decreases-loop-rest
decreases-loop-rest g l = length l.rest
