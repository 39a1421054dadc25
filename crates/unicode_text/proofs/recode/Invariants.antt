-- `unicode_text::recode` meets its contract. The loop's invariant: what is put, and what is left
-- converted behind it, is the whole.
-- Assumes nothing.
use Rattle.std.proofs.Common.{◌≤◌, length}
use Rattle.unicode_text.proofs.Converting.{Converting}
use Rattle.unicode_text.proofs.recode.Given as goal

abbrev pub invariant-loop-rest : goal.invariant-loop-rest
invariant-loop-rest g l =
    Converting g.From.Encoding.first g.To.Encoding.code l.s l.rest l.done × (length l.done ≤ g.row.N)

abbrev pub decreases-loop-rest : goal.decreases-loop-rest
decreases-loop-rest g l = length l.rest
