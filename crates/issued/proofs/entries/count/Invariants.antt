-- `issued::entries::count` meets its contract.
-- Assumes nothing.
use Rattle.std.proofs.Common.{◌≡◌}
use Rattle.std.specs.Slice.Iter.{chunks_exact_rest, chunks_exact_size}
use Rattle.issued.specs.Issued.{entries_in}
use Rattle.issued.specs.Inner.{raised}
use Rattle.issued.proofs.Counting.{Uncounted}
use Rattle.issued.proofs.entries.count.Given as goal

abbrev pub invariant-loop-entry : goal.invariant-loop-entry
invariant-loop-entry l =
    (chunks_exact_size l.entry-iterator ≡ l.width)
    × Uncounted l.counts (entries_in l.width (chunks_exact_rest l.entry-iterator))
    (raised l.initial.counts (entries_in l.width l.run))
