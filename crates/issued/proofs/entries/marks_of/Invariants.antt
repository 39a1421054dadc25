-- `issued::entries::marks_of` meets its contract.
-- Assumes nothing.
use Rattle.std.proofs.Common.{◌≡◌}
use Rattle.std.specs.Slice.Iter.{chunks_exact_rest, chunks_exact_size}
use Rattle.issued.specs.Issued.{entries_in}
use Rattle.issued.proofs.Marking.{Unmarked}
use Rattle.issued.proofs.entries.marks_of.Given as goal

abbrev pub invariant-loop-entry : goal.invariant-loop-entry
invariant-loop-entry l =
    (chunks_exact_size l.entry-iterator ≡ l.width)
    × Unmarked l.marks (entries_in l.width (chunks_exact_rest l.entry-iterator)) (entries_in l.width l.run)
