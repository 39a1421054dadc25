-- `issued::entries::scan` meets its contract.
-- Assumes nothing.
use Rattle.std.proofs.Common.{◌≡◌, ◌||◌}
use Rattle.std.specs.Slice.Iter.{chunks_exact_rest, chunks_exact_size}
use Rattle.issued.specs.Issued.{entries_in, contains_any}
use Rattle.issued.specs.Inner.{raised}
use Rattle.issued.proofs.Counting.{Uncounted}
use Rattle.issued.proofs.entries.scan.Given as goal

abbrev pub invariant-loop-entry : goal.invariant-loop-entry
invariant-loop-entry l =
    let w = l.sought.width in
    let left = entries_in w (chunks_exact_rest l.entry-iterator) in
    let cs = entries_in w l.sought.run.now in
    (chunks_exact_size l.entry-iterator ≡ w)
    × Uncounted l.counts left (raised l.initial.counts (entries_in w l.list))
    × ((l.met || contains_any cs left) ≡ contains_any cs (entries_in w l.list))
