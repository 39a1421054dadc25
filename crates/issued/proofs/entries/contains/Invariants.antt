-- `issued::entries::contains` meets its contract. The loop's invariant: so many entries are left,
-- and the entry stands among them as it does in all of run.
-- Assumes nothing.
use Rattle.std.proofs.Common.{◌≡◌, length}
use Rattle.issued.specs.Issued.{entries_in, places, contains}
use Rattle.issued.proofs.entries.contains.Given as goal

abbrev pub invariant-loop-left : goal.invariant-loop-left
invariant-loop-left l =
    (l.left ≡ places (length l.entry) l.rest)
    × (contains (entries_in (length l.entry) l.rest) l.entry ≡ contains (entries_in (length l.entry) l.run) l.entry)

abbrev pub decreases-loop-left : goal.decreases-loop-left
decreases-loop-left l = l.left
