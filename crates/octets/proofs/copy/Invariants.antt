-- `octets::copy` meets its contract. The loop's invariant: what is copied, and the rest of source
-- laid over the rest of target, is what is asked.
-- Assumes nothing.
use mathlib.Core.Path.{◌≡◌}
use mathlib.Core.List.{◌++◌}
use Prim.Native.Nat.{min}
use lib.ListN.{length, take, drop}
use Rattle.octets.specs.Parts.{over}
use Rattle.octets.proofs.copy.Given as goal

abbrev pub invariant-loop-i : goal.invariant-loop-i
invariant-loop-i l =
    (l.n ≡ min (length l.initial.target) (length l.source)) × (length l.target ≡ length l.initial.target)
    × (take l.i l.target ++ over (drop l.i l.source) (drop l.i l.target) ≡ over l.source l.initial.target)
