-- `octets::copy_if_both` meets its contract. The loop's invariant: once the octets from i on are
-- done too, target is what is asked; where a condition does not hold, it is so all along.
-- Assumes nothing.
use mathlib.Core.Path.{◌≡◌}
use mathlib.Core.Bool.{Bool, cond, ◌&&◌}
use mathlib.Core.List.{List, ◌++◌}
use Prim.Native.Nat.{ℕ, min}
use lib.ListN.{length, take, drop}
use Rattle.octets.specs.Parts.{over}
use Rattle.octets.proofs.copy_if_both.Given as goal

abbrev pub finished : Bool → List ℕ → ℕ → List ℕ → List ℕ
finished t xs i l = cond t (take i l ++ over (drop i xs) (drop i l)) l

abbrev pub invariant-loop-i : goal.invariant-loop-i
invariant-loop-i l =
    (l.n ≡ min (length l.initial.target) (length l.source)) × (length l.target ≡ length l.initial.target)
    × (finished (l.a && l.b) l.source l.i l.target ≡ cond (l.a && l.b) (over l.source l.initial.target) l.initial.target)
