-- `challenges::challenges_from` meets its contract. The loop's invariant: what lies in run, with
-- what follows from next, is all.
-- Assumes nothing.
use Rattle.std.proofs.Common.{◌≡◌, ◌-◌, ◌++◌, length, take}
use Rattle.challenges.specs.Challenges.{challenges_from}
use Rattle.challenges.proofs.challenges_from.Given as goal

abbrev pub invariant-loop-place : goal.invariant-loop-place
invariant-loop-place l =
    (length l.place-items ≡ 8)
    × (take l.place-index l.place-items ++ challenges_from (8 - l.place-index) l.next
    ≡ challenges_from 8 l.initial.next)
