-- `octets::hex::decode_hex` meets its contract. The loop's invariant: what is written, and the rest
-- of the octets laid over the rest of out, is what is asked.
-- Assumes nothing.
use mathlib.Core.Path.{◌≡◌}
use mathlib.Core.List.{List, ◌++◌, map}
use Prim.Native.Nat.{ℕ, ◌/◌, min}
use lib.ListN.{length, take, drop}
use Rattle.octets.specs.Digits.{digit_of, pairs}
use Rattle.octets.specs.Parts.{over}
use Rattle.octets.proofs.hex.decode_hex.Given as goal

-- the octets, and how many there are
abbrev pub octets_of : List ℕ → List ℕ
octets_of s = pairs (map digit_of s)

abbrev pub invariant-loop-i : goal.invariant-loop-i
invariant-loop-i l =
    (l.i-end ≡ min (length l.initial.out) (length l.s / 2)) × (length l.out ≡ length l.initial.out)
    × (take l.i l.out ++ over (drop l.i (octets_of l.s)) (drop l.i l.out) ≡ over (octets_of l.s) l.initial.out)
