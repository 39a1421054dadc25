-- `octets::hex::encode_hex` meets its contract. The loop's invariant: what is written, and the rest
-- of the text laid over the rest of out, is what is asked.
-- Assumes nothing.
use mathlib.Core.Path.{◌≡◌}
use mathlib.Core.List.{◌++◌}
use Prim.Native.Nat.{◌*◌, min}
use lib.ListN.{length, take, drop}
use Rattle.octets.specs.Digits.{hex_text}
use Rattle.octets.specs.Parts.{over}
use Rattle.octets.proofs.hex.encode_hex.Given as goal

abbrev pub invariant-loop-k : goal.invariant-loop-k
invariant-loop-k l =
    (l.k-end ≡ min (length l.initial.out) (2 * length l.s)) × (length l.out ≡ length l.initial.out)
    × (take l.k l.out ++ over (drop l.k (hex_text l.s)) (drop l.k l.out) ≡ over (hex_text l.s) l.initial.out)
