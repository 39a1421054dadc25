-- `des::drop_parity` meets its contract.
-- Assumes nothing.
use mathlib.Core.Path.{◌≡◌}
use mathlib.Core.List.{map}
use Prim.Native.Nat.{◌*◌, ◌^◌, ◌<◌}
use lib.ListN.{take}
use Rattle.octets.specs.Numbers.{from_digits}
use Rattle.des.specs.Des.{half}
use Rattle.des.proofs.drop_parity.Given as goal

abbrev pub invariant-loop-octet : goal.invariant-loop-octet
invariant-loop-octet l =
    (l.bits < 2 ^ (7 * l.octet-index)) × (l.bits ≡ from_digits 7 (map half (take l.octet-index l.fn.key)))
