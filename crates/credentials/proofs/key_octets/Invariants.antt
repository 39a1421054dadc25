-- `credentials::key_octets` meets its contract.
-- Assumes nothing.
use mathlib.Core.Path.{◌≡◌}
use Prim.Native.Nat.{◌^◌}
use lib.ListN.{length, take}
use Rattle.octets.specs.Parts.{over_at}
use Rattle.octets.proofs.Numbers.{Below}
use Rattle.credentials.specs.Credentials.{encode_keys}
use Rattle.credentials.proofs.key_octets.Given as goal

abbrev pub invariant-loop-i : goal.invariant-loop-i
invariant-loop-i l =
    (length l.initial.octets ≡ 384) × (length l.octets ≡ 384)
    × (l.octets ≡ over_at 0 (encode_keys (take l.i l.keys)) l.initial.octets) × Below (2 ^ 64) (take l.i l.keys)
