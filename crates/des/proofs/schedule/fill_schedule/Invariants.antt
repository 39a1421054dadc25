-- `des::schedule::fill_schedule` meets its contract.
-- Assumes nothing.
use mathlib.Core.Path.{◌≡◌}
use mathlib.Core.List.{map}
use lib.ListN.{length, take}
use Rattle.des.specs.Inner.{keys_of}
use Rattle.des.specs.Stored.{pack_key}
use Rattle.des.proofs.schedule.fill_schedule.Given as goal

abbrev pub invariant-loop-i : goal.invariant-loop-i
invariant-loop-i l = (length l.schedule ≡ 16) × (take l.i l.schedule ≡ take l.i (map pack_key (keys_of l.keys.c l.keys.d)))
