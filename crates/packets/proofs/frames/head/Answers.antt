-- `packets::frames::head` meets its contract.
-- Assumes nothing.
use mathlib.Core.Path.{ap}
use mathlib.Core.List.{List, [], ◌∷◌}
use Prim.Native.Nat.{ℕ}
use lib.ListN.{get_or}
use Rattle.packets.proofs.frames.head.Goals as goal

pub returns : goal.returns
returns c = ap (λ (l : List ℕ). c.args.code ∷ c.args.id ∷ get_or l 0 0 ∷ get_or l 1 0 ∷ []) c.u16_to_be-n.ensures
