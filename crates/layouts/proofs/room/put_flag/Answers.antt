-- `layouts::room::put_flag` meets its contract.
-- Assumes nothing.
use mathlib.Core.Path.{ap, ◌∙◌}
use mathlib.Core.List.{[], ◌∷◌}
use Prim.Native.Nat.{ℕ}
use Rattle.octets.specs.Parts.{over_at}
use Rattle.layouts.proofs.room.put_flag.Goals as goal

pub returns : goal.returns
returns c =
    let a = c.args in
    c.put_byte.ensures
    ∙ ap (λ (x : ℕ). over_at a.at (x ∷ []) a.room.bytes) c.flag.ensures
