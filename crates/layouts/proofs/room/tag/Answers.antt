-- `layouts::room::tag` meets its contract.
-- Assumes nothing.
use mathlib.Core.Path.{◌≡◌, sym, ap₂, ◌∙◌}
use mathlib.Core.List.{List, ◌∷◌}
use Prim.Native.Nat.{ℕ}
use lib.ListN.{length, replicate}
use Rattle.octets.proofs.Laid.{filled}
use borrow.Author.Rules.{rules}
use Rattle.layouts.proofs.room.tag.Goals as goal

-- the room is as long as what is behind kind and version
pub returns : goal.returns
returns c =
    let sized : length c.args.room.bytes ≡ 59 =
    search rules in
    let kind = c.args.kind in
    let number = c.layout_version-version.result in
    c.copy_at.ensures
    ∙ ap₂ (λ (n : ℕ) (l : List ℕ). kind ∷ n ∷ l) c.layout_version-version.ensures
    (filled c.args.room.bytes (replicate 59 number) (sym sized))
