-- `layouts::lists::put_list_head` meets its contract.
-- Assumes nothing.
use mathlib.Core.Path.{ap, ◌∙◌}
use mathlib.Core.List.{List}
use Prim.Native.Nat.{ℕ}
use Rattle.octets.specs.Parts.{over}
use Rattle.layouts.specs.Values.{list_kind, tagged}
use Rattle.layouts.proofs.Encodings.{two}
use Rattle.layouts.proofs.lists.put_list_head.Goals as goal

pub returns : goal.returns
returns c =
    let copied = c in
    let a = copied.args in
    copied.copy.ensures
    ∙ ap (λ (l : List ℕ). over (tagged list_kind l) a.bytes.now) (two a.used)
