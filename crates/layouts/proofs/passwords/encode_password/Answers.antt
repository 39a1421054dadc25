-- `layouts::passwords::encode_password` meets its contract.
-- Assumes nothing.
use mathlib.Core.Path.{ap, ◌∙◌}
use mathlib.Core.List.{List}
use Prim.Native.Nat.{ℕ}
use lib.ListN.{length, replicate}
use Rattle.octets.specs.Parts.{over, over_at}
use Rattle.layouts.specs.Values.{password_kind, tagged}
use Rattle.layouts.proofs.Encodings.{two}
use Rattle.layouts.proofs.passwords.encode_password.Goals as goal

pub returns : goal.returns
unfolding over
returns c =
    let second = c in
    let first = second in
    let p = first.args.password.now in
    second.copy_at.ensures
    ∙ ap (over_at 4 p)
    (first.copy.ensures
    ∙ ap (λ (l : List ℕ). over (tagged password_kind l) (replicate 516 0)) (two (length p)))
