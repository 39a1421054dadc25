-- `credentials::joined` meets its contract.
-- Assumes nothing.
use mathlib.Core.Path.{ap, ◌∙◌}
use mathlib.Core.List.{List, ◌++◌, append-nil}
use native.Mathlib.Omega.{arith}
use Rattle.octets.proofs.Parts.{fixed_whole}
use Rattle.credentials.proofs.joined.Goals as goal

pub returns : goal.returns
returns c =
    let a = c.args in
    c.array_at.ensures
    ∙ fixed_whole 16 c.as_flattened.result.now (omega (arith, c.as_flattened.ensures.len))
    ∙ c.as_flattened.ensures.value ∙ ap (λ (l : List _). a.a ++ l) (append-nil a.b)
