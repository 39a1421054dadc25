-- `verify::responses::chosen_response` meets its contract.
-- Assumes nothing.
use borrow.Author.Rules.{rules}
use mathlib.Core.Path.{◌≡◌, ap, ◌∙◌}
use mathlib.Core.Bool.{cond, ◌&&◌}
use mathlib.Core.List.{List}
use Prim.Native.Nat.{ℕ}
use lib.ListN.{length}
use Rattle.octets.proofs.Laid.{filled}
use Rattle.verify.proofs.responses.chosen_response.Goals as goal

pub returns : goal.returns
returns c =
    let a = c.args in
    let same : length a.other ≡ length a.both = search rules in
    c.copy_if_both.ensures
    ∙ ap (λ (x : List ℕ). cond (a.a && a.b) x a.other) (filled a.both a.other same)
