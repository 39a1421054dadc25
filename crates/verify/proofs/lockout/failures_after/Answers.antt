-- `verify::lockout::failures_after` meets its contract: the choices are the definition's.
-- Assumes nothing.
use mathlib.Core.Bool.{cond}
use mathlib.Core.Path.{ap₂, ◌∙◌}
use Prim.Native.Nat.{ℕ}
use Rattle.verify.specs.Lockout.{failures_after}
use Rattle.verify.proofs.lockout.failures_after.Goals as goal

pub returns : goal.returns
unfolding failures_after
returns c =
    let more = c in
    let cleared = more in
    let a = cleared.args in
    c.where_both.ensures
    ∙ ap₂ (λ (x y : ℕ). cond a.valid x y) cleared.where_both-cleared.ensures more.one_more.ensures
