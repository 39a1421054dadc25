-- `credentials::old_under_new` meets its contract.
-- Assumes nothing.
use borrow.Author.Rules.{rules}
use mathlib.Core.Path.{◌≡◌, ap₂, ◌∙◌}
use mathlib.Core.List.{List}
use Prim.Native.Nat.{ℕ}
use native.Mathlib.Omega.{arith}
use lib.ListN.{length}
use Rattle.octets.proofs.Parts.{fixed_part}
use Rattle.credentials.specs.Credentials.{halves_under, old_under_new}
use Rattle.credentials.proofs.old_under_new.Goals as goal

pub returns : goal.returns
unfolding old_under_new
returns c =
    let sixteen : length c.args.new ≡ 16 =
    search rules in
    let k₂ = c in
    let k₁ = k₂ in
    let start = k₁ in
    let n = sixteen in
    c.halves_under.ensures
    ∙ ap₂ (λ (x y : List ℕ). halves_under x y start.args.old)
    (k₁.array_at-first.ensures ∙ fixed_part 0 7 start.args.new (omega (arith, n)))
    (k₂.array_at-second.ensures ∙ fixed_part 7 7 start.args.new (omega (arith, n)))
