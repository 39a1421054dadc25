-- `credentials::hash_under_challenge` meets its contract.
-- Assumes nothing.
use borrow.Author.Rules.{rules}
use mathlib.Core.Path.{◌≡◌, ap, ◌∙◌}
use mathlib.Core.List.{List}
use Prim.Native.Nat.{ℕ}
use native.Mathlib.Omega.{arith}
use lib.ListN.{length}
use Rattle.octets.proofs.Parts.{fixed_part}
use Rattle.credentials.specs.Credentials.{halves_under, hash_under_challenge}
use Rattle.credentials.proofs.hash_under_challenge.Goals as goal

pub returns : goal.returns
unfolding hash_under_challenge
returns c =
    let eight : length c.args.challenge ≡ 8 =
    search rules in
    let k = c in
    let start = k in
    c.halves_under.ensures
    ∙ ap (λ (x : List ℕ). halves_under x x start.args.hash)
    (k.array_at-key.ensures ∙ fixed_part 0 7 start.args.challenge (omega (arith, eight)))
