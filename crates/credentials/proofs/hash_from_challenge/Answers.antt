-- `credentials::hash_from_challenge` meets its contract.
-- Assumes nothing.
use borrow.Author.Rules.{rules}
use mathlib.Core.Path.{◌≡◌, ap, ◌∙◌}
use mathlib.Core.List.{List, ◌++◌}
use Prim.Native.Nat.{ℕ}
use native.Mathlib.Omega.{arith}
use lib.ListN.{length}
use Rattle.octets.specs.Parts.{part}
use Rattle.octets.proofs.Parts.{fixed_part}
use Rattle.des.specs.Des.{des_decrypt}
use Rattle.credentials.specs.Credentials.{hash_from_challenge}
use Rattle.credentials.proofs.Padded.{halves_joined}
use Rattle.credentials.proofs.hash_from_challenge.Goals as goal

pub returns : goal.returns
unfolding hash_from_challenge
returns c =
    let sizes : (length c.args.field ≡ 16) × (length c.args.challenge ≡ 8) =
    (search rules, search rules) in
    let e₂ = c in
    let e₁ = e₂ in
    let k = e₁ in
    let start = k in
    let key = k.array_at-key.result in
    let n = sizes in
    halves_joined (des_decrypt key) (des_decrypt key) start.args.field n.0 c.joined.ensures
    e₁.decrypt-a.ensures e₂.decrypt-b.ensures e₁.array_at.ensures
    e₂.array_at-2.ensures
    ∙ ap (λ (x : List ℕ). des_decrypt x (part 0 8 start.args.field)
    ++ des_decrypt x (part 8 8 start.args.field))
    (k.array_at-key.ensures ∙ fixed_part 0 7 start.args.challenge (omega (arith, n.1)))
