-- `credentials::halves_under` meets its contract.
-- Assumes nothing.
use borrow.Author.Rules.{rules}
use mathlib.Core.Path.{◌≡◌}
use lib.ListN.{length}
use Rattle.des.specs.Des.{des_encrypt}
use Rattle.credentials.proofs.Padded.{halves_joined}
use Rattle.credentials.proofs.halves_under.Goals as goal

pub returns : goal.returns
returns c =
    let sixteen : length c.args.hash ≡ 16 =
    search rules in
    let e₂ = c in
    let e₁ = e₂ in
    let start = e₁ in
    halves_joined (des_encrypt start.args.first) (des_encrypt start.args.second)
    start.args.hash sixteen c.joined.ensures e₁.encrypt-a.ensures
    e₂.encrypt-b.ensures e₁.array_at.ensures e₂.array_at-2.ensures
