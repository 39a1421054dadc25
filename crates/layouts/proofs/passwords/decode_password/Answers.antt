-- `layouts::passwords::decode_password` meets its contract.
-- Assumes nothing.
use mathlib.Core.Path.{ap, ap₂, ◌∙◌}
use mathlib.Core.List.{[], ◌∷◌}
use Prim.Native.Nat.{ℕ}
use Rattle.octets.specs.Parts.{part}
use Rattle.octets.specs.Numbers.{from_be}
use Rattle.layouts.proofs.passwords.decode_password.Goals as goal

pub returns : goal.returns
returns c =
    let number = c in
    let second = number in
    let first = second in
    let bytes = first.args.bytes.now in
    c.part_of.ensures
    ∙ ap (λ (n : ℕ). part 4 n bytes)
    (number.u16_from_be-n.ensures
    ∙ ap₂ (λ (a b : ℕ). from_be (a ∷ b ∷ [])) first.octet.ensures second.octet-2.ensures)
