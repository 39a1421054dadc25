-- `packets::names::account` meets its contract.
-- Assumes nothing.
use mathlib.Core.Path.{◌≡◌, sym, ap, ◌∙◌}
use Rattle.std.specs.Prelude.{Option, Some, None}
use Rattle.packets.specs.Name.{standing, account_part}
use Rattle.packets.specs.declared.Part.{Part}
use Rattle.packets.proofs.Places.{cut, account_cut}
use Rattle.packets.proofs.names.account.Goals as goal

pub returns-in-Some : goal.returns-in-Some
returns-in-Some c =
    let p = c.args.packet.now in
    let e : Some c.in-Some.part ≡ account_part p = sym c.in-Some.is ∙ c.account_part.ensures in
    c.part_of.ensures ∙ ap (λ (a : Option Part). cut (standing a) p) e ∙ account_cut p

pub returns-in-None : goal.returns-in-None
returns-in-None c =
    let p = c.args.packet.now in
    let e : None ≡ account_part p = sym c.in-None.is ∙ c.account_part.ensures in
    c.part_of-in-None.ensures ∙ ap (λ (a : Option Part). cut (standing a) p) e ∙ account_cut p
