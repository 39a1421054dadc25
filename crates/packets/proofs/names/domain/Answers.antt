-- `packets::names::domain` meets its contract.
-- Assumes nothing.
use mathlib.Core.Path.{◌≡◌, sym, ap, ◌∙◌}
use Rattle.std.specs.Prelude.{Option, Some}
use Rattle.packets.specs.Name.{standing, domain_part}
use Rattle.packets.specs.declared.Part.{Part}
use Rattle.packets.proofs.Places.{cut, domain_cut, domain_home, domain_unfit}
use Rattle.packets.proofs.names.domain.Goals as goal

pub returns-then-is_bad_response : goal.returns-then-is_bad_response
returns-then-is_bad_response c =
    let a = c.args in
    c.part_of.ensures ∙ sym (domain_unfit a.packet.now a.home.now (sym c.is_bad_response.ensures ∙ c.if-is_bad_response.true))

pub returns-in-Some : goal.returns-in-Some
returns-in-Some c =
    let a = c.args in
    let p = a.packet.now in
    let e : Some c.in-Some.part ≡ domain_part p = sym c.in-Some.is ∙ c.domain_part.ensures in
    c.part_of-in-Some.ensures ∙ ap (λ (x : Option Part). cut (standing x) p) e
    ∙ domain_cut p a.home.now (λ z. cc)

pub returns-in-None : goal.returns-in-None
returns-in-None c =
    let a = c.args in
    let u = sym c.is_bad_response.ensures ∙ c.if-is_bad_response.false in
    sym (domain_home a.packet.now a.home.now u (ap (λ (d : Option Part). (standing d).offset) (sym c.domain_part.ensures ∙ c.in-None.is)))
