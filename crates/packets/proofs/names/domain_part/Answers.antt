-- `packets::names::domain_part` meets its contract.
-- Assumes nothing.
use mathlib.Core.Path.{sym, ap, ◌∙◌}
use native.Mathlib.Omega.{arith}
use lib.ListN.{length}
use Rattle.octets.proofs.Split.{place}
use Rattle.packets.proofs.Places.{part_unfit, part_split, part_whole}
use Rattle.packets.proofs.names.domain_part.Goals as goal

pub returns-then-is_bad_response : goal.returns-then-is_bad_response
returns-then-is_bad_response c =
    (part_unfit c.args.packet.now (sym c.is_bad_response.ensures ∙ c.if-is_bad_response.true)).0

pub returns-then-length-name : goal.returns-then-length-name
returns-then-length-name c =
    let p = c.args.packet.now in
    let u = sym c.is_bad_response.ensures ∙ c.if-is_bad_response.false in
    let e = c.name-name.ensures in
    (part_split p u (c.split_at-length.ensures ∙ ap (place 92) e) (omega (arith, ap length e))).0

pub returns : goal.returns
returns c =
    let p = c.args.packet.now in
    let u = sym c.is_bad_response.ensures ∙ c.if-is_bad_response.false in
    let e = c.name-name.ensures in
    (part_whole p u (c.split_at-length.ensures ∙ ap (place 92) e) (omega (arith, ap length e))).0
