-- `packets::names::is_bad_response` meets its contract.
-- Assumes nothing.
use mathlib.Core.Path.{sym, ◌∙◌}
use native.Mathlib.Omega.{arith}
use borrow.Author.Tests.{eq-eqb, ne_eqb}
use Rattle.packets.specs.Frame.{octet}
use Rattle.packets.proofs.names.is_bad_response.Goals as goal

pub returns-then-is_bad_frame : goal.returns-then-is_bad_frame
returns-then-is_bad_frame c = simp (sym c.is_bad_frame.ensures ∙ c.if-is_bad_frame.true, c.if-is_bad_frame.true)

pub returns-then-code-ne-RESPONSE_CODE : goal.returns-then-code-ne-RESPONSE_CODE
returns-then-code-ne-RESPONSE_CODE c =
    let p = c.args.packet.now in
    simp (
      c.octet-code.ensures,
      sym c.is_bad_frame.ensures ∙ c.if-is_bad_frame.false,
      ne_eqb (octet 0 p) 2 (omega arith),
    )

pub returns-then-is_bad_size : goal.returns-then-is_bad_size
returns-then-is_bad_size c =
    let p = c.args.packet.now in
    simp (
      sym c.is_bad_frame.ensures ∙ c.if-is_bad_frame.false,
      eq-eqb (octet 0 p) 2 (omega arith),
      sym c.is_bad_size.ensures ∙ c.if-is_bad_size.true,
      c.if-is_bad_size.true,
    )

pub returns-else-is_bad_size : goal.returns-else-is_bad_size
returns-else-is_bad_size c =
    let p = c.args.packet.now in
    simp (
      sym c.is_bad_frame.ensures ∙ c.if-is_bad_frame.false,
      eq-eqb (octet 0 p) 2 (omega arith),
      sym c.is_bad_size.ensures ∙ c.if-is_bad_size.false,
      c.is_bad_flag.ensures,
    )
