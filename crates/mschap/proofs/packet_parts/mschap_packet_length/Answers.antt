-- `mschap::packet_parts::mschap_packet_length` meets its contract.
-- Assumes nothing.
use mathlib.Core.Path.{sym, ap, ◌∙◌}
use mathlib.Core.Bool.{Bool}
use Rattle.packets.specs.Frame.{length_of}
use mathlib.Core.Bool.{cond}
use Rattle.mschap.proofs.packet_parts.mschap_packet_length.Goals as goal

pub returns-then-is_bad_frame : goal.returns-then-is_bad_frame
returns-then-is_bad_frame c = simp (sym c.is_bad_frame.ensures ∙ c.if-is_bad_frame.true)

pub returns : goal.returns
returns c =
    let passed = c in
    let packet = passed.args.packet.now in
    c.length.ensures
    ∙ ap (λ (t : Bool). cond t 0 (length_of packet))
    (sym (sym passed.is_bad_frame.ensures ∙ passed.if-is_bad_frame.false))
