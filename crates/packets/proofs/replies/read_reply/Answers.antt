-- `packets::replies::read_reply` meets its contract.
-- Assumes nothing.
use mathlib.Core.Path.{◌≡◌, sym, ap, ◌∙◌}
use Rattle.refusals.specs.Refusal.{told}
use Rattle.message.specs.Message.{verdict_values, values_of}
use Rattle.packets.specs.Reply.{read_reply}
use Rattle.packets.proofs.Refusals.{reply_told, reply_values_told}
use Rattle.packets.proofs.replies.read_reply.Goals as goal

pub returns-then-is_bad_frame : goal.returns-then-is_bad_frame
unfolding read_reply
returns-then-is_bad_frame c =
    let last = c.args.last in
    let p = c.args.packet.now in
    let e : read_reply last p ≡ _ = rw (sym c.is_bad_frame.ensures ∙ c.if-is_bad_frame.true) in
    record {
      as_defined = sym e;
      number = ap told (sym e) ∙ reply_told last p;
      values = ap (values_of verdict_values) (sym e) ∙ reply_values_told last p;
    }

pub returns-then-is_bad_id : goal.returns-then-is_bad_id
unfolding read_reply
returns-then-is_bad_id c =
    let last = c.args.last in
    let p = c.args.packet.now in
    let e : read_reply last p ≡ _ =
    rw (
      sym c.is_bad_frame.ensures ∙ c.if-is_bad_frame.false,
      sym c.is_bad_id.ensures ∙ c.if-is_bad_id.true,
    ) in
    record {
      as_defined = sym e;
      number = ap told (sym e) ∙ reply_told last p;
      values = ap (values_of verdict_values) (sym e) ∙ reply_values_told last p;
    }

pub returns : goal.returns
unfolding read_reply
returns c =
    let last = c.args.last in
    let p = c.args.packet.now in
    let e : c.read_body.result ≡ read_reply last p =
    rw (
      sym c.is_bad_frame.ensures ∙ c.if-is_bad_frame.false,
      sym c.is_bad_id.ensures ∙ c.if-is_bad_id.false,
    ) c.read_body.ensures in
    record {
      as_defined = e;
      number = ap told e ∙ reply_told last p;
      values = ap (values_of verdict_values) e ∙ reply_values_told last p;
    }
