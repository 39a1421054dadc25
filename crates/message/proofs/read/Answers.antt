-- `message::read` meets its contract.
-- Assumes nothing.
use mathlib.Core.Path.{◌≡◌, sym, ap, ◌∙◌}
use borrow.Author.Tests.{lt-ltb, le-ltb}
use Rattle.refusals.specs.Refusal.{told}
use Rattle.message.specs.Message.{read_message, failure_values, values_of}
use Rattle.message.proofs.Laws.{refusal_told, values_told}
use Rattle.message.proofs.read.Goals as goal

pub returns-then-message-gt-LONGEST_MESSAGE : goal.returns-then-message-gt-LONGEST_MESSAGE
unfolding read_message
returns-then-message-gt-LONGEST_MESSAGE c =
    let m = c.args.message.now in
    let e : read_message m ≡ _ = simp (lt-ltb _ _ c.if-message-gt-LONGEST_MESSAGE.true) in
    record {
      as_defined = sym e;
      number = ap told (sym e) ∙ refusal_told m;
      values = ap (values_of failure_values) (sym e) ∙ values_told m;
    }

pub returns : goal.returns
unfolding read_message
returns c =
    let m = c.args.message.now in
    let e : c.judge.result ≡ read_message m =
    c.judge.ensures ∙ sym (simp (le-ltb _ _ c.if-message-gt-LONGEST_MESSAGE.false)) in
    record {
      as_defined = e;
      number = ap told e ∙ refusal_told m;
      values = ap (values_of failure_values) e ∙ values_told m;
    }
