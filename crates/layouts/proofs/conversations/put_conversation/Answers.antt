-- `layouts::conversations::put_conversation` meets its contract.
-- Assumes nothing.
use native.Mathlib.Omega.{arith}
use Rattle.layouts.specs.Values.{conversation_kind}
use Rattle.layouts.specs.Conversations.{encode_state}
use Rattle.layouts.proofs.ConversationLaws.{SizedConversation, length_state}
use Rattle.layouts.proofs.Putting.{filled}
use borrow.Author.Rules.{rules}
use Rattle.layouts.proofs.conversations.put_conversation.Goals as goal

pub returns : goal.returns
returns c =
    let sized : SizedConversation c.args.conversation =
    record { challenge = search rules; kept = record { nt = search rules; lm = search rules } } in
    let v = c.args.conversation in
    filled conversation_kind 59 (omega arith) (encode_state v) (length_state v sized)
    c.encode_state-body.ensures
    c.put_value.ensures
