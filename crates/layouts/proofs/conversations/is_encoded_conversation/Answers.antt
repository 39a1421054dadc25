-- `layouts::conversations::is_encoded_conversation` meets its contract.
-- Assumes nothing.
use mathlib.Core.Path.{ap, ◌∙◌}
use Rattle.octets.specs.Parts.{agrees}
use Rattle.authenticator.specs.declared.Conversation.{Conversation}
use Rattle.layouts.specs.Conversations.{encode_conversation, is_encoded_conversation}
use Rattle.layouts.proofs.conversations.is_encoded_conversation.Goals as goal

pub returns : goal.returns
unfolding is_encoded_conversation
returns c =
    let bytes = c.args.bytes.now in
    c.is_conversation.ensures
    ∙ ap (λ (v : Conversation). agrees (encode_conversation v) bytes)
    c.decode_conversation.ensures
