-- `mschap::conversations::mschap_conversation_identifier` meets its contract.
-- Assumes nothing.
use mathlib.Core.Path.{sym, ap, ◌∙◌}
use mathlib.Core.Bool.{Bool}
use Rattle.authenticator.specs.declared.Conversation.{Conversation}
use Rattle.layouts.specs.Conversations.{decode_conversation}
use Rattle.layouts.specs.Call.{value_or}
use Rattle.step_calls.specs.Calls.{conversation_identifier}
use Rattle.mschap.proofs.conversations.mschap_conversation_identifier.Goals as goal

pub returns-then-not-is_encoded_conversation : goal.returns-then-not-is_encoded_conversation
unfolding conversation_identifier
returns-then-not-is_encoded_conversation c = simp (sym c.is_encoded_conversation.ensures ∙ c.if-not-is_encoded_conversation.true)

pub returns : goal.returns
unfolding conversation_identifier
returns c =
    let bytes = c.args.conversation.now in
    let valid = sym c.is_encoded_conversation.ensures ∙ c.if-not-is_encoded_conversation.false in
    ap (λ (v : Conversation). v.id) c.decode_conversation.ensures
    ∙ ap (λ (t : Bool). value_or t (decode_conversation bytes).id) (sym valid)
