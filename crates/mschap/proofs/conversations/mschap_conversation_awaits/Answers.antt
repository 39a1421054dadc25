-- `mschap::conversations::mschap_conversation_awaits` meets its contract.
-- Assumes nothing.
use mathlib.Core.Path.{sym, ap, ◌∙◌}
use mathlib.Core.Bool.{Bool}
use Rattle.authenticator.specs.Conversation.{awaited_code}
use Rattle.authenticator.specs.declared.Conversation.{Conversation}
use Rattle.layouts.specs.Conversations.{decode_conversation}
use Rattle.layouts.specs.Call.{value_or}
use Rattle.step_calls.specs.Calls.{conversation_awaits}
use Rattle.mschap.proofs.conversations.mschap_conversation_awaits.Goals as goal

pub returns-then-not-is_encoded_conversation : goal.returns-then-not-is_encoded_conversation
unfolding conversation_awaits
returns-then-not-is_encoded_conversation c = simp (sym c.is_encoded_conversation.ensures ∙ c.if-not-is_encoded_conversation.true)

pub returns : goal.returns
unfolding conversation_awaits
returns c =
    let bytes = c.args.conversation.now in
    let valid = sym c.is_encoded_conversation.ensures ∙ c.if-not-is_encoded_conversation.false in
    c.awaited_code.ensures
    ∙ ap (λ (v : Conversation). awaited_code v.terms.change v.phase)
    c.decode_conversation-decoded.ensures
    ∙ ap (λ (t : Bool). value_or t (awaited_code (decode_conversation bytes).terms.change
    (decode_conversation bytes).phase)) (sym valid)
