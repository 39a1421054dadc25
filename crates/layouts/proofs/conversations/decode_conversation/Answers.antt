-- `layouts::conversations::decode_conversation` meets its contract.
-- Assumes nothing.
use mathlib.Core.Path.{ap, ◌∙◌}
use Rattle.layouts.specs.Conversations.{decode_state}
use Rattle.layouts.proofs.conversations.decode_conversation.Goals as goal

pub returns : goal.returns
returns c = c.decode_state.ensures ∙ ap decode_state c.part_of.ensures
