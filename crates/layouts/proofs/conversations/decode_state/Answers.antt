-- `layouts::conversations::decode_state` meets its contract.
-- Assumes nothing.
use mathlib.Core.Path.{ap, ap₂, ◌∙◌}
use Rattle.layouts.specs.Records.{is_flag, decode_entry}
use Rattle.layouts.specs.LastAnswers.{decode_last}
use Rattle.layouts.specs.Conversations.{version_from, phase_of, decode_state}
use Rattle.layouts.proofs.ConversationLaws.{conversation_same}
use Rattle.layouts.proofs.conversations.decode_state.Goals as goal

-- each field in turn, the last first
pub returns : goal.returns
unfolding decode_state
returns c =
    let kept = c in
    let challenge = kept in
    let retries = challenge in
    let id = retries in
    let phase = id in
    let change = phase in
    let limit = change in
    let lm = limit in
    let version =
    change.version_from-change.ensures ∙ ap version_from change.octet-2.ensures in
    conversation_same (lm.is_flag-lm.ensures ∙ ap is_flag lm.octet.ensures)
    limit.octet-limit.ensures version id.octet-id.ensures challenge.array_at-challenge.ensures
    retries.octet-retries.ensures
    (phase.phase_of-phase.ensures ∙ ap₂ phase_of version phase.octet-3.ensures)
    (kept.decode_entry-kept.ensures ∙ ap decode_entry kept.part_of.ensures)
    (c.decode_last-last.ensures ∙ ap decode_last c.part_of-2.ensures)
