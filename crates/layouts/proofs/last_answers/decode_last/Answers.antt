-- `layouts::last_answers::decode_last` meets its contract.
-- Assumes nothing.
use mathlib.Core.Path.{ap, ap₂, ◌∙◌}
use mathlib.Core.List.{[], ◌∷◌}
use Prim.Native.Nat.{ℕ}
use Rattle.octets.specs.Numbers.{from_be}
use Rattle.layouts.specs.Records.{is_flag}
use Rattle.layouts.specs.LastAnswers.{reply_from, decode_last}
use Rattle.layouts.proofs.LastAnswerLaws.{last_same}
use Rattle.layouts.proofs.last_answers.decode_last.Goals as goal

-- each field in turn, the last first
pub returns : goal.returns
unfolding decode_last
returns c =
    let reply = c in
    let reason = reply in
    let second = reason in
    let first = second in
    let id = first in
    let code = id in
    let present = code in
    last_same (present.is_flag-present.ensures ∙ ap is_flag present.octet.ensures)
    code.octet-code.ensures id.octet-id.ensures
    (c.reply_from-reply.ensures
    ∙ ap₂ reply_from reply.octet-4.ensures
    (reason.u16_from_be-reason.ensures
    ∙ ap₂ (λ (a b : ℕ). from_be (a ∷ b ∷ [])) first.octet-2.ensures second.octet-3.ensures))
