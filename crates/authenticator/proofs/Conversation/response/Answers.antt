-- `authenticator::Conversation::response` meets its contract.
-- Assumes nothing.
use mathlib.Core.Path.{refl, ap, ◌∙◌}
use Rattle.packets.specs.declared.Response.{Response}
use Rattle.accounts.specs.Account.{stored_in}
use Rattle.verify.specs.Response.{carrying_lookup, checked_response}
use Rattle.authenticator.specs.Judge.{judge_response}
use Rattle.authenticator.proofs.Judgements.{verdict_for, verdict_same}
use Rattle.authenticator.proofs.Conversation.response.Goals as goal

pub returns : goal.returns
unfolding judge_response
returns c =
    let reply = c in
    let checked = reply in
    let fields = checked in
    let a = fields.args in
    let e = checked.check_response-checked.ensures
    ∙ ap (λ (f : Response). checked_response a.self.terms a.self.challenge
    (carrying_lookup a.lookup (stored_in a.keys.now)) f)
    fields.read_response-fields.ensures in
    verdict_same reply.reply_for-reply.ensures c.after-next.ensures refl
    ∙ ap (verdict_for a.self) e
