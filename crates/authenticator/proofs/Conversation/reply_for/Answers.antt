-- `authenticator::Conversation::reply_for` meets its contract.
-- Assumes nothing.
use mathlib.Core.Bool.{Bool}
use mathlib.Core.Path.{ap}
use borrow.Author.Tests.{eq-eqb, ne_eqb}
use Rattle.message.specs.Reasons.{no_reason}
use Rattle.authenticator.specs.declared.Reply.TheVariants.{Failure}
use Rattle.authenticator.proofs.Conversation.reply_for.Goals as goal

pub returns-then-reason-eq-NO_REASON : goal.returns-then-reason-eq-NO_REASON
returns-then-reason-eq-NO_REASON c = simp (eq-eqb _ no_reason c.if-reason-eq-NO_REASON.true)

pub returns-else-reason-eq-NO_REASON : goal.returns-else-reason-eq-NO_REASON
returns-else-reason-eq-NO_REASON c =
    let a = c.args in
    simp (ne_eqb _ no_reason c.if-reason-eq-NO_REASON.false)
    (ap (λ (r : Bool). Failure a.reason r) c.may_retry-retry.ensures)
