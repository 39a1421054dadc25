-- `authenticator::Conversation::after` meets its contract.
-- Assumes nothing.
use mathlib.Core.Path.{sym, ◌∙◌}
use borrow.Author.Tests.{eq-eqb, ne_eqb}
use Rattle.message.specs.Reasons.{password_expired}
use Rattle.authenticator.proofs.Conversation.after.Goals as goal

pub returns-then-may_retry : goal.returns-then-may_retry
returns-then-may_retry c =
    simp (sym c.may_retry.ensures ∙ c.if-may_retry.true) c.to_retry.ensures

pub returns-then-reason-eq-PASSWORD_EXPIRED : goal.returns-then-reason-eq-PASSWORD_EXPIRED
returns-then-reason-eq-PASSWORD_EXPIRED c =
    let left = c in
    simp (
      sym left.may_retry.ensures ∙ left.if-may_retry.false,
      eq-eqb _ password_expired c.if-reason-eq-PASSWORD_EXPIRED.true,
    ) c.to_change.ensures

pub returns : goal.returns
returns c =
    let left = c in
    simp (
      sym left.may_retry.ensures ∙ left.if-may_retry.false,
      ne_eqb _ password_expired c.if-reason-eq-PASSWORD_EXPIRED.false,
    ) c.to_end.ensures
