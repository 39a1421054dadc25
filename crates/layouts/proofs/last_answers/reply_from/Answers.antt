-- `layouts::last_answers::reply_from` meets its contract.
-- Assumes nothing.
use borrow.Author.Tests.{eq-eqb, ne_eqb}
use Rattle.layouts.proofs.last_answers.reply_from.Goals as goal

pub returns-then-n-eq-SUCCESS_REPLY : goal.returns-then-n-eq-SUCCESS_REPLY
returns-then-n-eq-SUCCESS_REPLY c = simp (eq-eqb _ _ c.if-n-eq-SUCCESS_REPLY.true)

pub returns : goal.returns
returns c = simp (ne_eqb _ _ c.if-n-eq-SUCCESS_REPLY.false)
