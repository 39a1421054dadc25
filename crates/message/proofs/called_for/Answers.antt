-- `message::called_for` meets its contract.
-- Assumes nothing.
use borrow.Author.Tests.{eq-eqb, ne_eqb, le-leb, lt-leb, lt-ltb}
use Rattle.message.specs.Reasons.{authentication_failure, password_expired}
use Rattle.message.specs.Message.{called_for}
use Rattle.message.proofs.called_for.Goals as goal

pub returns-then-r-eq1 : goal.returns-then-r-eq1
unfolding called_for
returns-then-r-eq1 c = simp (c.if-e.true, eq-eqb _ _ c.if-r-eq1.true)

pub returns-else-r-eq1 : goal.returns-else-r-eq1
unfolding called_for
returns-else-r-eq1 c = simp (c.if-e.true, ne_eqb _ _ c.if-r-eq1.false)

pub returns-then-v-ge2 : goal.returns-then-v-ge2
unfolding called_for
returns-then-v-ge2 c = simp (c.if-e-2.true, le-leb _ _ c.if-v-ge2.true)

pub returns-else-v-ge2 : goal.returns-else-v-ge2
unfolding called_for
returns-else-v-ge2 c = simp (c.if-e-2.true, lt-leb _ _ c.if-v-ge2.false, lt-ltb _ _ c.if-v-ge2.false)

pub returns : goal.returns
unfolding called_for
returns c =
    simp (ne_eqb _ authentication_failure c.if-e.false, ne_eqb _ password_expired c.if-e-2.false)
