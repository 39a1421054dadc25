-- `layouts::room::layout_version` meets its contract.
-- Assumes nothing.
use borrow.Author.Tests.{eq-eqb, ne_eqb}
use Rattle.layouts.proofs.room.layout_version.Goals as goal

pub returns-then-kind-eq-RECORD_KIND : goal.returns-then-kind-eq-RECORD_KIND
returns-then-kind-eq-RECORD_KIND c = simp (eq-eqb _ _ c.if-kind-eq-RECORD_KIND.true)

pub returns-then-kind-eq-CONVERSATION_KIND : goal.returns-then-kind-eq-CONVERSATION_KIND
returns-then-kind-eq-CONVERSATION_KIND c = simp (ne_eqb _ _ c.if-kind-eq-RECORD_KIND.false, eq-eqb _ _ c.if-kind-eq-CONVERSATION_KIND.true)

pub returns-then-kind-eq-ANSWER_KIND : goal.returns-then-kind-eq-ANSWER_KIND
returns-then-kind-eq-ANSWER_KIND c =
    simp (
      ne_eqb _ _ c.if-kind-eq-RECORD_KIND.false,
      ne_eqb _ _ c.if-kind-eq-CONVERSATION_KIND.false,
      eq-eqb _ _ c.if-kind-eq-ANSWER_KIND.true,
    )

pub returns : goal.returns
returns c =
    simp (
      ne_eqb _ _ c.if-kind-eq-RECORD_KIND.false,
      ne_eqb _ _ c.if-kind-eq-CONVERSATION_KIND.false,
      ne_eqb _ _ c.if-kind-eq-ANSWER_KIND.false,
    )
