-- `layouts::conversations::phase_of` meets its contract.
-- Assumes nothing.
use mathlib.Core.Path.{sym, ◌∙◌}
use borrow.Author.Tests.{eq-eqb, ne_eqb}
use Rattle.layouts.proofs.conversations.phase_of.Goals as goal

pub returns-then-code-eq-RESPONSE_CODE : goal.returns-then-code-eq-RESPONSE_CODE
returns-then-code-eq-RESPONSE_CODE c = simp (eq-eqb _ _ c.if-code-eq-RESPONSE_CODE.true)

pub returns-then-code-awaited_code : goal.returns-then-code-awaited_code
returns-then-code-awaited_code c =
    let code = c in
    simp (
      ne_eqb _ _ code.if-code-eq-RESPONSE_CODE.false,
      eq-eqb _ _ (c.if-code-awaited_code.true ∙ code.awaited_code.ensures),
    )

pub returns : goal.returns
returns c =
    let code = c in
    simp (
      ne_eqb _ _ code.if-code-eq-RESPONSE_CODE.false,
      ne_eqb _ _ (λ e. c.if-code-awaited_code.false (e ∙ sym code.awaited_code.ensures)),
    )
