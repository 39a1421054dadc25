-- `mschap::steps::mschap_answer_reason` meets its contract.
-- Assumes nothing.
use mathlib.Core.Path.{sym, ap, ◌∙◌}
use mathlib.Core.Bool.{Bool}
use Rattle.layouts.specs.Answers.{decode_answer}
use Rattle.layouts.specs.declared.StepResult.{StepResult}
use Rattle.layouts.specs.Call.{value_or}
use Rattle.step_calls.specs.Calls.{answer_reason}
use Rattle.mschap.proofs.steps.mschap_answer_reason.Goals as goal

pub returns-then-not-is_encoded_answer : goal.returns-then-not-is_encoded_answer
unfolding answer_reason
returns-then-not-is_encoded_answer c = simp (sym c.is_encoded_answer.ensures ∙ c.if-not-is_encoded_answer.true)

pub returns : goal.returns
unfolding answer_reason
returns c =
    let decoded = c in
    let passed = decoded in
    let bytes = passed.args.answer.now in
    let valid = sym passed.is_encoded_answer.ensures ∙ passed.if-not-is_encoded_answer.false
    in
    ap (λ (v : StepResult). v.reason) decoded.decode_answer.ensures
    ∙ ap (λ (t : Bool). value_or t (decode_answer bytes).reason) (sym valid)
