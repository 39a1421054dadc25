-- `mschap::steps::mschap_answer_repeated` meets its contract.
-- Assumes nothing.
use mathlib.Core.Path.{sym, ap, ◌∙◌}
use mathlib.Core.Bool.{Bool}
use Rattle.layouts.specs.Records.{flag}
use Rattle.layouts.specs.Answers.{decode_answer}
use Rattle.layouts.specs.declared.StepResult.{StepResult}
use Rattle.layouts.proofs.RecordLaws.{flag_cast}
use Rattle.layouts.specs.Call.{value_or}
use Rattle.step_calls.specs.Calls.{answer_repeated}
use Rattle.mschap.proofs.steps.mschap_answer_repeated.Goals as goal

pub returns-then-not-is_encoded_answer : goal.returns-then-not-is_encoded_answer
unfolding answer_repeated
returns-then-not-is_encoded_answer c = simp (sym c.is_encoded_answer.ensures ∙ c.if-not-is_encoded_answer.true)

pub returns : goal.returns
unfolding answer_repeated
returns c =
    let decoded = c in
    let passed = decoded in
    let bytes = passed.args.answer.now in
    let valid = sym passed.is_encoded_answer.ensures ∙ passed.if-not-is_encoded_answer.false
    in
    flag_cast decoded.decode_answer.result.repeated
    ∙ ap (λ (v : StepResult). flag v.repeated) decoded.decode_answer.ensures
    ∙ ap (λ (t : Bool). value_or t (flag (decode_answer bytes).repeated)) (sym valid)
