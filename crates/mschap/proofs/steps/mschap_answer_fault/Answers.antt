-- `mschap::steps::mschap_answer_fault` meets its contract.
-- Assumes nothing.
use mathlib.Core.Path.{sym, ap, ◌∙◌}
use mathlib.Core.Bool.{Bool}
use Rattle.verify.specs.Faults.{fault_number}
use Rattle.layouts.specs.Answers.{decode_answer}
use Rattle.layouts.specs.declared.StepResult.{StepResult}
use Rattle.layouts.specs.Call.{value_or}
use Rattle.step_calls.specs.Calls.{answer_fault}
use Rattle.mschap.proofs.steps.mschap_answer_fault.Goals as goal

pub returns-then-not-is_encoded_answer : goal.returns-then-not-is_encoded_answer
unfolding answer_fault
returns-then-not-is_encoded_answer c = simp (sym c.is_encoded_answer.ensures ∙ c.if-not-is_encoded_answer.true)

pub returns : goal.returns
unfolding answer_fault
returns c =
    let numbered = c in
    let decoded = numbered in
    let passed = decoded in
    let bytes = passed.args.answer.now in
    let valid = sym passed.is_encoded_answer.ensures ∙ passed.if-not-is_encoded_answer.false
    in
    c.from.ensures ∙ numbered.fault_number.ensures
    ∙ ap (λ (v : StepResult). fault_number v.fault) decoded.decode_answer-fault.ensures
    ∙ ap (λ (t : Bool). value_or t (fault_number (decode_answer bytes).fault)) (sym valid)
