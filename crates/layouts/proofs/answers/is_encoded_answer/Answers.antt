-- `layouts::answers::is_encoded_answer` meets its contract.
-- Assumes nothing.
use mathlib.Core.Path.{sym, ap, ◌∙◌}
use mathlib.Core.Bool.{Bool, ◌&&◌}
use native.Mathlib.Omega.{arith}
use borrow.Author.Tests.{eq-eqb, ne_eqb}
use Rattle.octets.specs.Parts.{part, agrees}
use Rattle.layouts.specs.declared.StepResult.{StepResult}
use Rattle.layouts.specs.Values.{answer_kind}
use Rattle.layouts.specs.Inner.{in_room}
use Rattle.layouts.specs.Answers.{encode_result, answer_head, decode_answer}
use Rattle.layouts.specs.Answers.{is_encoded_answer}
use Rattle.layouts.proofs.AnswerLaws.{length_result, decoded_answer_sized}
use Rattle.layouts.proofs.Putting.{compared}
use Rattle.layouts.proofs.answers.is_encoded_answer.Goals as goal

-- as many bytes: the front decides
pub returns-then-bytes-eq-ANSWER_SIZE : goal.returns-then-bytes-eq-ANSWER_SIZE
unfolding is_encoded_answer
returns-then-bytes-eq-ANSWER_SIZE c =
    let bytes = c.args.bytes.now in
    let v = decode_answer bytes in
    compared answer_kind 44 (omega arith) (encode_result v)
    (length_result v (decoded_answer_sized bytes))
    (c.encode_result-body.ensures ∙ ap (λ (u : StepResult). in_room (encode_result u))
    c.decode_answer.ensures) _ c.is_value.ensures
    ∙ ap (agrees (answer_head v)) c.part_of-front.ensures
    ∙ sym (ap (λ (t : Bool). t && agrees (answer_head v) (part 0 46 bytes))
    (eq-eqb _ _ c.if-bytes-eq-ANSWER_SIZE.true))

pub returns-else-bytes-eq-ANSWER_SIZE : goal.returns-else-bytes-eq-ANSWER_SIZE
unfolding is_encoded_answer
returns-else-bytes-eq-ANSWER_SIZE c = simp (ne_eqb _ _ c.if-bytes-eq-ANSWER_SIZE.false)
