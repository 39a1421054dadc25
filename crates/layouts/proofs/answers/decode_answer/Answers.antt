-- `layouts::answers::decode_answer` meets its contract.
-- Assumes nothing.
use mathlib.Core.Path.{ap, ◌∙◌}
use Rattle.layouts.specs.Answers.{decode_result}
use Rattle.layouts.proofs.answers.decode_answer.Goals as goal

pub returns : goal.returns
returns c = c.decode_result.ensures ∙ ap decode_result c.part_of.ensures
