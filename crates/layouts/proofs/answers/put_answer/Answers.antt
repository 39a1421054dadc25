-- `layouts::answers::put_answer` meets its contract.
-- Assumes nothing.
use mathlib.Core.Path.{ap, ◌∙◌}
use mathlib.Core.List.{List}
use Prim.Native.Nat.{ℕ, suc}
use native.Mathlib.Omega.{arith}
use Rattle.octets.specs.Parts.{over, over_at}
use Rattle.layouts.specs.Values.{answer_kind}
use Rattle.layouts.specs.Answers.{answer_head_size, encode_result}
use Rattle.layouts.proofs.RecordLaws.{SizedEntry}
use Rattle.layouts.proofs.AnswerLaws.{length_result}
use Rattle.layouts.proofs.Putting.{front}
use borrow.Author.Rules.{rules}
use Rattle.layouts.proofs.answers.put_answer.Goals as goal

pub returns : goal.returns
returns c =
    let sized : SizedEntry c.args.res.updated.entry =
    record { nt = search rules; lm = search rules } in
    let v = c.args.res in
    let long = length_result v sized in (
      c.copy_at.ensures
          ∙ ap (over_at answer_head_size c.args.keys.now)
          (c.lay_value.ensures
          ∙ ap (λ (l : List ℕ). over l c.args.out.now)
          (front answer_kind 44 (encode_result v) long (omega arith) c.encode_result-body.ensures)),
      ap (λ (n : ℕ). suc (suc n)) long,
    )
