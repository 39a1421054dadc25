-- `step_calls::answer_record` meets its contract.
-- Assumes nothing.
use mathlib.Core.Path.{◌≡◌, sym, ap, ap₂, ◌∙◌}
use mathlib.Core.Bool.{Bool, true}
use mathlib.Core.List.{List, ◌++◌}
use Prim.Native.Nat.{ℕ}
use native.Mathlib.Omega.{arith}
use borrow.Author.Tests.{eqb-true, ne_eqb}
use lib.ListN.{length}
use Rattle.octets.specs.Parts.{over}
use Rattle.octets.proofs.Parts.{length_part}
use Rattle.accounts.specs.declared.EntryLookup.{EntryLookup}
use Rattle.layouts.specs.Answers.{answer_head_size, answer_size, decode_answer, is_encoded_answer}
use Rattle.layouts.specs.Call.{sized, numbered}
use Rattle.layouts.specs.Keys.{both_keys_size}
use Rattle.layouts.specs.Records.{record_head_size, record_size, record_head}
use Rattle.layouts.specs.declared.StepResult.{StepResult}
use Rattle.layouts.proofs.AnswerLaws.{decoded_answer_sized, length_encoded_answer}
use Rattle.layouts.proofs.Filling.{both, refused_argument}
use Rattle.layouts.proofs.RecordLaws.{length_head}
use Rattle.refusals.specs.Refusal.{number, told}
use Rattle.refusals.proofs.Numbers.{number_some}
use Rattle.numbers.specs.Results.{no_record_refusal}
use Rattle.step_calls.specs.Calls.{answer_record_arguments}
use Rattle.account_records.proofs.Laying.{both_laid}
use Rattle.step_calls.proofs.answer_record.Goals as goal

-- the sizes of what was passed
sizes : (answer out : List ℕ) → answer_record_arguments answer out ≡ true
    → (length answer ≡ answer_size) × (length out ≡ record_size)
unfolding answer_record_arguments
sizes answer out e =
    let h = both (is_encoded_answer answer) (sized record_size out) e in
    (length_encoded_answer answer h.0, eqb-true (length out) record_size h.1)

pub returns-then-not-are_answer_record_arguments : goal.returns-then-not-are_answer_record_arguments
returns-then-not-are_answer_record_arguments c =
    refused_argument
    (sym c.are_answer_record_arguments.ensures ∙ c.if-not-are_answer_record_arguments.true)

-- none: nothing is written
pub returns-in-Err : goal.returns-in-Err
returns-in-Err c =
    let answer = c.args.answer.now in
    let out = c.args.out.now in
    let valid : answer_record_arguments answer out ≡ true =
    sym c.are_answer_record_arguments.ensures ∙ c.if-not-are_answer_record_arguments.false in
    -- what the answer says of the record
    let updated : c.decode_answer.result.updated ≡ (decode_answer answer).updated =
    ap (λ (v : StepResult). v.updated) c.decode_answer.ensures in
    let refusal : number c.in-Err.refusal ≡ no_record_refusal (decode_answer answer).updated =
    sym (ap told c.in-Err.is) ∙ c.has_record.ensures ∙ ap no_record_refusal updated in
    let some = number_some c.in-Err.refusal in
    record {
      number = c.refused.ensures ∙ refusal ∙ sym (ap (λ (t : Bool). numbered t
          (no_record_refusal (decode_answer answer).updated)) valid);
      bytes = simp (c.refused.ensures, ne_eqb _ 0 some);
    }

pub returns : goal.returns
returns c =
    let answer = c.args.answer.now in
    let out = c.args.out.now in
    let valid : answer_record_arguments answer out ≡ true =
    sym c.are_answer_record_arguments.ensures ∙ c.if-not-are_answer_record_arguments.false in
    -- what the answer says of the record
    let updated : c.decode_answer.result.updated ≡ (decode_answer answer).updated =
    ap (λ (v : StepResult). v.updated) c.decode_answer.ensures in
    let size = sizes answer out valid in
    let l = (decode_answer answer).updated in
    let keys = c.part_of.ensures in
    let none : no_record_refusal l ≡ 0 =
    sym (sym (ap told c.in_default.is) ∙ c.has_record.ensures ∙ ap no_record_refusal updated) in
    record {
      number = sym (ap₂ numbered valid none);
      bytes =
          both_laid (record_head l) _ out record_head_size both_keys_size
          (length_head l (decoded_answer_sized answer))
          (ap length keys
          ∙ length_part answer_head_size both_keys_size answer (omega (arith, size.0))) size.1
          (c.put_record_head.ensures
          ∙ ap (λ (x : EntryLookup). over (record_head x) out) updated)
          c.copy_at.ensures
          ∙ ap (λ (x : List ℕ). record_head l ++ x) keys;
    }
