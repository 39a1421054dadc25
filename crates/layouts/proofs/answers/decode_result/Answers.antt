-- `layouts::answers::decode_result` meets its contract.
-- Assumes nothing.
use mathlib.Core.Path.{ap, ap₂, ◌∙◌}
use mathlib.Core.List.{[], ◌∷◌}
use Prim.Native.Nat.{ℕ}
use Rattle.octets.specs.Numbers.{from_be}
use Rattle.verify.specs.Faults.{fault_with}
use Rattle.layouts.specs.Records.{is_flag, decode_entry_lookup}
use Rattle.layouts.specs.Answers.{decode_result}
use Rattle.layouts.proofs.AnswerLaws.{result_same}
use Rattle.layouts.proofs.answers.decode_result.Goals as goal

pub returns : goal.returns
unfolding decode_result
returns c =
    let part = c in
    let fault = part in
    let number = fault in
    let reason = number in
    let second = reason in
    let first = second in
    let repeated = first in
    result_same (repeated.is_flag-repeated.ensures ∙ ap is_flag repeated.octet.ensures)
    (reason.u16_from_be-reason.ensures
    ∙ ap₂ (λ (a b : ℕ). from_be (a ∷ b ∷ [])) first.octet-2.ensures second.octet-3.ensures)
    (fault.fault_with-fault.ensures ∙ ap fault_with number.octet-4.ensures)
    (c.decode_entry_lookup-updated.ensures ∙ ap decode_entry_lookup part.part_of.ensures)
