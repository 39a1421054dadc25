-- `layouts::answers::encode_result` meets its contract.
-- Assumes nothing.
use mathlib.Core.Path.{refl, ap, ap₂, ◌∙◌}
use mathlib.Core.List.{[], ◌∷◌}
use lib.ListN.{length}
use Rattle.octets.specs.Parts.{over}
use Rattle.layouts.specs.Records.{flag, encode_entry_lookup}
use Rattle.layouts.proofs.AnswerLaws.{result_pieces}
use Rattle.layouts.proofs.Putting.{first, next, last}
use Rattle.layouts.proofs.answers.encode_result.Goals as goal

pub returns : goal.returns
returns c =
    let fault = c in
    let fault-number = fault in
    let reason = fault-number in
    let number = reason in
    let repeated = number in
    let empty = repeated in
    let v = empty.args.res in
    let room = empty.empty_room.result.bytes in
    let two = number.u16_to_be.ensures in
    let s₁ = first 0 room (flag v.repeated ∷ []) 1 refl repeated.put_flag-room.ensures in
    let s₂ = next s₁ number.u16_to_be.result 2 (ap length two) reason.put_octets-room.ensures in
    let s₃ = next s₂ (fault-number.fault_number.result ∷ []) 1 refl fault.put_byte-room.ensures in
    last s₃ (encode_entry_lookup v.updated) c.encode_entry_lookup.ensures
    ∙ ap₂ over (result_pieces v two fault-number.fault_number.ensures)
    empty.empty_room.ensures
