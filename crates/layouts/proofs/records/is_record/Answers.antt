-- `layouts::records::is_record` meets its contract.
-- Assumes nothing.
use mathlib.Core.Path.{sym, ap, ◌∙◌}
use mathlib.Core.Bool.{Bool, ◌&&◌}
use native.Mathlib.Omega.{arith}
use borrow.Author.Tests.{eq-eqb, ne_eqb}
use Rattle.octets.specs.Parts.{part, over, agrees}
use Rattle.layouts.specs.Values.{record_kind}
use Rattle.layouts.specs.Records.{encode_entry_lookup, record_head}
use Rattle.layouts.proofs.RecordLaws.{SizedEntry, length_entry_lookup}
use Rattle.layouts.proofs.Putting.{compared}
use borrow.Author.Rules.{rules}
use Rattle.layouts.proofs.records.is_record.Goals as goal

-- as many bytes: the front decides
pub returns-then-bytes-eq-RECORD_SIZE : goal.returns-then-bytes-eq-RECORD_SIZE
returns-then-bytes-eq-RECORD_SIZE c =
    let entry-sized : SizedEntry c.args.head.entry =
    record { nt = search rules; lm = search rules } in
    let v = c.args.head in
    compared record_kind 40 (omega arith) (encode_entry_lookup v)
    (length_entry_lookup v entry-sized)
    (c.encode_entry_lookup-body.ensures ∙ ap (over (encode_entry_lookup v))
    c.empty_room.ensures) _ c.is_value.ensures
    ∙ ap (agrees (record_head v)) c.part_of-front.ensures
    ∙ sym (ap (λ (t : Bool). t && agrees (record_head v) (part 0 42 c.args.bytes.now))
    (eq-eqb _ _ c.if-bytes-eq-RECORD_SIZE.true))

pub returns-else-bytes-eq-RECORD_SIZE : goal.returns-else-bytes-eq-RECORD_SIZE
returns-else-bytes-eq-RECORD_SIZE c = simp (ne_eqb _ _ c.if-bytes-eq-RECORD_SIZE.false)
