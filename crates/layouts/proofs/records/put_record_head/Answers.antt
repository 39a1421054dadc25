-- `layouts::records::put_record_head` meets its contract.
-- Assumes nothing.
use mathlib.Core.Path.{ap, ◌∙◌}
use mathlib.Core.List.{List}
use Prim.Native.Nat.{ℕ}
use native.Mathlib.Omega.{arith}
use Rattle.octets.specs.Parts.{over}
use Rattle.layouts.specs.Values.{record_kind}
use Rattle.layouts.specs.Records.{encode_entry_lookup}
use Rattle.layouts.proofs.RecordLaws.{SizedEntry, length_entry_lookup}
use Rattle.layouts.proofs.Putting.{front}
use borrow.Author.Rules.{rules}
use Rattle.layouts.proofs.records.put_record_head.Goals as goal

pub returns : goal.returns
returns c =
    let sized : SizedEntry c.args.head.entry =
    record { nt = search rules; lm = search rules } in
    let v = c.args.head in
    c.lay_value.ensures
    ∙ ap (λ (l : List ℕ). over l c.args.out.now)
    (front record_kind 40 (encode_entry_lookup v) (length_entry_lookup v sized) (omega arith)
    (c.encode_entry_lookup-body.ensures ∙ ap (over (encode_entry_lookup v))
    c.empty_room.ensures))
