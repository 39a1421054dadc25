-- `account_records::read_record` meets its contract.
-- Assumes nothing.
use mathlib.Core.Path.{◌≡◌, refl, sym, ap, ◌∙◌}
use mathlib.Core.Bool.{Bool, true}
use borrow.Author.Tests.{eqb-true}
use mathlib.Core.List.{List}
use Prim.Native.Nat.{ℕ}
use lib.ListN.{length}
use Rattle.accounts.specs.declared.EntryLookup.{EntryLookup}
use Rattle.octets.proofs.Laid.{filled}
use Rattle.octets.specs.Parts.{over}
use Rattle.layouts.specs.Call.{sized, numbered}
use Rattle.layouts.specs.Records.{decode_head, is_encoded_record}
use Rattle.layouts.proofs.Filling.{both}
use Rattle.layouts.proofs.RecordLaws.{SizedEntry, decoded_head_sized}
use Rattle.numbers.specs.Flags.{flags_of}
use Rattle.account_records.specs.Calls.{read_record_arguments}
use Rattle.account_records.proofs.read_record.Goals as goal

-- both buffers have the size of a hash
sizes : (bytes nt lm : List ℕ) → read_record_arguments bytes nt lm ≡ true
    → (length nt ≡ 16) × (length lm ≡ 16)
unfolding read_record_arguments
sizes bytes nt lm e =
    let h = both (sized 16 nt) (sized 16 lm) (both (is_encoded_record bytes) _ e).1 in
    (eqb-true (length nt) 16 h.0, eqb-true (length lm) 16 h.1)

pub returns-then-not-are_read_record_arguments : goal.returns-then-not-are_read_record_arguments
returns-then-not-are_read_record_arguments c =
    record {
      number =
          simp (sym c.are_read_record_arguments.ensures ∙ c.if-not-are_read_record_arguments.true);
      says = refl;
      nt_hash = refl;
      lm_hash = refl;
    }

pub returns : goal.returns
returns c =
    let second = c in
    let first = second in
    let flags = first in
    let decoded = flags in
    let passed = decoded in
    let a = passed.args in
    let bytes = a.account.now in
    let valid =
    sym passed.are_read_record_arguments.ensures ∙ passed.if-not-are_read_record_arguments.false in
    let s = sizes bytes a.nt.now a.lm.now valid in
    let e = decoded.decode_head-lookup.ensures in
    let v = decode_head bytes in
    let whole : SizedEntry v.entry = decoded_head_sized bytes in
    record {
      number = sym (ap (λ (t : Bool). numbered t 0) valid);
      says = flags.flags_of.ensures ∙ ap flags_of e;
      nt_hash =
          first.copy.ensures
          ∙ ap (λ (l : EntryLookup). over l.entry.nt.octets a.nt.now) e
          ∙ filled v.entry.nt.octets a.nt.now (s.0 ∙ sym whole.nt);
      lm_hash =
          second.copy-2.ensures
          ∙ ap (λ (l : EntryLookup). over l.entry.lm.octets a.lm.now) e
          ∙ filled v.entry.lm.octets a.lm.now (s.1 ∙ sym whole.lm);
    }
