-- `account_files::find_account` meets its contract.
-- Assumes nothing.
use mathlib.Core.Path.{refl, sym, ap, ◌∙◌}
use Rattle.std.specs.Prelude.{Ok}
use borrow.Author.Tests.{eq-eqb, ne_eqb}
use Rattle.layouts.specs.Records.{encode_record}
use Rattle.layouts.proofs.Filling.{fills_as, refused_argument}
use Rattle.smbpasswd.specs.File.{place_of, find_in}
use Rattle.smbpasswd.proofs.Places.{told_by}
use Rattle.account_files.proofs.find_account.Goals as goal

pub returns-then-out-ne-RECORD_SIZE : goal.returns-then-out-ne-RECORD_SIZE
returns-then-out-ne-RECORD_SIZE c = record { answer = refused_argument (ne_eqb _ _ c.if-out-ne-RECORD_SIZE.true); offsets = rw (ne_eqb _ _ c.if-out-ne-RECORD_SIZE.true) }

pub returns-in-Ok-Some : goal.returns-in-Ok-Some
unfolding find_in
returns-in-Ok-Some c =
    let a = c.args in
    let t = told_by a.present a.max_age a.file.now (place_of a.name.now a.file.now) (sym (c.in-Ok-Some.is ∙ ap Ok c.in-Ok-Some.field-0-is) ∙ c.find.ensures) in
    record {
      answer = fills_as refl (sym t.number_is) (ap encode_record (c.found.ensures ∙ sym t.lookup_is)) c.put_record.ensures;
      offsets = rw (eq-eqb _ _ c.if-out-ne-RECORD_SIZE.false) (sym t.offset_is);
    }

pub returns-in-Ok-None : goal.returns-in-Ok-None
unfolding find_in
returns-in-Ok-None c =
    let a = c.args in
    let t = told_by a.present a.max_age a.file.now (place_of a.name.now a.file.now) (sym (c.in-Ok-None.is ∙ ap Ok c.in-Ok-None.field-0-is) ∙ c.find.ensures) in
    record {
      answer = fills_as refl (sym t.number_is) (ap encode_record (c.not_found.ensures ∙ sym t.lookup_is)) c.put_record-in-Ok-None.ensures;
      offsets = rw (eq-eqb _ _ c.if-out-ne-RECORD_SIZE.false) (sym t.offset_is);
    }
