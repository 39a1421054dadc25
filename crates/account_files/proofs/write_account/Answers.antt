-- `account_files::write_account` meets its contract.
-- Assumes nothing.
use mathlib.Core.Bool.{true}
use mathlib.Core.Path.{◌≡◌, refl, sym, ap, ◌∙◌}
use mathlib.Core.List.{List}
use Prim.Native.Nat.{ℕ}
use borrow.Author.Tests.{not-true, not-false}
use Rattle.accounts.specs.Account.{with_schedules}
use Rattle.accounts.specs.declared.Account.{Account}
use Rattle.accounts.specs.declared.Entry.{Entry}
use Rattle.accounts.specs.declared.EntryLookup.{EntryLookup}
use Rattle.accounts.specs.declared.Schedules.{Schedules}
use Rattle.layouts.specs.Keys.{keys_at}
use Rattle.layouts.specs.Records.{nt_keys_at, lm_keys_at, is_encoded_record}
use Rattle.smbpasswd.specs.File.{Place, Nowhere, Line, Doubled, Malformed, place_of}
use Rattle.smbpasswd.specs.Write.{changed_line, written_at, written_in}
use Rattle.account_files.proofs.write_account.Goals as goal

-- the hashes alone are written, whatever round keys stand beside them
same_written : (name : List ℕ) (e : Entry) (s t u v : Schedules) (now : ℕ) (file : List ℕ)
    → written_in name (with_schedules e s t) now file ≡ written_in name (with_schedules e u v) now file
unfolding written_in changed_line
same_written name e s t u v now file = which (place_of name file)
  where
    which : (p : Place) → written_at (with_schedules e s t) now file p
        ≡ written_at (with_schedules e u v) now file p
    which Nowhere = refl
    which (Line at) = refl
    which (Doubled at) = refl
    which (Malformed at) = refl

pub returns-then-not-is_encoded_record : goal.returns-then-not-is_encoded_record
returns-then-not-is_encoded_record c =
    let bad = sym c.is_encoded_record.ensures ∙ c.if-not-is_encoded_record.true in
    record { number = rw bad; written = rw bad; offsets = rw bad }

pub returns-then-not-lookup : goal.returns-then-not-lookup
returns-then-not-lookup c =
    let good : is_encoded_record c.args.bytes.now ≡ true =
    sym c.is_encoded_record.ensures ∙ c.if-not-is_encoded_record.false in
    let none = sym (ap (λ (l : EntryLookup). l.found) c.decode_head-lookup.ensures)
    ∙ not-true _ c.if-not-lookup.true in
    record { number = rw (good, none) (c.refused.ensures); written = rw (good, none); offsets = rw (good, none) }

pub returns : goal.returns
returns c =
    let a = c.args in
    let bytes = a.bytes.now in
    let good : is_encoded_record bytes ≡ true =
    sym c.is_encoded_record.ensures ∙ c.if-not-is_encoded_record.false in
    let e = c.decode_head-lookup.ensures in
    let some = sym (ap (λ (l : EntryLookup). l.found) e) ∙ not-false _ c.if-not-lookup.false in
    let call = c.write_back.ensures in
    let written : Account → List ℕ = λ x. written_in a.name.now x a.present a.file.now in
    let same = ap written c.with_schedules-account.ensures
    ∙ same_written a.name.now c.decode_head-lookup.result.entry _ _ (keys_at nt_keys_at bytes)
    (keys_at lm_keys_at bytes) a.present a.file.now
    ∙ ap (λ (l : EntryLookup). written (with_schedules l.entry (keys_at nt_keys_at bytes)
    (keys_at lm_keys_at bytes))) e in
    record {
      number = rw (good, some) call.number;
      written = rw (good, some) (call.written ∙ same);
      offsets = rw (good, some) call.offsets;
    }
