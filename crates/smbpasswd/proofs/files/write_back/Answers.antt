-- `smbpasswd::files::write_back` meets its contract.
-- Assumes nothing.
use mathlib.Core.List.{List}
use mathlib.Core.Path.{◌≡◌, refl, sym, ap, ◌∙◌}
use Prim.Native.Nat.{ℕ}
use Rattle.std.specs.Prelude.{Ok, Err}
use Rattle.accounts.specs.declared.Account.{Account}
use Rattle.smbpasswd.specs.declared.Misplaced.{Misplaced}
use Rattle.smbpasswd.specs.declared.Misplaced.TheVariants as misplaced
use Rattle.smbpasswd.specs.File.{Nowhere, Line, place_of}
use Rattle.smbpasswd.specs.Write.{written_at, written_in}
use Rattle.smbpasswd.specs.Inner.{place_in}
use Rattle.smbpasswd.proofs.Search.{placed_as, line_known}
use Rattle.smbpasswd.proofs.files.write_back.Goals as goal

unwritten : (a : Account) (now : ℕ) (f : List ℕ) (e : Misplaced) → f ≡ written_at a now f (place_in (Err e))
unwritten a now f (misplaced.Doubled at) = refl
unwritten a now f (misplaced.Malformed at) = refl

pub returns-in_err-place-clause-written : goal.returns-in_err-place-clause-written
unfolding written_in
returns-in_err-place-clause-written c =
    let a = c.args in
    unwritten a.account a.present a.file.now c.in_err-place.field-0.0
    ∙ sym (ap (written_at a.account a.present a.file.now) (placed_as (sym c.in_err-place.was ∙ c.locate.ensures)))

pub write_line-requires : goal.write_line-requires
write_line-requires c =
    let a = c.args in
    let p : place_of a.name.now a.file.now ≡ Line c.in-Some.at =
    placed_as (sym (ap Ok c.in-Some.is) ∙ sym c.in_ok-place.was ∙ c.locate.ensures) in
    let k = line_known a.name.now a.file.now c.in-Some.at p in
    record { within = k.within; account = k.account }

pub returns-in-Some-clause-written : goal.returns-in-Some-clause-written
unfolding written_in
returns-in-Some-clause-written c =
    let a = c.args in
    let p : place_of a.name.now a.file.now ≡ Line c.in-Some.at =
    placed_as (sym (ap Ok c.in-Some.is) ∙ sym c.in_ok-place.was ∙ c.locate.ensures) in
    c.write_line.ensures ∙ sym (ap (written_at a.account a.present a.file.now) p)

pub returns-in_default-clause-written : goal.returns-in_default-clause-written
unfolding written_in
returns-in_default-clause-written c =
    let a = c.args in
    let p : place_of a.name.now a.file.now ≡ Nowhere =
    placed_as (sym (ap Ok c.in_default.is) ∙ sym c.in_ok-place.was ∙ c.locate.ensures) in
    sym (ap (written_at a.account a.present a.file.now) p)
