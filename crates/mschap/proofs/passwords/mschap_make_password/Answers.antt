-- `mschap::passwords::mschap_make_password` meets its contract.
-- Assumes nothing.
use mathlib.Core.Path.{refl, sym, ap, ◌∙◌}
use Rattle.refusals.specs.Refusal.{told}
use Rattle.unicode_text.specs.Password.{octets_of}
use Rattle.layouts.specs.Passwords.{encode_password}
use Rattle.layouts.proofs.Filling.{fills_as, refused_fills}
use Rattle.mschap.proofs.passwords.mschap_make_password.Goals as goal

pub returns-in-Ok : goal.returns-in-Ok
returns-in-Ok c =
    let e = sym c.in-Ok.is ∙ c.password_of.ensures in
    fills_as refl (ap told e) (ap encode_password (c.as_slice.ensures ∙ ap octets_of e)) c.put_password.ensures

pub returns-in-Err : goal.returns-in-Err
returns-in-Err c =
    let e = sym c.in-Err.is ∙ c.password_of.ensures in
    fills_as refl (ap told e) refl (refused_fills c.in-Err.refusal c.refuse.ensures)
