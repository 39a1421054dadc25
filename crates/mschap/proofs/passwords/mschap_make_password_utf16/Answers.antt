-- `mschap::passwords::mschap_make_password_utf16` meets its contract.
-- Assumes nothing.
use mathlib.Core.Path.{refl, sym, ap, ◌∙◌}
use mathlib.Core.Bool.{Bool, cond}
use Rattle.refusals.specs.declared.Refusal.TheVariants.{Input}
use Rattle.layouts.proofs.Filling.{fills_as, refused_fills}
use Rattle.mschap.specs.Passwords.{characters_refusal}
use Rattle.mschap.proofs.passwords.mschap_make_password_utf16.Goals as goal

pub returns-then-is_bad_nt_password : goal.returns-then-is_bad_nt_password
unfolding characters_refusal
returns-then-is_bad_nt_password c =
    let bad = sym c.is_bad_nt_password.ensures ∙ c.if-is_bad_nt_password.true in
    fills_as refl (ap (λ (t : Bool). cond t 8 0) (sym bad)) refl
    (refused_fills Input c.refuse.ensures)

pub returns : goal.returns
unfolding characters_refusal
returns c =
    let good = sym c.is_bad_nt_password.ensures ∙ c.if-is_bad_nt_password.false in
    fills_as refl (ap (λ (t : Bool). cond t 8 0) (sym good)) refl c.put_password.ensures
