-- `verify::changes_one::check_change_one` meets its contract.
-- Assumes nothing.
use mathlib.Core.Bool.{Bool, cond}
use mathlib.Core.Path.{sym, ap, ◌∙◌}
use borrow.Author.Tests.{eq-eqb, ne_eqb}
use Prim.Native.Nat.{ℕ}
use mathlib.Core.List.{List}
use Rattle.accounts.specs.declared.Entry.{Entry}
use Rattle.packets.specs.declared.ChangeOne.{ChangeOne}
use Rattle.verify.specs.declared.Terms.{Terms}
use Rattle.verify.specs.ChangeOne.{checked_nt, checked_lm, checked_change_one}
use Rattle.verify.specs.Change.{CheckedChange}
use Rattle.verify.proofs.changes_one.check_change_one.Goals as goal

abbrev chosen : Terms → Entry → List ℕ → ChangeOne → Bool → CheckedChange
chosen terms kept challenge fields t =
    cond t (checked_nt kept challenge fields) (checked_lm terms kept challenge fields)

pub returns-then-fields-eq1 : goal.returns-then-fields-eq1
unfolding checked_change_one
returns-then-fields-eq1 c =
    let a = c.args in
    c.check_nt.ensures
    ∙ ap (chosen a.terms a.kept a.challenge a.fields) (sym (eq-eqb _ _ c.if-fields-eq1.true))

pub returns : goal.returns
unfolding checked_change_one
returns c =
    let a = c.args in
    c.check_lm.ensures
    ∙ ap (chosen a.terms a.kept a.challenge a.fields) (sym (ne_eqb _ _ c.if-fields-eq1.false))
