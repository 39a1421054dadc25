-- `smbpasswd::files::after_line` meets its contract.
-- Assumes nothing.
use mathlib.Core.List.{List}
use mathlib.Core.Path.{sym, ap, ◌∙◌}
use Prim.Native.Nat.{ℕ}
use Rattle.octets.specs.Parts.{agrees}
use Rattle.smbpasswd.specs.Line.{field, is_account}
use Rattle.smbpasswd.specs.File.{located}
use Rattle.smbpasswd.proofs.Search.{located_back, after_comment, after_bad, after_named}
use Rattle.smbpasswd.proofs.Search.{after_other}
use Rattle.smbpasswd.proofs.files.after_line.Goals as goal

pub returns-then-is_comment : goal.returns-then-is_comment
returns-then-is_comment c =
    sym (located_back c.args.place)
    ∙ ap located (after_comment _ _ _ _ (sym c.is_comment.ensures ∙ c.if-is_comment.true))

pub returns-in_default : goal.returns-in_default
returns-in_default c =
    c.one_bad.ensures
    ∙ ap located (after_bad _ _ _ _ (sym c.is_comment.ensures ∙ c.if-is_comment.false) c.in_default.ensures)

pub returns-then-agree : goal.returns-then-agree
returns-then-agree c =
    let line = c.in-Some.ensures in
    let names = c.agree.ensures ∙ ap (λ (x : List ℕ). agrees x c.args.name.now) (c.name.ensures ∙ ap (field 0) line) in
    c.one_more.ensures
    ∙ ap located (after_named _ _ _ _ (sym c.is_comment.ensures ∙ c.if-is_comment.false)
    (ap is_account (sym line) ∙ c.in-Some.entry.formed) (sym names ∙ c.if-agree.true))

pub returns : goal.returns
returns c =
    let line = c.in-Some.ensures in
    let names = c.agree.ensures ∙ ap (λ (x : List ℕ). agrees x c.args.name.now) (c.name.ensures ∙ ap (field 0) line) in
    sym (located_back c.args.place)
    ∙ ap located (after_other _ _ _ _ (sym c.is_comment.ensures ∙ c.if-is_comment.false)
    (ap is_account (sym line) ∙ c.in-Some.entry.formed) (sym names ∙ c.if-agree.false))
