-- `smbpasswd::summaries::count_line` meets its contract.
-- Assumes nothing.
use mathlib.Core.List.{List}
use mathlib.Core.Path.{refl, sym, ap, ◌∙◌}
use Prim.Native.Nat.{ℕ, ◌+◌}
use Rattle.smbpasswd.specs.Line.{letter_d, letter_x, field, is_absent, is_account}
use Rattle.smbpasswd.specs.Record.{has_flag, time_in, is_expired, account_in}
use Rattle.smbpasswd.proofs.Counting.{same, comment_counted, bad_counted, account_counted}
use Rattle.smbpasswd.proofs.summaries.count_line.Goals as goal

pub returns-then-is_comment : goal.returns-then-is_comment
returns-then-is_comment c = comment_counted _ _ _ _ (sym c.is_comment.ensures ∙ c.if-is_comment.true)

pub returns-in_default : goal.returns-in_default
returns-in_default c =
    bad_counted _ _ _ _ (sym c.is_comment.ensures ∙ c.if-is_comment.false) c.in_default.ensures

pub returns : goal.returns
unfolding account_in
returns c =
    let k = c.args.k in
    let line = c.in-Some.ensures in
    same refl refl (ap (λ (x : ℕ). k.disabled + x) c.from.ensures) (ap (λ (x : ℕ). k.expired + x) c.from-2.ensures)
    (ap (λ (x : ℕ). k.no_nt + x) c.from-3.ensures)
    ∙ account_counted c.args.clock.present c.args.clock.max_age k c.args.line.now
    (sym c.is_comment.ensures ∙ c.if-is_comment.false) (ap is_account (sym line) ∙ c.in-Some.entry.formed)
    (c.is_disabled.ensures ∙ ap (λ (l : List ℕ). has_flag letter_d (field 4 l)) line)
    (c.has_expired.ensures
    ∙ ap (λ (l : List ℕ). is_expired c.args.clock.present c.args.clock.max_age (has_flag letter_x (field 4 l)) (time_in (field 5 l))) line)
    (c.lacks_nt.ensures ∙ ap (λ (l : List ℕ). is_absent (field 3 l)) line)
