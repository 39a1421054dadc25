use mathlib.Core.Path.{sym, ap, ◌∙◌}
use Prim.Native.Nat.{ℕ}
use Rattle.issued.specs.Issued.{entries_in, ending}
use Rattle.issued.proofs.Counting.{none_contains}
use Rattle.issued.proofs.entries.Sought.has.Goals as goal

pub returns-else-self-last_of : goal.returns-else-self-last_of
returns-else-self-last_of c =
    let q = c.args.self.now in
    let cs = entries_in q.width q.run.now in
    c.if-self-last_of.false
    ∙ sym (none_contains cs c.args.entry.now
    (ap (λ (x : ℕ). ending x cs) (sym c.last_of.ensures) ∙ q.marked c.last_of.result c.if-self-last_of.false))
