-- `smbpasswd::lines::Lines::next` meets its contract.
-- Assumes nothing.
use mathlib.Core.List.{List, ◌∷◌}
use mathlib.Core.Path.{sym, ap, ◌∙◌}
use Prim.Native.Nat.{ℕ, ◌+◌}
use native.Mathlib.Omega.{arith}
use lib.ListN.{length}
use Rattle.smbpasswd.specs.Inner.{placed, placed_at}
use Rattle.smbpasswd.proofs.LineLaws.{placed_step, placed_end}
use Rattle.smbpasswd.proofs.lines.LinesIterator.next.Goals as goal

pub returns-then-self-at-clause-steps : goal.returns-then-self-at-clause-steps
returns-then-self-at-clause-steps c =
    let e = placed_end c.args.self.now.file.now c.args.self.now.at c.if-self-at.true in (e, e)

pub returns-clause-steps : goal.returns-clause-steps
returns-clause-steps c =
    let s = c.args.self.now in
    placed_step s.file.now s.at c.if-self-at.false
    ∙ ap (λ (l : List ℕ). placed s.at l ∷ placed_at (s.at + length l + 1) s.file.now)
    (sym c.line_at-line.ensures)

pub returns-clause-goes : goal.returns-clause-goes
returns-clause-goes c =
    let s = c.args.self.now in
    let e = ap length (placed_step s.file.now s.at c.if-self-at.false
    ∙ ap (λ (l : List ℕ). placed s.at l ∷ placed_at (s.at + length l + 1) s.file.now)
    (sym c.line_at-line.ensures)) in
    record {
      on = λ f. (tt, tt, omega (arith, e));
      keeps = tt;
      rests = λ f. tt;
    }
