-- `numbers::flags::weighed` meets its contract.
-- Assumes nothing.
use mathlib.Core.Path.{◌≡◌, sym}
use mathlib.Core.Bool.{Bool, true, false, false≢true}
use Prim.Native.Nat.{ℕ, ◌*◌, ◌≤◌}
use native.Mathlib.Omega.{arith}
use Rattle.layouts.specs.Records.{flag}
use Rattle.numbers.proofs.flags.weighed.Goals as goal

chosen : (weight : ℕ) (b : Bool) → b ≡ true → (weight ≡ weight * flag b) × (weight ≤ weight)
chosen weight true e = (omega arith, omega arith)
chosen weight false e = absurd (false≢true e)

not_chosen : (weight : ℕ) (b : Bool) → b ≡ false → (0 ≡ weight * flag b) × (0 ≤ weight)
not_chosen weight true e = absurd (false≢true (sym e))
not_chosen weight false e = (omega arith, omega arith)

pub returns-then-b : goal.returns-then-b
returns-then-b c = let a = c.args in chosen a.weight a.b c.if-b.true

pub returns : goal.returns
returns c = let a = c.args in not_chosen a.weight a.b c.if-b.false
