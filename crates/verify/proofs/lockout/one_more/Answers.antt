-- `verify::lockout::one_more` meets its contract, by whether there is room for one more.
-- Assumes nothing.
use borrow.Author.Rules.{rules}
use borrow.Author.Tests.{ltb-true}
use mathlib.Core.Bool.{Bool, true, false, cond}
use mathlib.Core.Path.{◌≡◌, refl}
use Prim.Native.Nat.{ℕ, suc, ◌+◌, ◌<◌}
use native.Mathlib.Omega.{arith}
use lib.Dec.{ltb}
use mir.Val.{bool_byte}
use Rattle.verify.specs.Lockout.{most_failures}
use Rattle.verify.proofs.lockout.one_more.Goals as goal

-- the sum is an octet
fits : (n : ℕ) (t : Bool) → ltb n most_failures ≡ t → n < 256 → n + bool_byte t < 256
fits n true e h = omega (arith, ltb-true n most_failures e)
fits n false e h = omega arith

sum : (n : ℕ) (t : Bool) → n + bool_byte t ≡ cond t (suc n) n
sum n true = omega arith
sum n false = omega arith

pub overflow_add-result : goal.overflow_add-result
overflow_add-result c = omega (arith, fits c.args.n (ltb c.args.n most_failures) refl (search rules))

pub returns : goal.returns
returns c = sum c.args.n (ltb c.args.n most_failures)
