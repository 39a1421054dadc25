-- `numbers::flags::flags_of` meets its contract.
-- Assumes nothing.
use mathlib.Core.Path.{◌≡◌, ap₂}
use Prim.Native.Nat.{ℕ, ◌+◌}
use native.Mathlib.Omega.{arith}
use Rattle.numbers.specs.Flags.{flags_of}
use Rattle.numbers.proofs.flags.flags_of.Goals as goal

plus : {a b c d : ℕ} → a ≡ b → c ≡ d → a + c ≡ b + d
plus e f = ap₂ ◌+◌ e f

pub overflow_add-marks : goal.overflow_add-marks
overflow_add-marks c = omega (arith, c.weighed-3.ensures.1, c.weighed-2.ensures.1)

pub overflow_add-marks-2 : goal.overflow_add-marks-2
overflow_add-marks-2 c =
    omega (
      arith,
      c.weighed-3.ensures.1,
      c.weighed-2.ensures.1,
      c.weighed.ensures.1,
    )

pub overflow_add-hashes : goal.overflow_add-hashes
overflow_add-hashes c =
    let three = c in
    omega (
      arith,
      c.weighed-5.ensures.1,
      three.weighed-3.ensures.1,
      three.weighed-2.ensures.1,
      three.weighed.ensures.1,
    )

pub overflow_add-hashes-2 : goal.overflow_add-hashes-2
overflow_add-hashes-2 c =
    let three = c in
    omega (
      arith,
      c.weighed-5.ensures.1,
      c.weighed-4.ensures.1,
      three.weighed-3.ensures.1,
      three.weighed-2.ensures.1,
      three.weighed.ensures.1,
    )

pub overflow_add-result : goal.overflow_add-result
overflow_add-result c =
    let five = c in
    let three = five in
    omega (
      arith,
      c.weighed-7.ensures.1,
      five.weighed-5.ensures.1,
      five.weighed-4.ensures.1,
      three.weighed-3.ensures.1,
      three.weighed-2.ensures.1,
      three.weighed.ensures.1,
    )

pub overflow_add-result-2 : goal.overflow_add-result-2
overflow_add-result-2 c =
    let five = c in
    let three = five in
    omega (
      arith,
      c.weighed-7.ensures.1,
      c.weighed-6.ensures.1,
      five.weighed-5.ensures.1,
      five.weighed-4.ensures.1,
      three.weighed-3.ensures.1,
      three.weighed-2.ensures.1,
      three.weighed.ensures.1,
    )

pub returns : goal.returns
unfolding flags_of
returns c =
    let five = c in
    let three = five in
    plus c.weighed-6.ensures.0
    (plus c.weighed-7.ensures.0
    (plus five.weighed-4.ensures.0
    (plus five.weighed-5.ensures.0
    (plus three.weighed.ensures.0
    (plus three.weighed-2.ensures.0 three.weighed-3.ensures.0)))))
