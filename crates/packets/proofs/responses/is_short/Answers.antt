-- `packets::responses::is_short` meets its contract.
-- Assumes nothing.
use mathlib.Core.Bool.{Bool, true, false}
use mathlib.Core.Path.{◌≡◌, refl, sym, ◌∙◌}
use Prim.Native.Nat.{ℕ, ◌+◌, ◌-◌, ◌≤◌}
use native.Mathlib.Omega.{arith}
use borrow.Author.Tests.{lt-ltb, le-ltb, ltb-true, ltb-false}
use lib.Dec.{ltb}
use lib.ListN.{length}
use Rattle.packets.proofs.responses.is_short.Goals as goal

-- the room behind the first octets is tested, so that no sum can overflow
behind : (front n k : ℕ) → front ≤ n → ltb (n - front) k ≡ ltb n (front + k)
behind front n k h = which (ltb (n - front) k) refl
  where
    which : (b : Bool) → ltb (n - front) k ≡ b → b ≡ ltb n (front + k)
    which true p = sym (lt-ltb n (front + k) (omega (arith, ltb-true (n - front) k p)))
    which false p = sym (le-ltb n (front + k) (omega (arith, ltb-false (n - front) k p)))

pub returns-then-out-lt-NAME_OFFSET : goal.returns-then-out-lt-NAME_OFFSET
returns-then-out-lt-NAME_OFFSET c =
    let a = c.args in
    let n = length a.out.now in
    let k = length a.name.now in
    lt-ltb n 54 c.if-out-lt-NAME_OFFSET.true ∙ sym (lt-ltb n (54 + k) (omega (arith, c.if-out-lt-NAME_OFFSET.true)))

pub returns-else-out-lt-NAME_OFFSET : goal.returns-else-out-lt-NAME_OFFSET
returns-else-out-lt-NAME_OFFSET c = behind 54 _ _ c.if-out-lt-NAME_OFFSET.false
