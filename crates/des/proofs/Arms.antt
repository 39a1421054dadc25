-- The last arm of a match on the numbers from 0 on: what is none of those named before, and not
-- beyond the last, is the last.
-- Assumes nothing.
use mathlib.Core.Path.{◌≡◌, sym}
use Prim.Native.Nat.{ℕ, zero, suc, ◌≤◌, ◌<◌}
use native.Mathlib.Omega.{arith}
use lib.Arith.{lt_of_le-ne}

-- i is none of the numbers below k
abbrev pub NoneBelow : ℕ → ℕ → Type 0
NoneBelow zero i = Unit {0}
NoneBelow (suc k) i = NoneBelow k i × (i ≡ k → ⊥)

beyond : (k i : ℕ) → NoneBelow k i → k ≤ i
beyond zero i h = omega arith
beyond (suc k) i h = lt_of_le-ne (beyond k i h.0) (λ e. h.1 (sym e))

pub last_arm : (k i : ℕ) → i < suc k → NoneBelow k i → i ≡ k
last_arm k i l h = omega (arith, beyond k i h)
