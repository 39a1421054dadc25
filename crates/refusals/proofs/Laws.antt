-- A chain of refusals that answers none: no test found fault, and so on behind it.
-- Assumes nothing.
use mathlib.Core.Bool.{Bool, true, false, cond}
use mathlib.Core.Path.{◌≡◌, refl}
use Prim.Native.Nat.{ℕ, ◌<◌}
use native.Mathlib.Omega.{arith}

pub none_refused : (bad : Bool) {number rest : ℕ} → 0 < number → cond bad number rest ≡ 0
    → (bad ≡ false) × (rest ≡ 0)
none_refused true some e = absurd (omega arith)
none_refused false some e = (refl, e)

-- neither of two tests finds fault
pub both_passed : (a : Bool) (m : ℕ) (b : Bool) (n : ℕ) → 0 < m → 0 < n
    → cond a m (cond b n 0) ≡ 0 → (a ≡ false) × (b ≡ false)
both_passed a m b n x y z =
    let rest = none_refused a x z in
    (rest.0, (none_refused b y rest.1).0)
