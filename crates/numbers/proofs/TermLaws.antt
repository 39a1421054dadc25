-- The terms of an opening: each of the numbers that they are made of is read back, terms that say
-- nothing of a limit have 0, and those that say nothing of the change mean what they always meant.
-- Assumes nothing.
use mathlib.Core.Path.{◌≡◌}
use Prim.Native.Nat.{ℕ, ◌+◌, ◌*◌, ◌/◌, ◌%◌, ◌<◌}
use native.Mathlib.Omega.{arith}
use Rattle.numbers.specs.Terms.{limit_term, terms_kind, lm_term, change_term, retries_term}

module _ (limit kind change lm retries : ℕ) (k : kind < 256) (c : change < 64) (l : lm < 4)
    (r : retries < 256) where
  abbrev terms : ℕ
  terms = limit * 16777216 + kind * 65536 + change * 1024 + lm * 256 + retries

  pub terms_back : (limit_term terms ≡ limit) × (terms_kind terms ≡ kind)
      × (change_term terms ≡ change) × (lm_term terms ≡ lm) × (retries_term terms ≡ retries)
  terms_back = (
    omega (arith, k, c, l, r),
    omega (arith, k, c, l, r),
    omega (arith, c, l, r),
    omega (arith, l, r),
    omega (arith, r),
  )

-- as terms were before there was a limit
pub no_limit_lem : (terms : ℕ) → terms < 16777216 → limit_term terms ≡ 0
no_limit_lem terms h = omega (arith, h)

-- as terms were before they said which change: the whole octet was LM's
pub no_change : (terms : ℕ) → terms / 256 % 256 < 3
    → (lm_term terms ≡ terms / 256 % 256) × (change_term terms ≡ 0)
no_change terms h = (omega (arith, h), omega (arith, h))
