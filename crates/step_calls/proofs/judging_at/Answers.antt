-- `step_calls::judging_at` meets its contract.
-- Assumes nothing.
use mathlib.Core.Bool.{Bool, true, false, cond}
use mathlib.Core.Path.{◌≡◌, refl, ap, ◌∙◌}
use Prim.Native.Nat.{ℕ, ◌+◌, ◌*◌}
use Rattle.layouts.specs.Records.{nt_keys_at, lm_keys_at}
use Rattle.verify.specs.Response.{uses_nt}
use Rattle.step_calls.proofs.judging_at.Goals as goal

-- the place, by which round keys are read
chosen : (t : Bool) → ◌≡◌ {A = ℕ} (42 + 8 * cond t 0 48) (cond t nt_keys_at lm_keys_at)
chosen true = refl
chosen false = refl

pub returns : goal.returns
returns c =
    let a = c.args in
    ap (λ (n : ℕ). 42 + 8 * n) c.where_both.ensures ∙ chosen (uses_nt a.flag a.nt)
