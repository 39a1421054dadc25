-- What a table makes of a block is linear, and is below the power of two of the table's length.
-- Assumes nothing.
use mathlib.Core.Path.{refl}
use mathlib.Core.List.{List, [], ◌∷◌}
use Prim.Native.Nat.{ℕ, suc, ◌+◌, ◌-◌, ◌*◌, ◌/◌, ◌^◌, ◌<◌}
use native.Mathlib.Nat.{mod-lt, pow-suc, add-zero, add-suc, suc-add, zero-add}
use native.Mathlib.Omega.{arith}
use lib.Dec.{lit<}
use lib.ListN.{length}
use lib.Pow.{pow_pos}
use Rattle.des.specs.Des.{bit, choose, permute}
use Rattle.des.proofs.Linear.{Linear, lin_id, lin_shr, lin_mod, lin_digits}

-- a choice begun with what is linear in the block is linear in the block
lin_choose : (w : ℕ) (t : List ℕ) {acc : ℕ → ℕ} → Linear acc → Linear (λ n. choose w (acc n) t n)
lin_choose w [] l = l
lin_choose w (i ∷ t) l =
    lin_choose w t (lin_digits 1 l (lin_mod 1 (lin_shr (w - i) lin_id)) (λ n. mod-lt (n / 2 ^ (w - i)) (pow_pos 1)))

pub lin_permute : (w : ℕ) (t : List ℕ) → Linear (permute w t)
lin_permute w t = lin_choose w t (record { law = λ a b. refl })

choose_lt : (w n : ℕ) (t : List ℕ) (acc k : ℕ) → acc < 2 ^ k → choose w acc t n < 2 ^ (k + length t)
choose_lt w n [] acc k h = rw add-zero h
choose_lt w n (i ∷ t) acc k h =
    rw (add-suc k (length t))
    (rw (suc-add k (length t)) at (choose_lt w n t (acc * 2 + bit w i n) (suc k) (rw (pow-suc 2 k) (omega arith))))

pub permute_lt : (w n : ℕ) (t : List ℕ) → permute w t n < 2 ^ length t
permute_lt w n t = rw zero-add at (choose_lt w n t 0 0 (lit< tt))
