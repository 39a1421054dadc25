-- `step_calls::made_keys` meets its contract.
-- Assumes nothing.
use mathlib.Core.Bool.{Bool, true, false, not, ◌&&◌, cond, false≢true}
use mathlib.Core.List.{List, ◌++◌}
use mathlib.Core.Path.{◌≡◌, refl, ap, ap₂, ◌∙◌}
use Prim.Native.Nat.{ℕ}
use lib.ListN.{replicate}
use Rattle.credentials.specs.Credentials.{schedules_of, encode_keys}
use Rattle.accounts.specs.Account.{no_schedules, account_of}
use Rattle.accounts.specs.declared.Entry.{Entry}
use Rattle.accounts.specs.declared.Hash.{Hash}
use Rattle.accounts.specs.declared.Schedules.{Schedules}
use Rattle.layouts.specs.Keys.{both_keys_size, encode_schedules}
use Rattle.step_calls.proofs.made_keys.Goals as goal

-- without a hash they are zeros
zeros : (e : Entry) → (not e.nt.present && not e.lm.present) ≡ true
    → replicate both_keys_size 0 ≡ encode_schedules (account_of e)
unfolding encode_keys
zeros e = which e.nt.present e.lm.present
  where
    keys : Bool → Hash → List ℕ
    keys t h =
        encode_keys (cond {A = Schedules} t (record { keys = schedules_of h.octets }) no_schedules
        ).keys

    which : (s t : Bool) → (not s && not t) ≡ true
        → replicate both_keys_size 0 ≡ keys s e.nt ++ keys t e.lm
    which false false h = refl
    which true t h = absurd (false≢true h)
    which false true h = absurd (false≢true h)

pub returns-then-not-lm : goal.returns-then-not-lm
returns-then-not-lm c =
    zeros c.args.entry (ap₂ ◌&&◌ c.if-not-nt.true c.if-not-lm.true)

pub returns : goal.returns
returns c =
    let made = c in
    c.encode_schedules.ensures ∙ ap encode_schedules made.account_of.ensures
