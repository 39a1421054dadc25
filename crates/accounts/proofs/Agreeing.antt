-- The round keys agree with the hashes in every record that is made or updated (document 02,
-- request 2026-10): "after every operation that makes a record or is lent one in which they agree".
-- Assumes nothing.
use mathlib.Core.Bool.{Bool, true, cond}
use mathlib.Core.Path.{◌≡◌, ap}
use Prim.Native.Nat.{ℕ}
use Rattle.credentials.specs.Credentials.{schedules_of}
use Rattle.accounts.specs.Account.{no_schedules, schedules_for, account_of, changed, with_failures}
use Rattle.accounts.specs.Account.{Agree, AgreeIn, found}
use Rattle.accounts.specs.declared.Account.{Account}
use Rattle.accounts.specs.declared.Entry.{Entry}
use Rattle.accounts.specs.declared.Hash.{Hash}
use Rattle.accounts.specs.declared.Schedules.{Schedules}

-- a hash's own
pub own_schedules : (h : Hash) → h.present ≡ true → (schedules_for h).keys ≡ schedules_of h.octets
own_schedules h there =
    ap (λ (b : Bool). (cond {A = Schedules} b (record { keys = schedules_of h.octets }) no_schedules).keys)
    there

-- a record that is made, of whatever entry
pub made_agrees : (e : Entry) → Agree (account_of e)
made_agrees e = record { nt = own_schedules e.nt; lm = own_schedules e.lm }

-- the record of an accepted change
pub changed_agrees : (e : Entry) (nt lm : Hash) → Agree (changed e nt lm)
changed_agrees e nt lm = made_agrees _

-- a record with another count, where they agreed before
pub counted_agrees : (n : ℕ) (a : Account) → Agree a → Agree (with_failures n a)
counted_agrees n a g = record { nt = g.nt; lm = g.lm }

-- a lookup
pub found_agrees : (a : Account) → Agree a → AgreeIn (found a)
found_agrees a g there = g
