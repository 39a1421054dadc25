-- `accounts::schedules_for` meets its contract.
-- Assumes nothing.
use mathlib.Core.Bool.{Bool, cond}
use mathlib.Core.Path.{sym, ap, ◌∙◌}
use mathlib.Core.List.{List}
use Prim.Native.Nat.{ℕ}
use Rattle.credentials.specs.Credentials.{schedules_of}
use Rattle.accounts.specs.Account.{no_schedules}
use Rattle.accounts.specs.declared.Hash.{Hash}
use Rattle.accounts.specs.declared.Schedules.{Schedules}
use Rattle.accounts.proofs.schedules_for.Goals as goal

abbrev stored : List ℕ → Schedules
stored ks = record { keys = ks }

abbrev chosen : Hash → Bool → Schedules
chosen h b = cond b (stored (schedules_of h.octets)) no_schedules

pub returns-then-hash : goal.returns-then-hash
returns-then-hash c =
    let i = c in
    let h = i.args.hash in
    ap stored c.hash_schedules.ensures ∙ ap (chosen h) (sym i.if-hash.true)

pub returns : goal.returns
returns c =
    let i = c in
    let h = i.args.hash in
    c.no_schedules.ensures ∙ ap (chosen h) (sym i.if-hash.false)
