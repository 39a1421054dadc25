-- `account_records::named_at` meets its contract.
-- Assumes nothing.
use mathlib.Core.Bool.{Bool, cond}
use mathlib.Core.Path.{sym, ap}
use Prim.Native.Nat.{ℕ}
use borrow.Author.Tests.{eq-eqb, ne_eqb}
use Rattle.layouts.specs.Records.{nt_keys_at, lm_keys_at}
use Rattle.numbers.specs.Flags.{nt_flag}
use Rattle.account_records.proofs.named_at.Goals as goal

abbrev chosen : Bool → ℕ
chosen t = cond t nt_keys_at lm_keys_at

pub returns-then-hash-eq-NT : goal.returns-then-hash-eq-NT
returns-then-hash-eq-NT c = ap chosen (sym (eq-eqb _ nt_flag c.if-hash-eq-NT.true))

pub returns-else-hash-eq-NT : goal.returns-else-hash-eq-NT
returns-else-hash-eq-NT c = ap chosen (sym (ne_eqb _ nt_flag c.if-hash-eq-NT.false))
