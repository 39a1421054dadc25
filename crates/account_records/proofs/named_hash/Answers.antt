-- `account_records::named_hash` meets its contract.
-- Assumes nothing.
use mathlib.Core.Bool.{Bool, cond}
use mathlib.Core.Path.{sym, ap}
use borrow.Author.Tests.{eq-eqb, ne_eqb}
use Rattle.accounts.specs.declared.EntryLookup.{EntryLookup}
use Rattle.accounts.specs.declared.Hash.{Hash}
use Rattle.numbers.specs.Flags.{nt_flag}
use Rattle.account_records.proofs.named_hash.Goals as goal

abbrev chosen : EntryLookup → Bool → Hash
chosen l t = cond t l.entry.nt l.entry.lm

pub returns-then-hash-eq-NT : goal.returns-then-hash-eq-NT
returns-then-hash-eq-NT c =
    ap (chosen c.args.head)
    (sym (eq-eqb _ nt_flag c.if-hash-eq-NT.true))

pub returns : goal.returns
returns c =
    ap (chosen c.args.head)
    (sym (ne_eqb _ nt_flag c.if-hash-eq-NT.false))
