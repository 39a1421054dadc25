-- `account_records::is_one_hash` meets its contract.
-- Assumes nothing.
use borrow.Author.Tests.{eq-eqb, ne_eqb}
use Rattle.account_records.proofs.is_one_hash.Goals as goal

pub returns-then-hash-eq-NT : goal.returns-then-hash-eq-NT
returns-then-hash-eq-NT c = simp (eq-eqb _ 2 c.if-hash-eq-NT.true)

pub returns-else-hash-eq-NT : goal.returns-else-hash-eq-NT
returns-else-hash-eq-NT c = simp (ne_eqb _ 2 c.if-hash-eq-NT.false)
