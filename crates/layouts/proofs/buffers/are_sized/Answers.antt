-- `layouts::buffers::are_sized` meets its contract.
-- Assumes nothing.
use borrow.Author.Tests.{eq-eqb, ne_eqb}
use Rattle.layouts.proofs.buffers.are_sized.Goals as goal

pub returns-then-a-n : goal.returns-then-a-n
returns-then-a-n c = simp (eq-eqb _ _ c.if-a-n.true)

pub returns-else-a-n : goal.returns-else-a-n
returns-else-a-n c = simp (ne_eqb _ _ c.if-a-n.false)
