-- `numbers::flags::is_hash_passed` meets its contract.
-- Assumes nothing.
use Rattle.numbers.proofs.flags.is_hash_passed.Goals as goal

pub returns-then-set : goal.returns-then-set
returns-then-set c = simp c.if-set.true

pub returns : goal.returns
returns c = simp c.if-set.false
