-- `packets::responses::is_bad_name` meets its contract.
-- Assumes nothing.
use borrow.Author.Tests.{lt-ltb, le-ltb}
use Rattle.packets.proofs.responses.is_bad_name.Goals as goal

pub returns-then-name-lt1 : goal.returns-then-name-lt1
returns-then-name-lt1 c = simp (lt-ltb _ _ c.if-name-lt1.true)

pub returns-else-name-lt1 : goal.returns-else-name-lt1
returns-else-name-lt1 c = simp (le-ltb _ _ c.if-name-lt1.false)
