-- `message::number` meets its contract. The loop's invariant: value is the number of the digits that
-- were read.
-- Assumes nothing.
use Rattle.message.proofs.Loops.{Counted}
use Rattle.message.proofs.number.Given as goal

abbrev pub invariant-loop-digit : goal.invariant-loop-digit
invariant-loop-digit l = Counted l.base l.digits l.value l.digit-index
