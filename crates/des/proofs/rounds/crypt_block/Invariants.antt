-- `des::rounds::crypt_block` meets its contract.
-- Assumes nothing.
use Rattle.des.proofs.Round.{AfterRounds}
use Rattle.des.proofs.rounds.crypt_block.Given as goal

abbrev pub invariant-loop-i : goal.invariant-loop-i
invariant-loop-i g l = AfterRounds (g.K.RoundKeys.keys l.keys) l.initial.halves.l l.initial.halves.r l.i l.halves.l l.halves.r
