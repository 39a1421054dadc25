-- `des::rounds::crypt_three` meets its contract.
-- Assumes nothing.
use Rattle.des.proofs.Round.{AfterRounds}
use Rattle.des.proofs.rounds.crypt_three.Given as goal

abbrev pub invariant-loop-i : goal.invariant-loop-i
invariant-loop-i g l =
    let keys = g.K.RoundKeys.keys in
    let h = l.initial.h1 in
    AfterRounds (keys l.k1) h.l h.r l.i l.h1.l l.h1.r
    × AfterRounds (keys l.k2) h.l h.r l.i l.h2.l l.h2.r
    × AfterRounds (keys l.k3) h.l h.r l.i l.h3.l l.h3.r
