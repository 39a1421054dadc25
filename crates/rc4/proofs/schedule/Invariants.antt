-- `rc4::schedule` meets its contract. The loop's invariant: n rounds are done, and a is the entry
-- that the next begins with; after the last that is entry 0.
-- Assumes nothing.
use Rattle.std.proofs.Common.{◌≡◌, ◌%◌}
use Rattle.rc4.specs.declared.State.{State}
use Rattle.rc4.specs.Rc4.{mixed}
use Rattle.rc4.proofs.Turns.{Ready}
use Rattle.rc4.proofs.schedule.Given as goal

abbrev pub invariant-loop-n : goal.invariant-loop-n
invariant-loop-n l =
    (◌≡◌ {A = State} (record { s = l.s; i = l.n; j = l.j }) (mixed l.key l.n)) × Ready l.s (l.n % 256) l.a
