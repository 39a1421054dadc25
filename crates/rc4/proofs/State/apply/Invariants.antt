-- `rc4::State::apply` meets its contract. The loop's invariant: doing the rest from here gives what
-- is asked, and a is the entry that the next turn begins with.
-- Assumes nothing.
use Rattle.std.proofs.Common.{◌+◌, ◌%◌}
use Rattle.rc4.proofs.Turns.{Ready, Done}
use Rattle.rc4.proofs.State.apply.Given as goal

abbrev pub invariant-loop-octet : goal.invariant-loop-octet
invariant-loop-octet l =
    Done l.initial.self l.initial.data (record { s = l.self.s; i = l.i; j = l.j }) l.data l.octet-index × Ready l.self.s ((l.i + 1) % 256) l.a
