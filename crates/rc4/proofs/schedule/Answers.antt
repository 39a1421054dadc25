use Rattle.std.proofs.Common.{ℕ, List, refl, length, get_or, sym, ap, mod-eq_of_lt, le_antisymm}
use Rattle.std.proofs.Common.{rules}
use Rattle.rc4.specs.declared.State.{State}
use Rattle.rc4.specs.Rc4.{upto, mixed, started}
use Rattle.rc4.proofs.Turns.{ready_at, ready_turn, mixed_turn}
use Rattle.rc4.proofs.schedule.Goals as goal

pub loop-n-init : goal.loop-n-init
unfolding mixed upto
loop-n-init c =
    let e = c.identify.ensures in
    (cc, record { long = ap length e; first = ap (λ (l : List ℕ). get_or l 0 0) (sym e) })

pub put-requires : goal.put-requires
put-requires c = (ready_at c.loop-n.invariant.1 (sym (mod-eq_of_lt c.loop-n-test.true))).first

pub loop-n-preserved : goal.loop-n-preserved
loop-n-preserved c =
    let inv = c.loop-n.invariant in
    let l = c.loop-n-test.true in
    let r = ready_at inv.1 (sym (mod-eq_of_lt l)) in (
      mixed_turn _ inv.0 r refl refl c.put.ensures.0,
      ready_turn r l (search rules) c.put.ensures.0 refl c.seen-a.ensures,
    )

pub returns : goal.returns
unfolding started
returns c =
    rw (le_antisymm c.loop-n.auto.n-end c.loop-n-test.false) at (ap (λ (w : State). w.s) c.loop-n.invariant.0)
