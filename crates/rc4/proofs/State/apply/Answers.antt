use Rattle.std.proofs.Common.{refl, arith, rules}
use Rattle.rc4.specs.declared.State.{State}
use Rattle.rc4.proofs.Turns.{ready_turn, step_turn, none_done, one_done, all_done}
use Rattle.rc4.proofs.State.apply.Goals as goal

pub loop-octet-init : goal.loop-octet-init
loop-octet-init c = (none_done _ _, record { long = search rules; first = refl })

pub put-b-requires : goal.put-b-requires
put-b-requires c = c.loop-octet.invariant.1.first

pub loop-octet-preserved : goal.loop-octet-preserved
loop-octet-preserved c =
    let h = c.loop-octet in
    let w : State = record { s = h.self.s; i = h.i; j = h.j } in
    let r = h.invariant.1 in
    let p = c.put-b.ensures in (
      one_done h.invariant.0 (omega arith) (step_turn w refl r refl p.0 p.1 refl),
      ready_turn r (search rules) (search rules) p.0 refl c.seen-a.ensures,
    )

pub returns : goal.returns
returns c = all_done c.loop-octet.invariant.0 (omega arith)
