-- `octets::copy` meets its contract.
-- Assumes nothing.
use mathlib.Core.Path.{refl, sym, ◌∙◌}
use native.Mathlib.Numerals.{add-one}
use native.Mathlib.Omega.{arith}
use lib.ListN.{length-set}
use Rattle.octets.proofs.Parts.{over_turn, over_end}
use Rattle.octets.proofs.copy.Goals as goal

pub loop-i-init : goal.loop-i-init
loop-i-init c = (c.min-n.ensures, refl, refl)

pub loop-i-preserved : goal.loop-i-preserved
loop-i-preserved c =
    let v = c.loop-i.invariant in
    let i = c.loop-i.i in (
      v.0,
      simp length-set v.1,
      rw (add-one i) (over_turn c.args.source.now c.loop-i.target i (omega arith) (omega arith)) ∙ v.2,
    )

pub shape_of-target : goal.shape_of-target
shape_of-target c = c.loop-i.invariant.1

pub returns : goal.returns
returns c = sym (over_end c.args.source.now c.loop-i.target c.loop-i.i (omega arith)) ∙ c.loop-i.invariant.2
