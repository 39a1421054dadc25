use Rattle.std.proofs.Common.{length-set, refl, ap, ◌∙◌, arith}
use mathlib.Core.List.{flatten}
use Rattle.octets.proofs.Parts.{fixed_whole}
use Rattle.challenges.specs.Challenges.{challenges_from}
use Rattle.challenges.proofs.Laid.{laid_next, laid_all, flat_flatten}
use Rattle.challenges.proofs.challenges_from.Goals as goal

pub loop-place-init : goal.loop-place-init
loop-place-init c = (refl, refl)

pub loop-place-preserved : goal.loop-place-preserved
loop-place-preserved c =
    let l = c.loop-place in (
      simp length-set l.invariant.0,
      laid_next l.place-items l.next (challenges_from 8 c.args.challenge) l.place-index (omega arith) l.invariant.0
          c.incremented-after.ensures l.invariant.1,
    )

pub returns : goal.returns
returns c =
    let l = c.loop-place in
    let all = challenges_from 8 c.args.challenge in
    c.array_at.ensures
    ∙ fixed_whole 64 c.as_flattened.result.now (omega (arith, l.invariant.0, c.as_flattened.ensures.len))
    ∙ c.as_flattened.ensures.value ∙ flat_flatten l.place-items
    ∙ ap flatten (laid_all l.place-items l.next all l.place-index (omega arith) l.invariant.0 l.invariant.1)
