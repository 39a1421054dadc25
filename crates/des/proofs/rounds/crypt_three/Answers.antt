use mathlib.Core.Path.{ap, ap₂, ◌∙◌}
use mathlib.Core.List.{◌++◌}
use Rattle.octets.specs.Numbers.{to_be}
use Rattle.des.proofs.Round.{crypted}
use Rattle.des.proofs.rounds.crypt_three.Goals as goal

pub returns : goal.returns
returns g c =
    let n = g.met.K.RoundKeys.sixteen in
    let h = c.loop-i.invariant in
    let i = c.loop-i-test.false in
    let k = c.args in
    let e = c.of_block-h1.ensures in
    let first = crypted k.x h.0 (n k.k1.now) i e c.output_block.ensures in
    let second = crypted k.x h.1 (n k.k2.now) i e c.output_block-2.ensures in
    let third = crypted k.x h.2 (n k.k3.now) i e c.output_block-3.ensures in
    ap₂ ◌++◌ (c.copy_from_slice.ensures.after ∙ c.u64_to_be.ensures ∙ ap (to_be 8) first)
    (ap₂ ◌++◌ (c.copy_from_slice-2.ensures.after ∙ c.u64_to_be-2.ensures ∙ ap (to_be 8) second)
    (c.copy_from_slice-3.ensures.after ∙ c.u64_to_be-3.ensures ∙ ap (to_be 8) third))
