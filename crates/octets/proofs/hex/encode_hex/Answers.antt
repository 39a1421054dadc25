use mathlib.Core.Path.{refl, sym, ◌∙◌}
use native.Mathlib.Omega.{arith}
use lib.ListN.{length-set}
use Rattle.octets.specs.Digits.{hex_text}
use Rattle.octets.proofs.HexText.{length_hex}
use Rattle.octets.proofs.Parts.{over_step, over_end}
use Rattle.octets.proofs.hex.encode_hex.Goals as goal

pub loop-k-init : goal.loop-k-init
loop-k-init c = (c.min-k-end.ensures, refl, refl)

pub loop-k-preserved : goal.loop-k-preserved
loop-k-preserved c =
    let h = c in
    let s = h.args.s.now in (
      h.loop-k.invariant.0,
      simp length-set h.loop-k.invariant.1,
      over_step (hex_text s) h.loop-k.out h.loop-k.k _ c.digit_at.ensures (omega (arith, length_hex s)) (omega arith)
          ∙ h.loop-k.invariant.2,
    )

pub shape_of-out : goal.shape_of-out
shape_of-out c = c.loop-k.invariant.1

pub returns : goal.returns
returns c =
    let h = c in
    let s = h.args.s.now in
    sym (over_end (hex_text s) h.loop-k.out h.loop-k.k (omega (arith, length_hex s))) ∙ h.loop-k.invariant.2
