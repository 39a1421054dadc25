use mathlib.Core.Path.{◌≡◌, refl, sym, ap, ◌∙◌}
use mathlib.Core.Bool.{Bool, cond}
use mathlib.Core.List.{List, map}
use Prim.Native.Nat.{ℕ, ◌/◌}
use native.Mathlib.Omega.{arith}
use lib.ListN.{length, length-set, length-map}
use Rattle.octets.specs.Digits.{digit_of}
use Rattle.octets.specs.Parts.{over}
use Rattle.octets.proofs.HexText.{length_pairs}
use Rattle.octets.proofs.Parts.{over_step, over_end}
use Rattle.octets.proofs.hex.decode_hex.Invariants.{octets_of}
use Rattle.octets.proofs.hex.decode_hex.Goals as goal

half : (s : List ℕ) → length (octets_of s) ≡ length s / 2
half s = length_pairs (map digit_of s) ∙ ap (λ (n : ℕ). n / 2) (length-map s digit_of)

pub returns-then-not-are_digits : goal.returns-then-not-are_digits
returns-then-not-are_digits c =
    let a = c.args in
    sym (ap (λ (t : Bool). cond t (over (octets_of a.s.now) a.out.now) a.out.now) (sym c.are_digits.ensures ∙ c.if-not-are_digits.true))

pub loop-i-init : goal.loop-i-init
loop-i-init c = (c.min-i-end.ensures, refl, refl)

pub octet_at-requires : goal.octet_at-requires
octet_at-requires c = let h = c in (omega arith, sym h.are_digits.ensures ∙ h.if-not-are_digits.false)

pub loop-i-preserved : goal.loop-i-preserved
loop-i-preserved c =
    let h = c in
    let s = h.args.s.now in (
      h.loop-i.invariant.0,
      simp length-set h.loop-i.invariant.1,
      over_step (octets_of s) h.loop-i.out h.loop-i.i _ c.octet_at.ensures (omega (arith, half s)) (omega arith)
          ∙ h.loop-i.invariant.2,
    )

pub returns : goal.returns
returns c =
    let h = c in
    let a = h.args in
    let s = a.s.now in
    sym (over_end (octets_of s) h.loop-i.out h.loop-i.i (omega (arith, half s))) ∙ h.loop-i.invariant.2
    ∙ sym (ap (λ (t : Bool). cond t (over (octets_of s) a.out.now) a.out.now) (sym h.are_digits.ensures ∙ h.if-not-are_digits.false))

pub shape_of-out : goal.shape_of-out
shape_of-out c = c.loop-i.invariant.1
