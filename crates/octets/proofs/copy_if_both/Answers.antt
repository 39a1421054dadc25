use mathlib.Core.Path.{◌≡◌, refl, sym, ap, ◌∙◌}
use mathlib.Core.Bool.{Bool, true, false, cond, ◌&&◌}
use mathlib.Core.List.{List}
use Prim.Native.Nat.{ℕ, suc, ◌≤◌, ◌<◌, min}
use native.Mathlib.Numerals.{add-one}
use native.Mathlib.Omega.{arith}
use lib.ListN.{length, get_or, set, length-set}
use lib.Seq.{set-get_or}
use Rattle.octets.proofs.Parts.{over_turn, over_end}
use Rattle.octets.proofs.copy_if_both.Invariants.{finished}
use Rattle.octets.proofs.copy_if_both.Goals as goal

turn : (t : Bool) (xs l : List ℕ) (i : ℕ) → i < length xs → i < length l
    → finished t xs (suc i) (set l i (cond t (get_or xs i 0) (get_or l i 0))) ≡ finished t xs i l
turn true xs l i h k = over_turn xs l i h k
turn false xs l i h k = set-get_or l i 0

end : (t : Bool) (xs l : List ℕ) (i : ℕ) → min (length l) (length xs) ≤ i → finished t xs i l ≡ l
end true xs l i h = over_end xs l i h
end false xs l i h = refl

-- the octet under the mask that the conditions give
octet : (t : Bool) {m r x y : ℕ} → m ≡ cond t 255 0 → (m ≡ 255 → r ≡ x) × (m ≡ 0 → r ≡ y)
    → r ≡ cond t x y
octet true e h = h.0 e
octet false e h = h.1 e

pub loop-i-init : goal.loop-i-init
loop-i-init c = (c.min-n.ensures, refl, refl)

pub loop-i-preserved : goal.loop-i-preserved
loop-i-preserved c =
    let h = c in
    let s = h.args in
    let t = s.a && s.b in
    let xs = s.source.now in
    let l = h.loop-i.target in
    let i = h.loop-i.i in
    let o = octet t h.where_both-mask.ensures c.masked.ensures in (
      h.loop-i.invariant.0,
      simp length-set h.loop-i.invariant.1,
      rw (add-one i)
          (ap (λ (x : ℕ). finished t xs (suc i) (set l i x)) o
          ∙ turn t xs l i (omega arith) (omega arith) ∙ h.loop-i.invariant.2),
    )

pub shape_of-target : goal.shape_of-target
shape_of-target c = c.loop-i.invariant.1

pub returns : goal.returns
returns c =
    let h = c in
    let s = h.args in
    sym (end (s.a && s.b) s.source.now h.loop-i.target h.loop-i.i (omega arith))
    ∙ h.loop-i.invariant.2
