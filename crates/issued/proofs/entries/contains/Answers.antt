use mathlib.Core.Bool.{Bool, true, false, ◌||◌}
use mathlib.Core.List.{List, [], ◌∷◌, ◌++◌}
use mathlib.Core.Path.{◌≡◌, refl, sym, ap, ap₂, ◌∙◌}
use Prim.Native.Nat.{ℕ, suc, ◌<◌}
use native.Mathlib.Omega.{arith}
use lib.ListN.{length, take, drop, take-append-drop}
use Rattle.octets.specs.Parts.{agrees}
use Rattle.issued.specs.Issued.{entries, entries_in, places, contains}
use Rattle.issued.proofs.Listing.{entries_more, length_in}
use Rattle.issued.proofs.entries.contains.Goals as goal

-- the next entry, and those behind it
found : (es : List (List ℕ)) (e : List ℕ) {x : List ℕ} {fs : List (List ℕ)} → es ≡ x ∷ fs → agrees x e ≡ true → true ≡ contains es e
unfolding contains
found es e {x} {fs} k a = sym (ap (λ (l : List (List ℕ)). contains l e) k ∙ ap (λ (t : Bool). t || contains fs e) a)

passed : (es : List (List ℕ)) (e : List ℕ) {x : List ℕ} {fs : List (List ℕ)} → es ≡ x ∷ fs → agrees x e ≡ false → contains fs e ≡ contains es e
unfolding contains
passed es e {x} {fs} k a = sym (ap (λ (l : List (List ℕ)). contains l e) k ∙ ap (λ (t : Bool). t || contains fs e) a)

none : (es : List (List ℕ)) (e : List ℕ) → es ≡ [] → false ≡ contains es e
unfolding contains
none es e k = sym (ap (λ (l : List (List ℕ)). contains l e) k)

-- what is left begins with the next entry
next : (w : ℕ) (l : List ℕ) {x r : List ℕ} → 0 < w → x ≡ take w l → r ≡ drop w l → length x ≡ w
    → entries_in w l ≡ x ∷ entries_in w r
next w l {x} {r} p e f n =
    entries_more w x r p refl (sym (take-append-drop w l) ∙ ap₂ ◌++◌ (sym e) (sym f)) n

-- and there is one fewer behind it
fewer : (w : ℕ) (l x r : List ℕ) → entries_in w l ≡ x ∷ entries_in w r → places w l ≡ suc (places w r)
fewer w l x r e = sym (length_in w l) ∙ ap length e ∙ ap suc (length_in w r)

pub loop-left-init : goal.loop-left-init
loop-left-init c = (refl, refl)

pub returns-then-agree : goal.returns-then-agree
returns-then-agree c =
    let w = length c.args.entry.now in
    let l = c.loop-left.rest.now in
    let s = c.split_at.ensures in
    found (entries_in w l) c.args.entry.now (next w l c.requires s.front s.back s.front_len)
    (sym c.agree.ensures ∙ c.if-agree.true)
    ∙ c.loop-left.invariant.1

pub loop-left-preserved : goal.loop-left-preserved
loop-left-preserved c =
    let w = length c.args.entry.now in
    let l = c.loop-left.rest.now in
    let s = c.split_at.ensures in
    let e = next w l c.requires s.front s.back s.front_len in (
      omega (arith, c.loop-left.invariant.0, fewer w l c.split_at.result.0.now c.split_at.result.1.now e),
      passed (entries_in w l) c.args.entry.now e (sym c.agree.ensures ∙ c.if-agree.false) ∙ c.loop-left.invariant.1,
    )

pub returns : goal.returns
returns c =
    let w = length c.args.entry.now in
    let l = c.loop-left.rest.now in
    let n : places w l ≡ 0 = omega (arith, c.loop-left.invariant.0) in
    none (entries_in w l) c.args.entry.now (ap (λ (n : ℕ). entries w n l) n) ∙ c.loop-left.invariant.1
