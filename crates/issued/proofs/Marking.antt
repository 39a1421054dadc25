-- Marks of the octets in which entries end, and the search that goes by them.
-- Assumes nothing.
use mathlib.Core.Bool.{Bool, true, false, ◌||◌, or_assoc, or-false, false≢true}
use mathlib.Core.List.{List, [], ◌∷◌}
use mathlib.Core.Logic.{◌≢◌}
use mathlib.Core.Path.{◌≡◌, refl, sym, ap, ◌∙◌}
use Prim.Native.Nat.{ℕ, ◌<◌}
use native.Mathlib.Omega.{arith}
use borrow.Author.Tests.{ne_eqb, eqb-true, eqb-false}
use lib.Dec.{eqb}
use lib.ListN.{length, get_or, set, length-set}
use lib.Seq.{get_or-set_same, get_or-set_other}
use Rattle.issued.specs.Issued.{contains, contains_any, last_of, ending}
use Rattle.issued.specs.Inner.{Marked}
use Rattle.issued.proofs.Listing.{contains_any_next, contains_any_none}

-- one more mark: an octet that is still unmarked was so before, and ends as many of the rest
mark_next : (marks : List Bool) (e : List ℕ) (es : List (List ℕ)) (x : ℕ) → last_of e < length marks → get_or (set marks (last_of e) true) x false ≡ false
    → (get_or marks x false ≡ false) × (ending x (e ∷ es) ≡ ending x es)
unfolding ending
mark_next marks e es x f h = which (eqb x (last_of e)) refl
  where
    other : x ≢ last_of e → ending x (e ∷ es) ≡ ending x es
    other n = rw (ne_eqb (last_of e) x (λ p. n (sym p))) (omega arith)

    which : (t : Bool) → eqb x (last_of e) ≡ t → (get_or marks x false ≡ false) × (ending x (e ∷ es) ≡ ending x es)
    which true p =
        let there = ap (λ (z : ℕ). get_or (set marks (last_of e) true) z false) (eqb-true x (last_of e) p) ∙ get_or-set_same marks (last_of e) true false f in
        absurd (false≢true (sym h ∙ there))
    which false p =
        let n = eqb-false x (last_of e) p in
        (sym (get_or-set_other marks (last_of e) x true false n) ∙ h, other n)

-- the entries es are left to be marked; an octet that is not marked yet ends none of the others
pub record Unmarked (marks : List Bool) (es all : List (List ℕ)) : Type 0 where
  pub size : length marks ≡ 256
  pub same : (x : ℕ) → get_or marks x false ≡ false → ending x all ≡ ending x es

module _ {marks : List Bool} {es all : List (List ℕ)} (h : Unmarked marks es all) where
  pub marked_next : {e : List ℕ} {fs : List (List ℕ)} → es ≡ e ∷ fs → {y : ℕ} → y ≡ last_of e → y < 256
      → Unmarked (set marks y true) fs all
  marked_next {e} {fs} k {y} f small =
      record {
        size = length-set marks y true ∙ h.size;
        same = λ x z.
            let u = mark_next marks e fs x (omega (arith, h.size, f, small))
            (ap (λ (v : ℕ). get_or (set marks v true) x false) (sym f) ∙ z) in
            h.same x u.0 ∙ ap (ending x) k ∙ u.1;
      }

  pub marked_all : es ≡ [] → Marked marks all
  unfolding ending
  marked_all z x u = h.same x u ∙ ap (ending x) z

-- ---- the search

module _ (cs : List (List ℕ)) (met : Bool) {es : List (List ℕ)} where
  -- one more entry of the list is looked at
  pub met_next : {e : List ℕ} {fs : List (List ℕ)} → es ≡ e ∷ fs → {after one : Bool} → after ≡ (met || one)
      → one ≡ contains cs e
      → (after || contains_any cs fs) ≡ (met || contains_any cs es)
  met_next {e} {fs} k g f =
      ap (λ (t : Bool). t || contains_any cs fs) (g ∙ ap (λ (t : Bool). met || t) f)
      ∙ or_assoc met (contains cs e) (contains_any cs fs)
      ∙ ap (λ (t : Bool). met || t) (sym (ap (contains_any cs) k ∙ contains_any_next cs fs e))

  pub met_all : es ≡ [] → met ≡ (met || contains_any cs es)
  met_all z =
      sym (ap (λ (l : List (List ℕ)). met || contains_any cs l) z
      ∙ ap (λ (t : Bool). met || t) (contains_any_none cs) ∙ or-false met)
