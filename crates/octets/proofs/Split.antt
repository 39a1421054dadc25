-- The first octet c of a list: its place, found octet by octet, and the list cut by it.
-- Assumes nothing.
use mathlib.Core.Path.{◌≡◌, refl, sym, ap, ◌∙◌}
use mathlib.Core.Bool.{Bool, true, false, cond, ◌||◌, or_assoc, false≢true}
use mathlib.Core.List.{List, [], ◌∷◌, ◌++◌}
use Prim.Native.Nat.{ℕ, suc, ◌+◌, ◌≤◌}
use native.Mathlib.Numerals.{add-one}
use native.Mathlib.Omega.{arith}
use borrow.Author.Tests.{eq-eqb, ne_eqb, eqb-true, lt-ltb}
use lib.Dec.{eqb, ltb, leb-suc-suc}
use lib.ListN.{length, take, drop}
use Rattle.octets.specs.Parts.{part}
use Rattle.octets.specs.Split.{holds, before, behind}
use Rattle.octets.proofs.Parts.{part_rest}

-- how many octets stand before it, or in all where there is none
abbrev pub place : ℕ → List ℕ → ℕ
place c l = length (before c l)

module _ (c : ℕ) where
  -- the first octet is c, and stands at the place
  pub found : (x : ℕ) (l : List ℕ) → x ≡ c → place c (x ∷ l) ≡ 0
  found x l e = ap (λ (b : Bool). length (cond b [] (x ∷ before c l))) (eq-eqb x c e)

  pub passed : (x : ℕ) (l : List ℕ) → (x ≡ c → ⊥) → place c (x ∷ l) ≡ place c l + 1
  passed x l e =
      ap (λ (b : Bool). length (cond b [] (x ∷ before c l))) (ne_eqb x c e) ∙ sym (add-one (place c l))

  -- ---- the parts by the place

  pub held : (l : List ℕ) → holds c l ≡ ltb (place c l) (length l)
  held [] = refl
  held (x ∷ l) = which (eqb x c) (held l)
    where
      which : (b : Bool) → holds c l ≡ ltb (place c l) (length l)
          → (b || holds c l) ≡ ltb (length (cond b [] (x ∷ before c l))) (suc (length l))
      which true e = sym (lt-ltb 0 (suc (length l)) (omega arith))
      which false e = e ∙ sym (leb-suc-suc (suc (place c l)) (length l))

  pub take_place : (l : List ℕ) → take (place c l) l ≡ before c l
  take_place [] = refl
  take_place (x ∷ l) = which (eqb x c) (take_place l)
    where
      which : (b : Bool) → take (place c l) l ≡ before c l
          → take (length (cond b [] (x ∷ before c l))) (x ∷ l) ≡ cond b [] (x ∷ before c l)
      which true e = refl
      which false e = ap (λ (m : List ℕ). x ∷ m) e

  pub drop_place : (l : List ℕ) → drop (suc (place c l)) l ≡ behind c l
  drop_place [] = refl
  drop_place (x ∷ l) = which (eqb x c) (drop_place l)
    where
      which : (b : Bool) → drop (suc (place c l)) l ≡ behind c l
          → drop (length (cond b [] (x ∷ before c l))) l ≡ cond b l (behind c l)
      which true e = refl
      which false e = e

  -- all that stands behind it
  pub part_behind : (l : List ℕ) → part (place c l + 1) (length l) l ≡ behind c l
  part_behind l = part_rest (place c l + 1) l ∙ ap (λ (k : ℕ). drop k l) (add-one (place c l)) ∙ drop_place l

  pub place_le : (l : List ℕ) → place c l ≤ length l
  place_le [] = omega arith
  place_le (x ∷ l) = which (eqb x c) (place_le l)
    where
      which : (b : Bool) → place c l ≤ length l → length (cond b [] (x ∷ before c l)) ≤ suc (length l)
      which true h = omega arith
      which false h = omega arith

  -- what stands before it has none
  pub before_free : (l : List ℕ) → holds c (before c l) ≡ false
  before_free [] = refl
  before_free (x ∷ l) = which (eqb x c) refl (before_free l)
    where
      which : (b : Bool) → eqb x c ≡ b → holds c (before c l) ≡ false
          → holds c (cond b [] (x ∷ before c l)) ≡ false
      which true e h = refl
      which false e h = ap (λ (t : Bool). t || holds c (before c l)) e ∙ h

  -- ---- two lists and c between them

  -- the list l is d, c and a, with no c in d
  pub record Cut (l d a : List ℕ) : Type 0 where
    pub holds_it : holds c l ≡ true
    pub before_it : before c l ≡ d
    pub behind_it : behind c l ≡ a

  pub cut : (d a : List ℕ) → holds c d ≡ false → Cut (d ++ (c ∷ a)) d a
  cut [] a e =
      let same = eq-eqb c c refl in
      record { holds_it = simp same; before_it = simp same; behind_it = simp same }
  cut (x ∷ d) a e = which (eqb x c) refl e (cut d a)
    where
      which : (b : Bool) → eqb x c ≡ b → (b || holds c d) ≡ false → (holds c d ≡ false → Cut (d ++ (c ∷ a)) d a)
          → Cut (x ∷ (d ++ (c ∷ a))) (x ∷ d) a
      which true e f g = absurd (false≢true (sym f))
      which false e f g =
          let r = g f in
          record {
            holds_it = simp e r.holds_it;
            before_it = simp e (ap (λ (m : List ℕ). x ∷ m) r.before_it);
            behind_it = simp e r.behind_it;
          }

  -- a list that has none is all before it, and nothing is behind it
  pub whole : (l : List ℕ) → holds c l ≡ false → (before c l ≡ l) × (behind c l ≡ [])
  whole [] e = (refl, refl)
  whole (x ∷ l) e = which (eqb x c) refl e (whole l)
    where
      which : (b : Bool) → eqb x c ≡ b → (b || holds c l) ≡ false
          → (holds c l ≡ false → (before c l ≡ l) × (behind c l ≡ []))
          → (before c (x ∷ l) ≡ x ∷ l) × (behind c (x ∷ l) ≡ [])
      which true e f g = absurd (false≢true (sym f))
      which false e f g = let r = g f in (simp e (ap (λ (m : List ℕ). x ∷ m) r.0), simp e r.1)

  -- a list that has one is what stands before it, c, and what stands behind it
  pub joined : (l : List ℕ) → holds c l ≡ true → before c l ++ (c ∷ behind c l) ≡ l
  joined [] e = absurd (false≢true e)
  joined (x ∷ l) e = which (eqb x c) refl e (joined l)
    where
      which : (b : Bool) → eqb x c ≡ b → (b || holds c l) ≡ true → (holds c l ≡ true → before c l ++ (c ∷ behind c l) ≡ l)
          → before c (x ∷ l) ++ (c ∷ behind c (x ∷ l)) ≡ x ∷ l
      which true e f g = simp e (ap (λ (y : ℕ). y ∷ l) (sym (eqb-true x c e)))
      which false e f g = simp e (ap (λ (m : List ℕ). x ∷ m) (g f))

  pub holds_append : (l m : List ℕ) → holds c (l ++ m) ≡ (holds c l || holds c m)
  holds_append [] m = refl
  holds_append (x ∷ l) m = ap (λ (t : Bool). eqb x c || t) (holds_append l m) ∙ sym (or_assoc (eqb x c) (holds c l) (holds c m))
