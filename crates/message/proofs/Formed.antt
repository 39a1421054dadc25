-- When a word is a field, and what holds of a field's digits.
-- Assumes nothing.
use mathlib.Core.Path.{◌≡◌, refl, sym, ap, ◌∙◌}
use mathlib.Core.Bool.{Bool, true, false, cond, ◌&&◌, and-eq-true_iff}
use mathlib.Core.List.{List, [], ◌∷◌, map}
use Rattle.std.specs.Prelude.{Option, Some, None}
use Prim.Native.Nat.{ℕ, ◌^◌, ◌≤◌, ◌<◌}
use native.Mathlib.Nat.{pow-le-pow_right, le_trans, le_antisymm}
use native.Mathlib.Omega.{arith}
use borrow.Author.Tests.{leb-true}
use lib.Dec.{eqb, leb}
use lib.ListN.{length, length-map, drop, get_or}
use Rattle.octets.specs.Digits.{digit_of, all_below}
use Rattle.message.specs.Message.{digits_of, is_field, field_of, field_c, or_else, first_field}
use Rattle.message.specs.Inner.{word_at, digits_at, IfSome, Small, Eight}

module _ (letter base low high : ℕ) where
  -- ---- by the octets of the word

  pub short : (w : List ℕ) → length w < 2 → is_field letter base low high w ≡ false
  unfolding is_field
  short [] h = refl
  short (x ∷ []) h = refl
  short (x ∷ y ∷ w) h = absurd (omega arith)

  pub long : (w : List ℕ) → 2 ≤ length w
      → is_field letter base low high w ≡ (eqb (get_or w 0 0) letter && (eqb (get_or w 1 0) 61 && (leb low (length (drop 2 w)) && (leb (length (drop 2 w)) high && all_below base (digits_of w)))))
  unfolding is_field
  long [] h = absurd (omega arith)
  long (x ∷ []) h = absurd (omega arith)
  long (x ∷ y ∷ w) h = refl

  -- ---- what a field's digits are

  pub record Formed (ds : List ℕ) : Type 0 where
    pub below : all_below base ds ≡ true
    pub least : low ≤ length ds
    pub most : length ds ≤ high

  formed : (w : List ℕ) → is_field letter base low high w ≡ true → Formed (digits_of w)
  unfolding is_field
  formed [] e = absurd (let z : ◌≡◌ {A = ℕ} 0 1 = cc in omega arith)
  formed (x ∷ []) e = absurd (let z : ◌≡◌ {A = ℕ} 0 1 = cc in omega arith)
  formed (x ∷ y ∷ ds) e =
      let n = length ds in
      let e₁ = ((and-eq-true_iff (eqb x letter) (eqb y 61 && (leb low n && (leb n high && all_below base (map digit_of ds))))).0 e).1 in
      let e₂ = ((and-eq-true_iff (eqb y 61) (leb low n && (leb n high && all_below base (map digit_of ds)))).0 e₁).1 in
      let e₃ = (and-eq-true_iff (leb low n) (leb n high && all_below base (map digit_of ds))).0 e₂ in
      let e₄ = (and-eq-true_iff (leb n high) (all_below base (map digit_of ds))).0 e₃.1 in
      record { below = e₄.1; least = rw length-map (leb-true low n e₃.0); most = rw length-map (leb-true n high e₄.0) }

  field_formed : (w : List ℕ) → IfSome Formed (field_of letter base low high w)
  unfolding field_of
  field_formed w = which (is_field letter base low high w) (formed w)
    where
      which : (b : Bool) → (b ≡ true → Formed (digits_of w))
          → IfSome Formed (cond b (Some (digits_of w)) None)
      which true h = h refl
      which false h = tt

  first_formed : (ws : List (List ℕ)) → IfSome Formed (first_field (field_of letter base low high) ws)
  first_formed [] = tt
  first_formed (w ∷ ws) = which (field_of letter base low high w) (first_field (field_of letter base low high) ws) (field_formed w) (first_formed ws)
    where
      which : (o p : Option (List ℕ)) → IfSome Formed o → IfSome Formed p
          → IfSome Formed (or_else o p)
      which None p h k = k
      which (Some ds) p h k = h

if_some_map : {P Q : List ℕ → Type 0} (o : Option (List ℕ)) → ((ds : List ℕ) → P ds → Q ds)
    → IfSome P o → IfSome Q o
if_some_map None f h = tt
if_some_map (Some ds) f h = f ds h

pub first_small : (letter base low high : ℕ) (ws : List (List ℕ)) → 0 < base → base ^ high ≤ 2 ^ 64
    → IfSome (Small base) (first_field (field_of letter base low high) ws)
first_small letter base low high ws p q =
    if_some_map (first_field (field_of letter base low high) ws)
    (λ ds h. record { below = h.below; fits = le_trans (pow-le-pow_right p h.most) q })
    (first_formed letter base low high ws)

pub first_eight : (ws : List (List ℕ)) → IfSome Eight (first_field field_c ws)
first_eight ws =
    if_some_map (first_field field_c ws)
    (λ ds h. record { below = h.below; long = le_antisymm h.most h.least })
    (first_formed 67 16 16 16 ws)

-- ---- the digits at a place

pub found : (m : List ℕ) {p : Option ℕ} {from : ℕ} {w ds : List ℕ}
    → p ≡ Some from → w ≡ word_at m from → ds ≡ drop 2 w → digits_at m p ≡ Some (map digit_of ds)
found m e f g =
    ap (digits_at m) e ∙ sym (ap (λ (l : List ℕ). Some (map digit_of l)) (g ∙ ap (drop 2) f))
