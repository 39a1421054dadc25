-- What `array::from_fn` makes with a closure that changes nothing, and an array's `map`: at each
-- place what the closure says there.
-- Assumes nothing.
use mathlib.Core.Path.{◌≡◌, refl, sym, ap, ap₂, ◌∙◌, subst}
use mathlib.Core.List.{List, [], ◌∷◌, map}
use Prim.Native.Nat.{ℕ, zero, suc, ◌+◌, ◌<◌}
use native.Mathlib.Nat.{zero-add}
use native.Mathlib.Omega.{arith}
use denote.Param.Members.{Mut}
use lib.ListN.{length, get_or}
use Rattle.std.proofs.lemmas.List.FromFn.{fill_by_all}
use Rattle.std.specs.Array.{IsFromFnResultFrom, IsFromFnResult, IsMapOf}
use Rattle.std.specs.Fn.{Called}
use Rattle.std.specs.List.{range_with_len}

module _ {F : Type 0} (g : Mut F (ℕ × Unit {0}) ℕ) (h : ℕ → ℕ) (f : F) (says : (i y : ℕ) (q : F) → Called g f (i, tt) y q → (q ≡ f) × (y ≡ h i)) where
  each : (ys : List ℕ) (i n : ℕ) → IsFromFnResultFrom g f ys i n → (k : ℕ) → k < n → get_or ys (i + k) 0 ≡ h (i + k)
  each ys i zero e k l = absurd (omega (arith, l))
  each ys i (suc n) e zero l =
      let here : i + 0 ≡ i = omega arith in
      ap (λ (j : ℕ). get_or ys j 0) here ∙ e.2.1 0 ∙ (says i e.1 e.0 e.3).1
      ∙ ap h (omega arith)
  each ys i (suc n) e (suc k) l =
      let rest = subst (λ (q : F). IsFromFnResultFrom g q ys (i + 1) n) (says i e.1 e.0 e.3).0 e.4 in
      let there : i + 1 + k ≡ i + suc k = omega arith in
      subst (λ (j : ℕ). get_or ys j 0 ≡ h j) there (each ys (i + 1) n rest k (omega (arith, l)))

  pub items_from_fn : (n : ℕ) (ys : List ℕ) → IsFromFnResult g f ys n → ys ≡ map h (range_with_len 0 n)
  items_from_fn n ys made =
      fill_by_all h ys n 0 made.long (λ k l. subst (λ (j : ℕ). get_or ys j 0 ≡ h j) (zero-add k) (each ys 0 n made.each k l))

-- An array's `map` by a function that always answers so: its answer at each element.
module _ {F A B : Type 0} (g : Mut F (A × Unit {0}) B) (h : A → B) (says : (x : A) (y : B) (p q : F) → Called g p (x, tt) y q → y ≡ h x) where
  at_each : (xs : List A) (ys : List B) → length ys ≡ length xs
      → ((i : ℕ) (d : A) (e : B) → i < length xs → (p : F) × (q : F) × Called g p (get_or xs i d, tt) (get_or ys i e) q) → ys ≡ map h xs
  at_each [] [] n t = refl
  at_each [] (y ∷ ys) n t = absurd (omega (arith, n))
  at_each (x ∷ xs) [] n t = absurd (omega (arith, n))
  at_each (x ∷ xs) (y ∷ ys) n t =
      let first = t 0 x y (omega arith) in
      ap₂ (λ (z : B) (zs : List B). z ∷ zs) (says x y first.0 first.1 first.2) (at_each xs ys (omega (arith, n)) (λ i d e l. t (suc i) d e (omega (arith, l))))

  pub items_of_map : (f : F) (xs : List A) (ys : List B) (n : ℕ) → length xs ≡ n → IsMapOf g f xs ys n → ys ≡ map h xs
  items_of_map f xs ys n long made =
      at_each xs ys (made.long ∙ sym long) (λ i d e l. made.at i d e (omega (arith, l, long)))
