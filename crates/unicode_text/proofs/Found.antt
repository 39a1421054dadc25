-- What is known of the character that the code found, or of none.
-- Assumes nothing.
use mathlib.Core.Bool.{Bool, true, false, cond}
use mathlib.Core.Path.{◌≡◌, refl, sym, ap, ◌∙◌}
use Prim.Native.Nat.{ℕ, ◌≤◌, ◌<◌}
use native.Mathlib.Omega.{arith}
use borrow.Author.Tests.{eqb-true, eqb-false}
use lib.Dec.{eqb}
use Rattle.std.specs.Prelude.{Some, None, IfSome}
use Rattle.unicode_text.specs.declared.encoding.Char.{Char}
use Rattle.unicode_text.specs.Inner.{found}

pub record Character (x c : Char) : Type 0 where
  pub same : c ≡ x
  pub some_width : c.width ≡ 0 → ⊥

pub a_character : (x c : Char) → Some c ≡ found x → Character x c
a_character x c e = by (eqb x.width 0) refl e
  where
    by : (t : Bool) → eqb x.width 0 ≡ t → Some c ≡ cond t None (Some x) → Character x c
    by true p q = let z : ◌≡◌ {A = ℕ} 0 1 = cc in absurd (omega (arith, z))
    by false p q =
        let k : c ≡ x = cc in
        record { same = k; some_width = λ z. eqb-false x.width 0 p (sym (ap (λ (y : Char). y.width) k) ∙ z) }

pub no_character : (x : Char) → None ≡ found x → x.width ≡ 0
no_character x e = by (eqb x.width 0) refl e
  where
    by : (t : Bool) → eqb x.width 0 ≡ t → None ≡ cond t None (Some x) → x.width ≡ 0
    by true p q = eqb-true x.width 0 p
    by false p q = let z : ◌≡◌ {A = ℕ} 0 1 = cc in absurd (omega (arith, z))

-- what is true of the width where none is found too
pub found_within : (x : Char) (n : ℕ) → x.width ≤ n → IfSome (found x) (λ c. c.width ≤ n)
found_within x n h = by (eqb x.width 0)
  where
    by : (t : Bool) → IfSome (cond t None (Some x)) (λ c. c.width ≤ n)
    by true = tt
    by false = h

-- ---- whether octets are left

pub some_left : (n : ℕ) {empty : Bool} → empty ≡ false → empty ≡ eqb n 0 → 0 < n
some_left n p q = let k = eqb-false n 0 (sym q ∙ p) in omega (arith, k)

pub none_left : (n : ℕ) {empty : Bool} → empty ≡ true → empty ≡ eqb n 0 → n ≤ 0
none_left n p q = omega (arith, eqb-true n 0 (sym q ∙ p))
