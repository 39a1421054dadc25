-- What the code puts together piece by piece: the upper-cased password, and two blocks under the
-- halves of a key.
-- Assumes nothing.
use mathlib.Core.Path.{◌≡◌, refl, ap, ap₂, ◌∙◌}
use mathlib.Core.List.{List, [], ◌∷◌, ◌++◌, map}
use Prim.Native.Nat.{ℕ, ◌-◌, ◌≤◌}
use native.Mathlib.Omega.{arith}
use mathlib.Core.Bool.{Bool, true, false, cond}
use borrow.Author.Tests.{le-leb, lt-leb, ltb-true, ltb-false}
use lib.Dec.{ltb}
use lib.ListN.{length, replicate}
use Rattle.octets.specs.Parts.{part, over, fixed}
use Rattle.std.specs.Char.{to_ascii_uppercase}
use Rattle.octets.proofs.Parts.{fixed_part, fixed_front}
use Rattle.des.specs.Des.{des_encrypt}
use Rattle.credentials.specs.Credentials.{upper, lm_keys}

-- ---- each octet of a list changed, one after the other

module _ (f : ℕ → ℕ) where
  map_over : (xs l : List ℕ) → map f (over xs l) ≡ over (map f xs) (map f l)
  unfolding over
  map_over [] l = refl
  map_over (x ∷ xs) [] = refl
  map_over (x ∷ xs) (y ∷ l) = ap (λ (m : List ℕ). f x ∷ m) (map_over xs l)

same_upper : (c : ℕ) → to_ascii_uppercase c ≡ upper c
same_upper c = by (ltb c 97) refl
  where
    high : (b : Bool) → ltb c 123 ≡ b → 97 ≤ c → cond b (c - 32) c ≡ upper c
    high true e h = simp (le-leb 97 c h, le-leb c 122 (omega (arith, ltb-true c 123 e)))
    high false e h = simp (le-leb 97 c h, lt-leb c 122 (omega (arith, ltb-false c 123 e)))

    by : (b : Bool) → ltb c 97 ≡ b → to_ascii_uppercase c ≡ upper c
    by true e = simp (e, lt-leb 97 c (ltb-true c 97 e))
    by false e = simp e (high (ltb c 123) refl (ltb-false c 97 e))

map_same : (l : List ℕ) → map to_ascii_uppercase l ≡ map upper l
map_same [] = refl
map_same (x ∷ l) = ap₂ (λ (y : ℕ) (m : List ℕ). y ∷ m) (same_upper x) (map_same l)

-- zeros have no case: the password may be padded first
pub keys_padded : (password : List ℕ) → map to_ascii_uppercase (fixed 14 (part 0 14 password)) ≡ lm_keys password
unfolding lm_keys
keys_padded password =
    ap (map to_ascii_uppercase) (fixed_front 14 password) ∙ map_same (fixed 14 password)
    ∙ map_over upper password (replicate 14 0)

-- ---- two blocks under the first and the second seven octets of a run

pub two_blocks : (keys x y : List ℕ) {r a b k₁ k₂ : List ℕ} → 14 ≤ length keys → r ≡ a ++ b → a ≡ des_encrypt k₁ x → b ≡ des_encrypt k₂ y
    → k₁ ≡ fixed 7 (part 0 7 keys) → k₂ ≡ fixed 7 (part 7 7 keys) → r ≡ des_encrypt (part 0 7 keys) x ++ des_encrypt (part 7 7 keys) y
two_blocks keys x y {r} {a} {b} {k₁} {k₂} h er ea eb e₁ e₂ =
    er
    ∙ ap₂ ◌++◌
    (ea ∙ ap (λ (k : List ℕ). des_encrypt k x) (e₁ ∙ fixed_part 0 7 keys (omega arith)))
    (eb ∙ ap (λ (k : List ℕ). des_encrypt k y) (e₂ ∙ fixed_part 7 7 keys (omega arith)))

-- ---- the halves of sixteen octets, each under a cipher of its own

pub halves_joined : (f g : List ℕ → List ℕ) (l : List ℕ) {r a b x y : List ℕ} → length l ≡ 16
    → r ≡ a ++ b → a ≡ f x → b ≡ g y → x ≡ fixed 8 (part 0 8 l) → y ≡ fixed 8 (part 8 8 l)
    → r ≡ f (part 0 8 l) ++ g (part 8 8 l)
halves_joined f g l n er ea eb ex ey =
    er
    ∙ ap₂ ◌++◌ (ea ∙ ap f (ex ∙ fixed_part 0 8 l (omega arith)))
    (eb ∙ ap g (ey ∙ fixed_part 8 8 l (omega arith)))
