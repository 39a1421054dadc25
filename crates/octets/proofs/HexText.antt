-- Octets as hexadecimal digits: element by element, and read back.
-- Assumes nothing.
use mathlib.Core.Path.{◌≡◌, refl, sym, ap, ap₂, ◌∙◌}
use mathlib.Core.Bool.{true, and-eq-true_iff}
use mathlib.Core.List.{List, [], ◌∷◌, map}
use Prim.Native.Nat.{ℕ, zero, suc, ◌+◌, ◌*◌, ◌/◌, ◌%◌, ◌<◌}
use native.Mathlib.Omega.{arith}
use borrow.Author.Tests.{ltb-true}
use lib.Dec.{ltb}
use lib.ListN.{length, get_or}
use Rattle.octets.specs.Digits.{digit_of, hex_of, all_below, pairs, hex_text}
use Rattle.octets.proofs.Digits.{digit_back}
use Rattle.octets.proofs.Numbers.{Octets}

-- ---- pairs

pub length_pairs : (ds : List ℕ) → length (pairs ds) ≡ length ds / 2
length_pairs [] = refl
length_pairs (x ∷ []) = refl
length_pairs (x ∷ y ∷ ds) = omega (arith, length_pairs ds)

pub pair_at : (ds : List ℕ) (i : ℕ) → 2 * i + 1 < length ds
    → get_or (pairs ds) i 0 ≡ get_or ds (2 * i) 0 * 16 + get_or ds (2 * i + 1) 0
pair_at [] i h = absurd (omega arith)
pair_at (x ∷ []) i h = absurd (omega arith)
pair_at (x ∷ y ∷ ds) zero h = refl
pair_at (x ∷ y ∷ ds) (suc i) h =
    let two : 2 * suc i ≡ suc (suc (2 * i)) = omega arith in
    let three : 2 * suc i + 1 ≡ suc (suc (2 * i + 1)) = omega arith in
    pair_at ds i (omega arith)
    ∙ sym (ap₂ (λ (a b : ℕ). get_or (x ∷ y ∷ ds) a 0 * 16 + get_or (x ∷ y ∷ ds) b 0) two three)

pub below_at : (base : ℕ) (ds : List ℕ) (i : ℕ) → all_below base ds ≡ true → i < length ds → get_or ds i 0 < base
below_at base [] i e h = absurd (omega arith)
below_at base (d ∷ ds) zero e h = ltb-true d base ((and-eq-true_iff (ltb d base) (all_below base ds)).0 e).0
below_at base (d ∷ ds) (suc i) e h = below_at base ds i ((and-eq-true_iff (ltb d base) (all_below base ds)).0 e).1 (omega arith)

-- ---- text

pub length_hex : (l : List ℕ) → length (hex_text l) ≡ 2 * length l
length_hex [] = refl
length_hex (x ∷ l) = omega (arith, length_hex l)

pub high_at : (l : List ℕ) (i : ℕ) → i < length l → get_or (hex_text l) (2 * i) 0 ≡ hex_of (get_or l i 0 / 16 % 16)
high_at [] i h = absurd (omega arith)
high_at (x ∷ l) zero h = refl
high_at (x ∷ l) (suc i) h =
    let two : 2 * suc i ≡ suc (suc (2 * i)) = omega arith in
    ap (λ (a : ℕ). get_or (hex_text (x ∷ l)) a 0) two ∙ high_at l i (omega arith)

pub low_at : (l : List ℕ) (i : ℕ) → i < length l → get_or (hex_text l) (2 * i + 1) 0 ≡ hex_of (get_or l i 0 % 16)
low_at [] i h = absurd (omega arith)
low_at (x ∷ l) zero h = refl
low_at (x ∷ l) (suc i) h =
    let three : 2 * suc i + 1 ≡ suc (suc (2 * i + 1)) = omega arith in
    ap (λ (a : ℕ). get_or (hex_text (x ∷ l)) a 0) three ∙ low_at l i (omega arith)

-- ---- what is written is read back

pub hex_back : (l : List ℕ) → Octets l → pairs (map digit_of (hex_text l)) ≡ l
hex_back [] h = refl
hex_back (x ∷ l) h =
    let same : x / 16 % 16 * 16 + x % 16 ≡ x = omega (arith, h 0) in
    ap₂ (λ (n : ℕ) (m : List ℕ). n ∷ m)
    (ap₂ (λ (a b : ℕ). a * 16 + b) (digit_back (x / 16 % 16) (omega arith)) (digit_back (x % 16) (omega arith)) ∙ same)
    (hex_back l (λ i. h (suc i)))
