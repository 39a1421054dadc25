-- What an opening spends: entries of 8 octets that differ among themselves, and the octets in which
-- the code passes them.
-- Assumes nothing.
use mathlib.Core.Bool.{Bool, true, false, ◌||◌, false≢true}
use mathlib.Core.List.{List, [], ◌∷◌, ◌++◌, append-nil, flatten}
use mathlib.Core.Logic.{◌≢◌}
use mathlib.Core.Path.{◌≡◌, refl, sym, ap, ap₂, ◌∙◌, subst}
use Prim.Native.Nat.{ℕ, zero, suc, ◌+◌, ◌-◌, ◌*◌, ◌/◌, ◌%◌, ◌≤◌, ◌<◌}
use native.Mathlib.Nat.{div-add-mod', mul-suc, mul-zero, suc-add}
use native.Mathlib.Omega.{arith}
use borrow.Author.Tests.{ne_eqb}
use lib.Dec.{eqb}
use lib.ListN.{length, take}
use lib.Seq.{take-append-add}
use Rattle.octets.specs.Parts.{part, agrees}
use Rattle.octets.proofs.Parts.{agrees_equal}
use Rattle.octets.proofs.Numbers.{Octets}
use Rattle.issued.specs.Issued.{entries, entries_in, contains, Distinct}
use Rattle.issued.proofs.Listing.{Wide, length_flatten, entries_flatten}
use Rattle.challenges.specs.Challenges.{incremented, challenges_from}
use Rattle.challenges.proofs.Laid.{length_challenges_from}

pub length_incremented : (c : List ℕ) → length (incremented c) ≡ length c
length_incremented [] = refl
length_incremented (x ∷ c) = refl

incremented_octets : (c : List ℕ) → Octets c → Octets (incremented c)
incremented_octets [] h i = h i
incremented_octets (x ∷ c) h zero = omega arith
incremented_octets (x ∷ c) h (suc i) = h (suc i)

pub challenges_wide : (n : ℕ) (c : List ℕ) → length c ≡ 8 → Wide 8 (challenges_from n c)
unfolding challenges_from
challenges_wide zero c e = tt
challenges_wide (suc n) c e = (e, challenges_wide n (incremented c) (length_incremented c ∙ e))

-- ---- the entries differ among themselves

-- 23 * k is no multiple of 256, for k from 1 to 11
no_multiple : (k q : ℕ) → 23 * k ≡ q * 256 → 0 < k → k ≤ 11 → ⊥
no_multiple k zero e pos few = omega arith
no_multiple k (suc q) e pos few = omega arith

not_back : (k x y : ℕ) → y ≡ (x + 23 * k) % 256 → 0 < k → k ≤ 11 → y ≢ x
not_back k x y e pos few f = no_multiple k ((x + 23 * k) / 256) (omega (arith, div-add-mod' (x + 23 * k) 256)) pos few

-- n challenges from one that k turns of the 23 rule made of x, none of which begins with x: 23 * 11
-- is under 256
others : (n k x y : ℕ) (xs : List ℕ) → y ≡ (x + 23 * k) % 256 → 0 < k → k + n ≤ 12 → contains (challenges_from n (y ∷ xs)) (x ∷ xs) ≡ false
unfolding challenges_from contains agrees
others zero k x y xs e pos few = refl
others (suc n) k x y xs e pos few =
    let differ : eqb y x ≡ false = ne_eqb y x (not_back k x y e pos (omega arith)) in
    rw differ (others n (suc k) x ((y + 23) % 256) xs (omega arith) (omega arith) (omega arith))

-- at most 8 of them are distinct
pub challenges_distinct : (n : ℕ) (c : List ℕ) → 0 < length c → n ≤ 8 → Distinct (challenges_from n c)
unfolding challenges_from
challenges_distinct n [] pos h = absurd (omega arith)
challenges_distinct zero (x ∷ xs) pos h = tt
challenges_distinct (suc n) (x ∷ xs) pos h =
    (others n 1 x ((x + 23) % 256) xs (omega arith) (omega arith) (omega arith), challenges_distinct n ((x + 23) % 256 ∷ xs) (omega arith) (omega arith))

-- ---- each is eight octets

pub challenges_octets : (n : ℕ) (c x : List ℕ) → length c ≡ 8 → Octets c → contains (challenges_from n c) x ≡ true → (length x ≡ 8) × Octets x
unfolding challenges_from contains
challenges_octets zero c x e o h = absurd (false≢true h)
challenges_octets (suc n) c x e o h = which (agrees c x) refl (challenges_octets n (incremented c) x (length_incremented c ∙ e) (incremented_octets c o))
  where
    which : (t : Bool) → agrees c x ≡ t → (contains (challenges_from n (incremented c)) x ≡ true → (length x ≡ 8) × Octets x) → (length x ≡ 8) × Octets x
    which true p next = subst (λ (l : List ℕ). (length l ≡ 8) × Octets l) (agrees_equal c x p) (e, o)
    which false p next = next (sym (ap (λ (t : Bool). t || contains (challenges_from n (incremented c)) x) p) ∙ h)

-- ---- as the code passes them

-- the first n of n + k, as octets
challenges_front : (w n k : ℕ) (c : List ℕ) → length c ≡ w → take (w * n) (flatten (challenges_from (n + k) c)) ≡ flatten (challenges_from n c)
unfolding flatten challenges_from
challenges_front w zero k c e = ap (λ (m : ℕ). take m (flatten (challenges_from (0 + k) c))) (mul-zero w)
challenges_front w (suc n) k c e =
    let size : w * suc n ≡ length c + w * n = omega (arith, mul-suc w n) in
    ap₂ (λ (m i : ℕ). take m (flatten (challenges_from i c))) size (suc-add n k)
    ∙ take-append-add c (flatten (challenges_from (n + k) (incremented c))) (w * n)
    ∙ ap (λ (x : List ℕ). c ++ x) (challenges_front w n k (incremented c) (length_incremented c ∙ e))

pub challenges_run : (r : ℕ) (c : List ℕ) → r ≤ 7 → length c ≡ 8 → entries_in 8 (part 0 (8 * (r + 1)) (flatten (challenges_from 8 c))) ≡ challenges_from (suc r) c
challenges_run r c h e =
    let cs = challenges_from (suc r) c in
    let all : suc r + (7 - r) ≡ 8 = omega arith in
    let size : 8 * (r + 1) ≡ 8 * suc r = omega arith in
    let front : part 0 (8 * (r + 1)) (flatten (challenges_from 8 c)) ≡ flatten cs =
    ap₂ (λ (m n : ℕ). take m (flatten (challenges_from n c))) size (sym all) ∙ challenges_front 8 (suc r) (7 - r) c e in
    let long : length (flatten cs) ≡ 8 * suc r = length_flatten 8 cs (challenges_wide (suc r) c e) ∙ ap (λ (n : ℕ). 8 * n) (length_challenges_from (suc r) c) in
    let count : length (flatten cs) / 8 ≡ length cs = ap (λ (n : ℕ). n / 8) long ∙ omega (arith, length_challenges_from (suc r) c) in
    ap (entries_in 8) front ∙ ap₂ (λ (n : ℕ) (l : List ℕ). entries 8 n l) count (sym (append-nil (flatten cs)))
    ∙ entries_flatten 8 cs [] (challenges_wide (suc r) c e)
