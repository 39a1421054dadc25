-- Laws of a copy laid over a list, and of agreement.
-- Assumes nothing.
use mathlib.Core.Path.{◌≡◌, refl, sym, ap, ap₂, ◌∙◌}
use mathlib.Core.Bool.{Bool, true, false, ◌&&◌, false≢true, and-true, and-false, and_assoc}
use mathlib.Core.List.{List, [], ◌∷◌, ◌++◌, append_assoc, append-nil}
use Prim.Native.Nat.{ℕ, zero, suc, ◌+◌, ◌-◌, ◌≤◌, ◌<◌, min}
use native.Mathlib.Nat.{not-suc-le-zero, le_of_suc-le-suc, zero-min, min-zero, suc-min-suc}
use native.Mathlib.Nat.{add-sub_cancel_left, zero-add, suc-add}
use native.Mathlib.Numerals.{add-one}
use native.Mathlib.Omega.{arith}
use borrow.Author.Tests.{eq-eqb, ne_eqb, eqb-true, eqb-false, leb-true, leb-false}
use lib.Dec.{eqb, leb}
use lib.ListN.{length, length-append, length-drop, length-take, length-replicate, replicate}
use lib.ListN.{replicate-append-replicate, take, drop, get_or, set, take-append-drop}
use lib.ListN.{drop_of_length-le}
use lib.Seq.{drop-cons, take-suc-set, drop-set-lt, append_snoc, take_at, drop_at, take_all}
use lib.Seq.{drop-append-le, drop-drop, take-add, length-take-le, take-append_seam}
use lib.Seq.{drop-append_seam}
use lib.Bits.{bit_or, bit_xor, or_add_and, and_le_l, and_le_r, xor_self}
use Rattle.octets.specs.Parts.{part, over, over_at, fixed, agrees}
use Rattle.std.specs.List.{fold, zip}
use Rattle.octets.proofs.Xor.{xor_none}

-- ---- part

take_min : (n : ℕ) (l : List ℕ) → take (min n (length l)) l ≡ take n l
take_min zero l = ap (λ (k : ℕ). take k l) (zero-min (length l))
take_min (suc n) [] = ap (λ (k : ℕ). take k []) (min-zero (suc n))
take_min (suc n) (x ∷ l) = ap (λ (k : ℕ). take k (x ∷ l)) (suc-min-suc n (length l)) ∙ ap (λ (m : List ℕ). x ∷ m) (take_min n l)

drop_min : (n : ℕ) (l : List ℕ) → drop (min n (length l)) l ≡ drop n l
drop_min zero l = ap (λ (k : ℕ). drop k l) (zero-min (length l))
drop_min (suc n) [] = ap (λ (k : ℕ). drop k []) (min-zero (suc n))
drop_min (suc n) (x ∷ l) = ap (λ (k : ℕ). drop k (x ∷ l)) (suc-min-suc n (length l)) ∙ drop_min n l

-- a start and a length that are cut to what the list has give the same part
pub part_cut : (at n : ℕ) (l : List ℕ) {a k : ℕ} → a ≡ min at (length l) → k ≡ min n (length l - a) → take (a + k - a) (drop a l) ≡ part at n l
part_cut at n l {a} {k} ea ek =
    let count : a + k - a ≡ min n (length (drop a l)) = add-sub_cancel_left a k ∙ ek ∙ ap (min n) (sym (length-drop a l)) in
    ap (λ (m : ℕ). take m (drop a l)) count ∙ take_min n (drop a l) ∙ ap (take n) (ap (λ (m : ℕ). drop m l) ea ∙ drop_min at l)

-- two parts, the second where the first ends, are one part
pub part_join : (a k j : ℕ) (l : List ℕ) → part a k l ++ part (a + k) j l ≡ part a (k + j) l
part_join a k j l = sym (take-add k j (drop a l) ∙ ap (λ (x : List ℕ). part a k l ++ take j x) (drop-drop k a l))

-- all from a place on
pub part_rest : (a : ℕ) (l : List ℕ) → part a (length l) l ≡ drop a l
part_rest a l = take_all (length l) (drop a l) (omega (arith, length-drop a l))

pub drop_replicate : (n k : ℕ) → drop {A = ℕ} n (replicate (n + k) 0) ≡ replicate k 0
drop_replicate n k =
    ap (drop n) (sym (replicate-append-replicate n k 0))
    ∙ ap (λ (i : ℕ). drop i (replicate n 0 ++ replicate k 0)) (sym (length-replicate {A = ℕ} n 0)) ∙ drop-append_seam (replicate n 0) (replicate k 0)

-- the front of a list, without its own front
pub drop_take : (j m : ℕ) (l : List ℕ) → j ≤ length (take m l) → drop j (take m l) ≡ take (m - j) (drop j l)
drop_take j m l h =
    let b = length-take m l in
    let e : m ≡ j + (m - j) = omega arith in
    ap (λ (i : ℕ). drop j (take i l)) e ∙ ap (drop j) (take-add j (m - j) l)
    ∙ drop_at (take j l) (take (m - j) (drop j l)) j (length-take-le j l (omega arith))

-- ---- over

pub length_over : (xs l : List ℕ) → length (over xs l) ≡ length l
unfolding over
length_over [] l = refl
length_over (x ∷ xs) [] = refl
length_over (x ∷ xs) (y ∷ l) = ap suc (length_over xs l)

pub length_over_at : (at : ℕ) (xs l : List ℕ) → length (over_at at xs l) ≡ length l
length_over_at at xs l =
    length-append (take at l) (over xs (drop at l)) ∙ ap (λ (n : ℕ). length (take at l) + n) (length_over xs (drop at l))
    ∙ sym (length-append (take at l) (drop at l)) ∙ ap length (take-append-drop at l)

-- a copy that fits: the copy, and then the rest as it was
pub over_fits : (xs l : List ℕ) → length xs ≤ length l → over xs l ≡ xs ++ drop (length xs) l
unfolding over
over_fits [] l h = refl
over_fits (x ∷ xs) [] h = absurd (not-suc-le-zero h)
over_fits (x ∷ xs) (y ∷ l) h = ap (λ (m : List ℕ). x ∷ m) (over_fits xs l (le_of_suc-le-suc h))

-- a copy that fills: its front, as long as what it is laid over
pub over_fills : (xs l : List ℕ) → length l ≤ length xs → over xs l ≡ take (length l) xs
unfolding over
over_fills [] [] h = refl
over_fills [] (y ∷ l) h = absurd (not-suc-le-zero h)
over_fills (x ∷ xs) [] h = refl
over_fills (x ∷ xs) (y ∷ l) h = ap (λ (m : List ℕ). x ∷ m) (over_fills xs l (le_of_suc-le-suc h))

over_min : (xs l : List ℕ)
    → take (min (length l) (length xs)) xs ++ drop (min (length l) (length xs)) l ≡ over xs l
unfolding over
over_min [] l = ap (λ (n : ℕ). take n [] ++ drop n l) (min-zero (length l))
over_min (x ∷ xs) [] = ap (λ (n : ℕ). take n (x ∷ xs) ++ drop n []) (zero-min (length (x ∷ xs)))
over_min (x ∷ xs) (y ∷ l) =
    ap (λ (n : ℕ). take n (x ∷ xs) ++ drop n (y ∷ l)) (suc-min-suc (length l) (length xs))
    ∙ ap (λ (m : List ℕ). x ∷ m) (over_min xs l)

-- the front of a copy, as much of it as there is room for, and the rest as it was
pub over_cut : (xs l : List ℕ) {n : ℕ} {front : List ℕ} → n ≡ min (length l) (length xs) → front ≡ take n xs
    → front ++ drop n l ≡ over xs l
over_cut xs l e f =
    ap₂ (λ (m : List ℕ) (n : ℕ). m ++ drop n l) (f ∙ ap (λ (n : ℕ). take n xs) e) e ∙ over_min xs l

-- a copy into k octets of p ++ q that start where q does, passed and handed back: p stays, and so
-- does what of q the copy does not reach
pub over_lent : (p q e : List ℕ) (a k : ℕ) → length p ≡ a → length e ≤ k → k ≤ length q
    → take a (p ++ q) ++ (over e (take k (drop a (p ++ q))) ++ drop k (drop a (p ++ q))) ≡ p ++ (e ++ drop (length e) q)
over_lent p q e a k ha he hk =
    ap₂ (λ (x y : List ℕ). x ++ (over e (take k y) ++ drop k y)) (take_at p q a ha) (drop_at p q a ha)
    ∙ ap (λ (x : List ℕ). p ++ (x ++ drop k q)) (over_fits e (take k q) fits)
    ∙ ap (λ (x : List ℕ). p ++ x)
    (append_assoc e (drop (length e) (take k q)) (drop k q)
    ∙ ap (λ (x : List ℕ). e ++ x) (sym (drop-append-le (length e) (take k q) (drop k q) fits) ∙ ap (drop (length e)) (take-append-drop k q)))
  where
    fits : length e ≤ length (take k q)
    fits = omega (arith, length-take-le k q hk)

-- a copy into all that follows the place at, or the end where that comes first
pub over_rest : (at : ℕ) (xs l : List ℕ) {a : ℕ} {t : List ℕ} → a ≡ min at (length l) → t ≡ over xs (take (length l - a) (drop a l))
    → take a l ++ (t ++ drop (length l - a) (drop a l)) ≡ over_at at xs l
over_rest at xs l {a} {t} ea et =
    let fits : length (drop a l) ≤ length l - a = omega (arith, length-drop a l) in
    ap₂ (λ (x y : List ℕ). take a l ++ (x ++ y)) (et ∙ ap (over xs) (take_all (length l - a) (drop a l) fits)) (drop_of_length-le (drop a l) fits)
    ∙ ap (λ (x : List ℕ). take a l ++ x) (append-nil (over xs (drop a l)))
    ∙ ap (λ (n : ℕ). take n l ++ over xs (drop n l)) ea
    ∙ ap₂ (λ (x y : List ℕ). x ++ over xs y) (take_min at l) (drop_min at l)

-- a buffer that begins with done gets xs behind it, and what lay behind that stays; l is the buffer
-- as it was passed
pub over_next : (l done xs : List ℕ) {b : List ℕ} → b ≡ done ++ drop (length done) l → length done + length xs ≤ length l
    → over_at (length done) xs b ≡ (done ++ xs) ++ drop (length (done ++ xs)) l
over_next l done xs {b} e h =
    let rest = drop (length done) l in
    ap (λ (x : List ℕ). take (length done) x ++ over xs (drop (length done) x)) e
    ∙ ap₂ (λ (x y : List ℕ). x ++ over xs y) (take-append_seam done rest) (drop-append_seam done rest)
    ∙ ap (λ (x : List ℕ). done ++ x) (over_fits xs rest (omega (arith, length-drop (length done) l)))
    ∙ sym (append_assoc done xs (drop (length xs) rest))
    ∙ ap (λ (x : List ℕ). (done ++ xs) ++ x) (drop-drop (length xs) (length done) l ∙ ap (λ (n : ℕ). drop n l) (sym (length-append done xs)))

-- ---- fixed

pub length_fixed : (n : ℕ) (l : List ℕ) → length (fixed n l) ≡ n
length_fixed n l = length_over l (replicate n 0) ∙ length-replicate n 0

pub fixed_same : (n : ℕ) (l : List ℕ) → length l ≡ n → fixed n l ≡ l
fixed_same n l e = over_fills l (replicate n 0) (omega (arith, length-replicate {A = ℕ} n 0)) ∙ ap (λ (k : ℕ). take k l) (length-replicate {A = ℕ} n 0) ∙ take_all n l (omega arith)

-- a part that the list has is as it stands
pub length_part : (a n : ℕ) (l : List ℕ) → a + n ≤ length l → length (part a n l) ≡ n
length_part a n l h = length-take-le n (drop a l) (omega (arith, length-drop a l))

pub fixed_part : (a n : ℕ) (l : List ℕ) → a + n ≤ length l → fixed n (part a n l) ≡ part a n l
fixed_part a n l h = fixed_same n (part a n l) (length_part a n l h)

-- what of a list finds no place does not count
over_front : (xs l : List ℕ) → over (take (length l) xs) l ≡ over xs l
unfolding over
over_front [] [] = refl
over_front [] (y ∷ l) = refl
over_front (x ∷ xs) [] = refl
over_front (x ∷ xs) (y ∷ l) = ap (λ (m : List ℕ). x ∷ m) (over_front xs l)

pub fixed_front : (n : ℕ) (l : List ℕ) → fixed n (part 0 n l) ≡ fixed n l
fixed_front n l =
    ap (λ (k : ℕ). over (take k l) (replicate n 0)) (sym (length-replicate {A = ℕ} n 0)) ∙ over_front l (replicate n 0)

-- a list of n octets, taken whole
pub fixed_whole : (n : ℕ) (l : List ℕ) → length l ≡ n → fixed n (part 0 n l) ≡ l
fixed_whole n l e = ap (fixed n) (take_all n l (omega arith)) ∙ fixed_same n l e

over_nothing : (l : List ℕ) → over [] l ≡ l
unfolding over
over_nothing l = refl

onto_nothing : (xs : List ℕ) → over xs [] ≡ []
unfolding over
onto_nothing [] = refl
onto_nothing (x ∷ xs) = refl

-- two copies, the second where the first ends, are one copy of both
pub over_join : (at : ℕ) (xs ys l : List ℕ) → over_at (at + length xs) ys (over_at at xs l) ≡ over_at at (xs ++ ys) l
unfolding over
over_join zero xs ys l = ap (λ (n : ℕ). over_at n ys (over xs l)) (zero-add (length xs)) ∙ front xs l
  where
    front : (xs l : List ℕ) → over_at (length xs) ys (over xs l) ≡ over (xs ++ ys) l
    front [] l = refl
    front (x ∷ xs) [] = onto_nothing ys
    front (x ∷ xs) (y ∷ l) = ap (λ (m : List ℕ). x ∷ m) (front xs l)
over_join (suc at) xs ys [] =
    ap₂ (λ (n : ℕ) (m : List ℕ). over_at n ys m) (suc-add at (length xs)) (onto_nothing xs) ∙ onto_nothing ys ∙ sym (onto_nothing (xs ++ ys))
over_join (suc at) xs ys (y ∷ l) =
    ap (λ (n : ℕ). over_at n ys (over_at (suc at) xs (y ∷ l))) (suc-add at (length xs)) ∙ ap (λ (m : List ℕ). y ∷ m) (over_join at xs ys l)

-- one turn of the loop: the octet at i is copied, and the rest of xs is still to be laid over the
-- rest of l
pub over_turn : (xs l : List ℕ) (i : ℕ) → i < length xs → i < length l
    → take (suc i) (set l i (get_or xs i 0)) ++ over (drop (suc i) xs) (drop (suc i) (set l i (get_or xs i 0))) ≡ take i l ++ over (drop i xs) (drop i l)
unfolding over
over_turn xs l i h k =
    let x = get_or xs i 0 in
    ap₂ (λ (a b : List ℕ). a ++ over (drop (suc i) xs) b) (take-suc-set l i x k) (drop-set-lt (suc i) l i x (omega arith))
    ∙ append_snoc (take i l) x (over (drop (suc i) xs) (drop (suc i) l))
    ∙ ap₂ (λ (a b : List ℕ). take i l ++ over a b) (sym (drop-cons xs i 0 h)) (sym (drop-cons l i 0 k))

-- the same, with the octet to be stored under a name of its own
pub over_step : (xs l : List ℕ) (i v : ℕ) → v ≡ get_or xs i 0 → i < length xs → i < length l
    → take (i + 1) (set l i v) ++ over (drop (i + 1) xs) (drop (i + 1) (set l i v)) ≡ take i l ++ over (drop i xs) (drop i l)
over_step xs l i v e h k =
    ap₂ (λ (n w : ℕ). take n (set l i w) ++ over (drop n xs) (drop n (set l i w))) (add-one i) e ∙ over_turn xs l i h k

pub over_end : (xs l : List ℕ) (i : ℕ) → min (length l) (length xs) ≤ i → take i l ++ over (drop i xs) (drop i l) ≡ l
over_end xs l i h = which (leb (length xs) i) refl
  where
    copied : length xs ≤ i → take i l ++ over (drop i xs) (drop i l) ≡ l
    copied k =
        ap (λ (a : List ℕ). take i l ++ over a (drop i l)) (drop_of_length-le xs k)
        ∙ ap (λ (a : List ℕ). take i l ++ a) (over_nothing (drop i l)) ∙ take-append-drop i l

    filled : length l ≤ i → take i l ++ over (drop i xs) (drop i l) ≡ l
    filled k =
        ap (λ (a : List ℕ). take i l ++ over (drop i xs) a) (drop_of_length-le l k)
        ∙ ap (λ (a : List ℕ). take i l ++ a) (onto_nothing (drop i xs) ∙ sym (drop_of_length-le l k)) ∙ take-append-drop i l

    which : (b : Bool) → leb (length xs) i ≡ b → take i l ++ over (drop i xs) (drop i l) ≡ l
    which true e = copied (leb-true (length xs) i e)
    which false e = filled (omega (arith, leb-false (length xs) i e))

-- ---- agrees

pub agrees_refl : (l : List ℕ) → agrees l l ≡ true
unfolding agrees
agrees_refl [] = refl
agrees_refl (x ∷ l) = ap₂ ◌&&◌ (eq-eqb x x refl) (agrees_refl l)

pub agrees_equal : (a b : List ℕ) → agrees a b ≡ true → a ≡ b
unfolding agrees
agrees_equal [] [] e = refl
agrees_equal [] (y ∷ b) e = absurd (false≢true e)
agrees_equal (x ∷ a) [] e = absurd (false≢true e)
agrees_equal (x ∷ a) (y ∷ b) e = first (eqb x y) refl e (agrees_equal a b)
  where
    first : (t : Bool) → eqb x y ≡ t → (t && agrees a b) ≡ true → (agrees a b ≡ true → a ≡ b) → ◌≡◌ {A = List ℕ} (x ∷ a) (y ∷ b)
    first true p q same = ap₂ (λ (v : ℕ) (l : List ℕ). v ∷ l) (eqb-true x y p) (same q)
    first false p q same = absurd (false≢true q)

pub agrees_sym : (a b : List ℕ) → agrees a b ≡ agrees b a
agrees_sym a b = which (agrees a b) (agrees b a) refl refl
  where
    which : (t u : Bool) → agrees a b ≡ t → agrees b a ≡ u → t ≡ u
    which true true p q = refl
    which true false p q = sym (agrees_refl a) ∙ ap (λ (x : List ℕ). agrees x a) (agrees_equal a b p) ∙ q
    which false true p q = sym (sym (agrees_refl b) ∙ ap (λ (x : List ℕ). agrees x b) (agrees_equal b a q) ∙ p)
    which false false p q = refl

pub agrees_lengths : (a b : List ℕ) → (length a ≡ length b → ⊥) → agrees a b ≡ false
unfolding agrees
agrees_lengths [] [] n = absurd (n refl)
agrees_lengths [] (y ∷ b) n = refl
agrees_lengths (x ∷ a) [] n = refl
agrees_lengths (x ∷ a) (y ∷ b) n =
    ap (λ (t : Bool). eqb x y && t) (agrees_lengths a b (λ e. n (ap suc e))) ∙ and-false (eqb x y)

-- one more difference: none is found where none was and the two octets are equal
none_more : (d x y : ℕ) → eqb (bit_or d (bit_xor x y)) 0 ≡ (eqb d 0 && eqb x y)
none_more d x y = which (eqb d 0) (eqb x y) refl refl
  where
    v : ℕ
    v = bit_xor x y

    parts : (bit_or d v ≡ 0) → (d ≡ 0) × (v ≡ 0)
    parts e = omega (arith, e, or_add_and d v, and_le_l d v, and_le_r d v)

    which : (s t : Bool) → eqb d 0 ≡ s → eqb x y ≡ t → eqb (bit_or d v) 0 ≡ (s && t)
    which true true p q =
        eq-eqb (bit_or d v) 0 (ap₂ bit_or (eqb-true d 0 p) (ap (λ (z : ℕ). bit_xor z y) (eqb-true x y q) ∙ xor_self y))
    which true false p q = ne_eqb (bit_or d v) 0 (λ e. eqb-false x y q (xor_none x y (parts e).1))
    which false t p q = ne_eqb (bit_or d v) 0 (λ e. eqb-false d 0 p (parts e).0)

-- the octets in pairs, and whether none differed before them or in them
pub agrees_fold : (a b : List ℕ) (d : ℕ) → length a ≡ length b
    → eqb (fold (λ d p. bit_or d (bit_xor p.0 p.1)) d (zip a b)) 0 ≡ (eqb d 0 && agrees a b)
unfolding agrees
agrees_fold [] [] d e = sym (and-true (eqb d 0))
agrees_fold [] (y ∷ b) d e = absurd (omega (arith, e))
agrees_fold (x ∷ a) [] d e = absurd (omega (arith, e))
agrees_fold (x ∷ a) (y ∷ b) d e =
    agrees_fold a b (bit_or d (bit_xor x y)) (omega (arith, e))
    ∙ ap (λ (t : Bool). t && agrees a b) (none_more d x y)
    ∙ and_assoc (eqb d 0) (eqb x y) (agrees a b)

-- one turn of the loop: what is left agrees where nothing differed yet
pub agrees_turn : (a b : List ℕ) (d i : ℕ) → i < length a → i < length b
    → (eqb (bit_or d (bit_xor (get_or a i 0) (get_or b i 0))) 0 && agrees (drop (suc i) a) (drop (suc i) b)) ≡ (eqb d 0 && agrees (drop i a) (drop i b))
unfolding agrees
agrees_turn a b d i h k =
    ap (λ (t : Bool). t && agrees (drop (suc i) a) (drop (suc i) b)) (none_more d (get_or a i 0) (get_or b i 0))
    ∙ and_assoc (eqb d 0) (eqb (get_or a i 0) (get_or b i 0)) (agrees (drop (suc i) a) (drop (suc i) b))
    ∙ ap₂ (λ (x y : List ℕ). eqb d 0 && agrees x y) (sym (drop-cons a i 0 h)) (sym (drop-cons b i 0 k))

pub agrees_end : (a b : List ℕ) (d i : ℕ) → length a ≤ i → length b ≤ i → (eqb d 0 && agrees (drop i a) (drop i b)) ≡ eqb d 0
unfolding agrees
agrees_end a b d i h k =
    ap₂ (λ (x y : List ℕ). eqb d 0 && agrees x y) (drop_of_length-le a h) (drop_of_length-le b k) ∙ and-true (eqb d 0)
