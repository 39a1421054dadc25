-- Entries of a buffer: one at a time, appended, and whether one stands among others.
-- Assumes nothing.
use mathlib.Core.Bool.{Bool, true, false, ◌||◌, or_assoc, false≢true}
use mathlib.Core.List.{List, [], ◌∷◌, ◌++◌, append_assoc, flatten}
use mathlib.Core.Path.{◌≡◌, refl, sym, ap, ap₂, ◌∙◌, subst}
use Prim.Native.Nat.{ℕ, zero, suc, ◌+◌, ◌*◌, ◌/◌, ◌≤◌, ◌<◌}
use native.Mathlib.Nat.{div-eq_of_lt, add-div_right, mul-div_cancel_left, mul-suc, mul-add}
use native.Mathlib.Nat.{mul-zero, zero-add, suc-add}
use native.Mathlib.Omega.{arith}
use lib.ListN.{length, take, drop, length-append, length-drop, take-append-drop}
use lib.Seq.{length-take-le, take-append-le, drop-append-le, take-add, take_at, drop_at, drop-drop}
use Rattle.octets.specs.Parts.{over_at, agrees}
use Rattle.octets.proofs.Parts.{over_fits, agrees_sym, agrees_equal}
use Rattle.issued.specs.Issued.{entries, entries_in, places, contains, contains_any}

-- ---- entries as chunks of a run

-- the first one, which is n octets long, and the others
pub entries_more : (w : ℕ) (x r : List ℕ) {l : List ℕ} {n : ℕ} → 0 < w → n ≡ w → l ≡ x ++ r → length x ≡ n
    → entries_in w l ≡ x ∷ entries_in w r
entries_more w x r {l} p m e f =
    ap (entries_in w) e
    ∙ ap (λ (n : ℕ). entries w n (x ++ r)) count
    ∙ ap₂ (λ (y : List ℕ) (m : List ℕ). y ∷ entries w (places w r) m) (take_at x r w k) (drop_at x r w k)
  where
    k : length x ≡ w
    k = f ∙ m

    long : length (x ++ r) ≡ length r + w
    long = omega (arith, length-append x r, k)

    count : places w (x ++ r) ≡ suc (places w r)
    count = ap (λ (n : ℕ). n / w) long ∙ add-div_right (length r) p ∙ omega arith

-- none where less is left than one
pub entries_none : (w : ℕ) (l : List ℕ) {n : ℕ} → n ≡ w → length l < n → entries_in w l ≡ []
entries_none w l {n} m h =
    ap (λ (n : ℕ). entries w n l) (div-eq_of_lt (subst (λ (k : ℕ). length l < k) m h))

-- ---- whether an entry stands among others

or_exchange : (p q r s : Bool) → ((p || q) || (r || s)) ≡ ((p || r) || (q || s))
or_exchange true q r s = refl
or_exchange false true true s = refl
or_exchange false true false s = refl
or_exchange false false true s = refl
or_exchange false false false s = refl

-- one more entry of the list: it is one of cs, or another one is
pub contains_any_next : (cs es : List (List ℕ)) (e : List ℕ) → contains_any cs (e ∷ es) ≡ (contains cs e || contains_any cs es)
unfolding contains_any contains
contains_any_next [] es e = refl
contains_any_next (c ∷ cs) es e =
    ap₂ (λ (t u : Bool). (t || contains es c) || u) (agrees_sym e c) (contains_any_next cs es e)
    ∙ or_exchange (agrees c e) (contains es c) (contains cs e) (contains_any cs es)

pub contains_any_none : (cs : List (List ℕ)) → contains_any cs [] ≡ false
unfolding contains_any contains
contains_any_none [] = refl
contains_any_none (c ∷ cs) = contains_any_none cs

pub contains_append : (es fs : List (List ℕ)) (c : List ℕ) → contains (es ++ fs) c ≡ (contains es c || contains fs c)
unfolding contains
contains_append [] fs c = refl
contains_append (e ∷ es) fs c = ap (λ (t : Bool). agrees e c || t) (contains_append es fs c) ∙ sym (or_assoc (agrees e c) (contains es c) (contains fs c))

-- where none of cs stands among es, an entry of cs does not
pub not_met : (cs es : List (List ℕ)) (c : List ℕ) → contains_any cs es ≡ false → contains cs c ≡ true → contains es c ≡ false
unfolding contains_any contains
not_met [] es c m h = absurd (false≢true h)
not_met (d ∷ cs) es c m h = which (agrees d c) (contains es d) refl refl (not_met cs es c)
  where
    which : (t u : Bool) → agrees d c ≡ t → contains es d ≡ u → (contains_any cs es ≡ false → contains cs c ≡ true → contains es c ≡ false) → contains es c ≡ false
    which t true p q next = absurd (false≢true (sym m ∙ ap (λ (x : Bool). x || contains_any cs es) q))
    which true false p q next = ap (contains es) (sym (agrees_equal d c p)) ∙ q
    which false false p q next =
        next (sym (ap (λ (x : Bool). x || contains_any cs es) q) ∙ m) (sym (ap (λ (x : Bool). x || contains cs c) p) ∙ h)

-- ---- how many, and where they lie

pub length_entries : (w n : ℕ) (l : List ℕ) → length (entries w n l) ≡ n
length_entries w zero l = refl
length_entries w (suc n) l = ap suc (length_entries w n (drop w l))

-- how many there are
pub length_in : (w : ℕ) (l : List ℕ) → length (entries_in w l) ≡ places w l
length_in w l = length_entries w (places w l) l

pub flatten_entries : (w n : ℕ) (l : List ℕ) → flatten (entries w n l) ≡ take (w * n) l
unfolding flatten
flatten_entries w zero l = ap (λ (k : ℕ). take k l) (sym (mul-zero w))
flatten_entries w (suc n) l =
    let e : w + w * n ≡ w * suc n = omega (arith, mul-suc w n) in
    ap (λ (r : List ℕ). take w l ++ r) (flatten_entries w n (drop w l)) ∙ sym (take-add w (w * n) l) ∙ ap (λ (k : ℕ). take k l) e

-- entries of w octets each
abbrev pub Wide : ℕ → List (List ℕ) → Type 0
Wide w [] = Unit {0}
Wide w (c ∷ cs) = (length c ≡ w) × Wide w cs

pub length_flatten : (w : ℕ) (cs : List (List ℕ)) → Wide w cs → length (flatten cs) ≡ w * length cs
unfolding flatten
length_flatten w [] h = sym (mul-zero w)
length_flatten w (c ∷ cs) h = length-append c (flatten cs) ∙ omega (arith, h.0, length_flatten w cs h.1, mul-suc w (length cs))

pub entries_flatten : (w : ℕ) (cs : List (List ℕ)) (r : List ℕ) → Wide w cs → entries w (length cs) (flatten cs ++ r) ≡ cs
unfolding flatten
entries_flatten w [] r h = refl
entries_flatten w (c ∷ cs) r h =
    let e = append_assoc c (flatten cs) r in
    ap₂ (λ (x : List ℕ) (y : List (List ℕ)). x ∷ y)
    (ap (take w) e ∙ take_at c (flatten cs ++ r) w h.0)
    (ap (λ (x : List ℕ). entries w (length cs) x) (ap (drop w) e ∙ drop_at c (flatten cs ++ r) w h.0) ∙ entries_flatten w cs r h.1)

-- what lies behind n entries has no part in them
entries_front : (w n : ℕ) (l r : List ℕ) → w * n ≤ length l → entries w n (l ++ r) ≡ entries w n l
entries_front w zero l r h = refl
entries_front w (suc n) l r h =
    let f : w ≤ length l = omega (arith, mul-suc w n) in
    ap₂ (λ (x : List ℕ) (y : List (List ℕ)). x ∷ y) (take-append-le w l r f)
    (ap (entries w n) (drop-append-le w l r f) ∙ entries_front w n (drop w l) r (omega (arith, mul-suc w n, length-drop w l)))

entries_add : (w n m : ℕ) (l : List ℕ) → entries w (n + m) l ≡ entries w n l ++ entries w m (drop (w * n) l)
entries_add w zero m l = ap₂ (λ (k : ℕ) (x : List ℕ). entries w k x) (zero-add m) (ap (λ (k : ℕ). drop k l) (sym (mul-zero w)))
entries_add w (suc n) m l =
    let e : w + w * n ≡ w * suc n = omega (arith, mul-suc w n) in
    ap (λ (k : ℕ). entries w k l) (suc-add n m)
    ∙ ap (λ (x : List (List ℕ)). take w l ∷ x) (entries_add w n m (drop w l))
    ∙ ap (λ (x : List ℕ). take w l ∷ entries w n (drop w l) ++ entries w m x) (drop-drop (w * n) w l ∙ ap (λ (k : ℕ). drop k l) e)

-- cs laid over the places behind n entries stand behind those
pub entries_laid : (w n : ℕ) (cs : List (List ℕ)) (l : List ℕ) → Wide w cs → w * (n + length cs) ≤ length l
    → entries w (n + length cs) (over_at (w * n) (flatten cs) l) ≡ entries w n l ++ cs
entries_laid w n cs l wide fits =
    let k = w * n in
    let j = length_flatten w cs wide in
    let front : length (take k l) ≡ k = length-take-le k l (omega (arith, mul-add w n (length cs))) in
    let behind = drop (length (flatten cs)) (drop k l) in
    let laid : over_at k (flatten cs) l ≡ take k l ++ (flatten cs ++ behind) =
    ap (λ (x : List ℕ). take k l ++ x) (over_fits (flatten cs) (drop k l) (omega (arith, length-drop k l, mul-add w n (length cs)))) in
    entries_add w n (length cs) (over_at k (flatten cs) l)
    ∙ ap (λ (x : List ℕ). entries w n x ++ entries w (length cs) (drop k x)) laid
    ∙ ap₂ (λ (x y : List (List ℕ)). x ++ y)
    (entries_front w n (take k l) (flatten cs ++ behind) (omega arith)
    ∙ sym (entries_front w n (take k l) (drop k l) (omega arith)) ∙ ap (entries w n) (take-append-drop k l))
    (ap (entries w (length cs)) (drop_at (take k l) (flatten cs ++ behind) k front) ∙ entries_flatten w cs behind wide)

-- the used places of a buffer are a run of their own
pub entries_used : (w used : ℕ) (l : List ℕ) → 0 < w → w * used ≤ length l
    → (places w (take (w * used) l) ≡ used) × (entries_in w (take (w * used) l) ≡ entries w used l)
entries_used w used l p h = (count, same)
  where
    long : length (take (w * used) l) ≡ w * used
    long = length-take-le (w * used) l h

    count : places w (take (w * used) l) ≡ used
    count = ap (λ (n : ℕ). n / w) long ∙ mul-div_cancel_left used p

    same : entries_in w (take (w * used) l) ≡ entries w used l
    same =
        ap (λ (n : ℕ). entries w n (take (w * used) l)) count
        ∙ sym (entries_front w used (take (w * used) l) (drop (w * used) l) (omega (arith, long)))
        ∙ ap (entries w used) (take-append-drop (w * used) l)
