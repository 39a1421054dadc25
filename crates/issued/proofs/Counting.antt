-- Counts of last octets: what they are of more entries, how large they get, and how the code raises
-- them.
-- Assumes nothing.
use mathlib.Core.Bool.{Bool, true, false, cond, ◌||◌}
use mathlib.Core.List.{List, [], ◌∷◌, ◌++◌, append-nil}
use mathlib.Core.Path.{◌≡◌, refl, sym, ap, ◌∙◌, subst}
use Prim.Native.Nat.{ℕ, zero, suc, ◌+◌, ◌≤◌, ◌<◌}
use native.Mathlib.Omega.{arith}
use borrow.Author.Tests.{eq-eqb, eqb-true, eqb-false, leb-true, leb-false}
use lib.Dec.{eqb, leb}
use lib.ListN.{length, replicate, get_or, length-set, get_or-eq_default}
use lib.Seq.{ext_get_or, get_or-set_same, get_or-set_other, set_out, append_snoc}
use Rattle.octets.specs.Parts.{agrees}
use Rattle.octets.proofs.Parts.{agrees_equal}
use Rattle.issued.specs.Issued.{contains, last_of, ending, endings, counts_of}
use Rattle.issued.specs.Inner.{raised_at, raised, CountsFit}

-- ---- how many end in an octet

ending_append : (x : ℕ) (es fs : List (List ℕ)) → ending x (es ++ fs) ≡ ending x es + ending x fs
unfolding ending
ending_append x [] fs = omega arith
ending_append x (e ∷ es) fs = omega (arith, ending_append x es fs)

ending_most : (x : ℕ) (es : List (List ℕ)) → ending x es ≤ length es
unfolding ending
ending_most x [] = omega arith
ending_most x (e ∷ es) = which (eqb (last_of e) x) (ending_most x es)
  where
    which : (t : Bool) → ending x es ≤ length es → cond t 1 0 + ending x es ≤ suc (length es)
    which true h = omega arith
    which false h = omega arith

-- where none ends in the last octet of an entry, that entry is none of them
pub none_contains : (cs : List (List ℕ)) (e : List ℕ) → ending (last_of e) cs ≡ 0 → contains cs e ≡ false
unfolding ending contains
none_contains [] e h = refl
none_contains (c ∷ cs) e h = which (agrees c e) refl (none_contains cs e)
  where
    same : agrees c e ≡ true → eqb (last_of c) (last_of e) ≡ true
    same a = eq-eqb (last_of c) (last_of e) (ap last_of (agrees_equal c e a))

    one : (t : Bool) → t ≡ true → cond t 1 0 + ending (last_of e) cs ≡ 0 → ⊥
    one true p z = omega arith
    one false p z = let q : ◌≡◌ {A = ℕ} 0 1 = cc in omega arith

    rest : (t : Bool) → cond t 1 0 + ending (last_of e) cs ≡ 0 → ending (last_of e) cs ≡ 0
    rest true z = absurd (omega arith)
    rest false z = omega arith

    which : (t : Bool) → agrees c e ≡ t → (ending (last_of e) cs ≡ 0 → contains cs e ≡ false) → (t || contains cs e) ≡ false
    which true p next = absurd (one (eqb (last_of c) (last_of e)) (same p) h)
    which false p next = next (rest (eqb (last_of c) (last_of e)) h)

-- ---- the counts as a list

pub length_endings : (x n : ℕ) (es : List (List ℕ)) → length (endings x n es) ≡ n
unfolding endings
length_endings x zero es = refl
length_endings x (suc n) es = ap suc (length_endings (suc x) n es)

get_or-endings : (x n k : ℕ) (es : List (List ℕ)) → k < n → get_or (endings x n es) k 0 ≡ ending (x + k) es
unfolding endings
get_or-endings x zero k es h = absurd (omega arith)
get_or-endings x (suc n) zero es h = ap (λ (y : ℕ). ending y es) (omega arith)
get_or-endings x (suc n) (suc k) es h = get_or-endings (suc x) n k es (omega arith) ∙ ap (λ (y : ℕ). ending y es) (omega arith)

count_at : (es : List (List ℕ)) (k : ℕ) → k < 256 → get_or (counts_of es) k 0 ≡ ending k es
count_at es k h = get_or-endings 0 256 k es h ∙ ap (λ (y : ℕ). ending y es) (omega arith)

-- ---- raised

length_raised_at : (counts : List ℕ) (x : ℕ) → length (raised_at counts x) ≡ length counts
length_raised_at counts x = length-set counts x (get_or counts x 0 + 1)

ending_one : (x : ℕ) (e : List ℕ) → ending x (e ∷ []) ≡ cond (eqb (last_of e) x) 1 0
unfolding ending
ending_one x e = omega arith

raised_one : (es : List (List ℕ)) (e : List ℕ) → raised_at (counts_of es) (last_of e) ≡ counts_of (es ++ (e ∷ []))
raised_one es e =
    ext_get_or 0 (raised_at (counts_of es) (last_of e)) (counts_of (es ++ (e ∷ [])))
    (size ∙ sym (length_endings 0 256 (es ++ (e ∷ []))))
    (λ k h. each k (omega (arith, size)) (eqb (last_of e) k) refl)
  where
    size : length (raised_at (counts_of es) (last_of e)) ≡ 256
    size = length_raised_at (counts_of es) (last_of e) ∙ length_endings 0 256 es

    more : (k : ℕ) → ending k (es ++ (e ∷ [])) ≡ ending k es + cond (eqb (last_of e) k) 1 0
    more k = ending_append k es (e ∷ []) ∙ ap (λ (n : ℕ). ending k es + n) (ending_one k e)

    each : (k : ℕ) → k < 256 → (t : Bool) → eqb (last_of e) k ≡ t → get_or (raised_at (counts_of es) (last_of e)) k 0 ≡ get_or (counts_of (es ++ (e ∷ []))) k 0
    each k h true p =
        let same = eqb-true (last_of e) k p in
        ap (λ (y : ℕ). get_or (raised_at (counts_of es) y) k 0) same
        ∙ get_or-set_same (counts_of es) k (get_or (counts_of es) k 0 + 1) 0 (omega (arith, length_endings 0 256 es))
        ∙ ap (λ (n : ℕ). n + 1) (count_at es k h)
        ∙ sym (count_at (es ++ (e ∷ [])) k h ∙ more k ∙ ap (λ (u : Bool). ending k es + cond u 1 0) p)
    each k h false p =
        get_or-set_other (counts_of es) (last_of e) k (get_or (counts_of es) (last_of e) 0 + 1) 0 (λ q. eqb-false (last_of e) k p (sym q))
        ∙ count_at es k h
        ∙ sym (count_at (es ++ (e ∷ [])) k h ∙ more k ∙ ap (λ (u : Bool). ending k es + cond u 1 0) p ∙ omega arith)

-- raised for each of cs, true counts are true of the list with cs behind it
pub raised_counts_lem : (es cs : List (List ℕ)) → raised (counts_of es) cs ≡ counts_of (es ++ cs)
unfolding raised
raised_counts_lem es [] = ap counts_of (sym (append-nil es))
raised_counts_lem es (c ∷ cs) =
    ap (λ (l : List ℕ). raised l cs) (raised_one es c) ∙ raised_counts_lem (es ++ (c ∷ [])) cs ∙ ap counts_of (append_snoc es c cs)

pub none_counted : replicate 256 0 ≡ counts_of []
unfolding endings ending
none_counted = refl

-- raised from 0, the counts are those of cs
pub counted : {counts : List ℕ} (cs : List (List ℕ)) → counts ≡ raised (replicate 256 0) cs → counts ≡ counts_of cs
counted cs e = e ∙ ap (λ (l : List ℕ). raised l cs) none_counted ∙ raised_counts_lem [] cs

-- ---- room

pub counts_room : (es : List (List ℕ)) (n : ℕ) → length es + n < 65536 → CountsFit (counts_of es) n
counts_room es n h x = which (leb 256 x) refl
  where
    which : (t : Bool) → leb 256 x ≡ t → get_or (counts_of es) x 0 + n < 65536
    which true p = omega (arith, get_or-eq_default (counts_of es) 0 {n = x} (omega (arith, leb-true 256 x p, length_endings 0 256 es)))
    which false p = omega (arith, count_at es x (leb-false 256 x p), ending_most x es)

pub zeros_room : (n : ℕ) → n < 65536 → CountsFit (replicate 256 0) n
zeros_room n h = subst (λ (l : List ℕ). CountsFit l n) (sym none_counted) (counts_room [] n (omega arith))

raised_at_most : (counts : List ℕ) (x y : ℕ) → get_or (raised_at counts x) y 0 ≤ get_or counts y 0 + 1
raised_at_most counts x y = which (eqb y x) (leb (length counts) x) refl refl
  where
    which : (t u : Bool) → eqb y x ≡ t → leb (length counts) x ≡ u → get_or (raised_at counts x) y 0 ≤ get_or counts y 0 + 1
    which true true p q =
        omega (arith, ap (λ (l : List ℕ). get_or l y 0) (set_out counts x (get_or counts x 0 + 1) (leb-true (length counts) x q)))
    which true false p q =
        let e = eqb-true y x p in
        omega (arith, ap (λ (z : ℕ). get_or (raised_at counts x) z 0) e, ap (λ (z : ℕ). get_or counts z 0) e, get_or-set_same counts x (get_or counts x 0 + 1) 0 (leb-false (length counts) x q))
    which false u p q = omega (arith, get_or-set_other counts x y (get_or counts x 0 + 1) 0 (eqb-false y x p))

-- ---- a loop that raises the counts

-- the entries es are left to be counted, and then the counts are `all`
pub record Uncounted (counts : List ℕ) (es : List (List ℕ)) (all : List ℕ) : Type 0 where
  pub size : length counts ≡ 256
  pub room : CountsFit counts (length es)
  pub same : raised counts es ≡ all

module _ {counts : List ℕ} {es : List (List ℕ)} {all : List ℕ} (h : Uncounted counts es all) where
  pub raise_fits : {e : List ℕ} {fs : List (List ℕ)} → es ≡ e ∷ fs → (x : ℕ)
      → (length counts ≡ 256) × (get_or counts x 0 < 65535)
  raise_fits k x = (h.size, omega (arith, h.room x, ap length k))

  -- one more is counted
  pub raise_next : {e : List ℕ} {fs : List (List ℕ)} → es ≡ e ∷ fs
      → {raised_counts : List ℕ} {x : ℕ} → raised_counts ≡ raised_at counts x → x ≡ last_of e
      → Uncounted raised_counts fs all
  unfolding raised
  raise_next {e} {fs} k g f =
      let r = g ∙ ap (raised_at counts) f in
      let n : length es ≡ suc (length fs) = ap length k in
      record {
        size = ap length r ∙ length_raised_at counts (last_of e) ∙ h.size;
        room = λ y. omega (arith, h.room y, n, ap (λ (m : List ℕ). get_or m y 0) r, raised_at_most counts (last_of e) y);
        same = ap (λ (m : List ℕ). raised m fs) r ∙ sym (ap (raised counts) k) ∙ h.same;
      }

  pub all_counted : es ≡ [] → counts ≡ all
  unfolding raised
  all_counted z = sym (ap (raised counts) z) ∙ h.same
