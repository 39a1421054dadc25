-- Entries that are not refused: what is known then, and that the list has them behind those that it
-- had, with counts that are true.
-- Assumes nothing.
use mathlib.Core.Bool.{Bool, true, false, cond, not, ◌&&◌, ◌||◌, or-true, false≢true}
use mathlib.Core.List.{List, [], ◌∷◌, ◌++◌, flatten}
use mathlib.Core.Logic.{◌≢◌}
use mathlib.Core.Path.{◌≡◌, refl, sym, ap, ◌∙◌}
use Prim.Native.Nat.{ℕ, ◌+◌, ◌-◌, ◌*◌, ◌/◌, ◌%◌, ◌≤◌, ◌<◌}
use native.Mathlib.Nat.{mul-le-mul_left, mul-div-le}
use native.Mathlib.Omega.{arith}
use borrow.Author.Tests.{eqb-true, eqb-false, ne_eqb, le-ltb, ltb-false}
use lib.Dec.{eqb, ltb}
use lib.ListN.{length, replicate}
use lib.Pointwise.{pointwise}
use Rattle.std.specs.Prelude.{Result, Ok, Err, IsErr}
use Rattle.octets.specs.Parts.{agrees}
use Rattle.refusals.specs.declared.Refusal.{Refusal}
use Rattle.octets.proofs.Parts.{length_over_at, agrees_refl, agrees_equal}
use Rattle.issued.specs.Issued.{Issued, entries, places, listed, contains, contains_any, counts_of}
use Rattle.issued.specs.Issued.{bad_buffer, bad_counts, full, spend_refusal, added, spent}
use Rattle.issued.specs.Issued.{used_after}
use Rattle.issued.proofs.Listing.{Wide, entries_laid, contains_append, contains_any_none}
use Rattle.issued.proofs.Counting.{none_counted}

-- ---- what is known of a buffer that is not refused

pub record GoodList (w : ℕ) (l : List ℕ) (used : ℕ) : Type 0 where
  pub positive : 0 < w
  pub few : places w l ≤ 4096
  pub fits : used ≤ places w l

pub sound : (w : ℕ) (l : List ℕ) (used : ℕ) → bad_buffer w l used ≡ false → GoodList w l used
unfolding bad_buffer
sound w l used h = which (eqb w 0) (eqb (length l % w) 0) (ltb 4096 (places w l)) refl refl h
  where
    which : (t₁ t₂ t₃ : Bool) → eqb w 0 ≡ t₁ → ltb 4096 (places w l) ≡ t₃ → (t₁ || (not t₂ || (t₃ || ltb (places w l) used))) ≡ false → GoodList w l used
    which true t₂ t₃ p₁ p₃ z = absurd (false≢true (sym z))
    which false false t₃ p₁ p₃ z = absurd (false≢true (sym z))
    which false true true p₁ p₃ z = absurd (false≢true (sym z))
    which false true false p₁ p₃ z =
        let n = eqb-false w 0 p₁ in
        record { positive = omega arith; few = ltb-false 4096 (places w l) p₃; fits = ltb-false (places w l) used z }

-- a buffer of the same length, with as many used as it has places for
still_sound : (w : ℕ) (l m : List ℕ) (used more : ℕ) → length l ≡ length m → bad_buffer w l used ≡ false → more ≤ places w l → bad_buffer w m more ≡ false
unfolding bad_buffer
still_sound w l m used more e h fits =
    ap (λ (n : ℕ). eqb w 0 || (not (eqb (n % w) 0) || (ltb 4096 (n / w) || ltb (n / w) more))) (sym e)
    ∙ which (eqb w 0) (eqb (length l % w) 0) (ltb 4096 (places w l)) (ltb (places w l) used) (ltb (places w l) more) (le-ltb (places w l) more fits) h
  where
    which : (t₁ t₂ t₃ t₄ t₅ : Bool) → t₅ ≡ false → (t₁ || (not t₂ || (t₃ || t₄))) ≡ false → (t₁ || (not t₂ || (t₃ || t₅))) ≡ false
    which true t₂ t₃ t₄ t₅ p z = z
    which false false t₃ t₄ t₅ p z = z
    which false true true t₄ t₅ p z = z
    which false true false t₄ t₅ p z = p

-- where n places are there, so are their octets
pub places_fit : (w n : ℕ) (l : List ℕ) → n ≤ places w l → w * n ≤ length l
places_fit w n l h = omega (arith, mul-le-mul_left w h, mul-div-le (length l) w)

-- ---- what is known of entries that are not refused

pub record Spendable (w : ℕ) (cs : List (List ℕ)) (i : Issued) : Type 0 where
  pub passed : bad_buffer w i.buffer i.used ≡ false
  pub buffer : GoodList w i.buffer i.used
  pub counts : i.counts ≡ counts_of (listed w i)
  pub fresh : contains_any cs (listed w i) ≡ false
  pub room : i.used + length cs ≤ places w i.buffer

pub spendable : (w : ℕ) (cs : List (List ℕ)) (i : Issued) → spend_refusal w cs i ≡ 0 → Spendable w cs i
unfolding spend_refusal
spendable w cs i h =
    which (bad_buffer w i.buffer i.used) (agrees (counts_of (listed w i)) i.counts) (contains_any cs (listed w i)) (full w cs i) refl refl refl refl h
  where
    which : (t₁ t₂ t₃ t₄ : Bool) → bad_buffer w i.buffer i.used ≡ t₁ → agrees (counts_of (listed w i)) i.counts ≡ t₂ → contains_any cs (listed w i) ≡ t₃
        → full w cs i ≡ t₄ → ◌≡◌ {A = ℕ} (cond t₁ 24 (cond (not t₂) 24 (cond t₃ 16 (cond t₄ 17 0)))) 0 → Spendable w cs i
    which true t₂ t₃ t₄ p₁ p₂ p₃ p₄ z = absurd (omega arith)
    which false false t₃ t₄ p₁ p₂ p₃ p₄ z = absurd (omega arith)
    which false true true t₄ p₁ p₂ p₃ p₄ z = absurd (omega arith)
    which false true false true p₁ p₂ p₃ p₄ z = absurd (omega arith)
    which false true false false p₁ p₂ p₃ p₄ z =
        let g = sound w i.buffer i.used p₁ in
        let r = ltb-false (places w i.buffer - i.used) (length cs) p₄ in
        record { passed = p₁; buffer = g; counts = sym (agrees_equal (counts_of (listed w i)) i.counts p₂); fresh = p₃; room = omega (arith, g.fits) }

-- and where that is so, they are not refused
pub may_spend : (w : ℕ) (cs : List (List ℕ)) (i : Issued) → bad_buffer w i.buffer i.used ≡ false → i.counts ≡ counts_of (listed w i)
    → contains_any cs (listed w i) ≡ false → i.used + length cs ≤ places w i.buffer → spend_refusal w cs i ≡ 0
unfolding spend_refusal
may_spend w cs i sound counts fresh room =
    let told = ap (agrees (counts_of (listed w i))) counts ∙ agrees_refl (counts_of (listed w i)) in
    simp (sound, told, fresh, le-ltb (places w i.buffer - i.used) (length cs) (omega arith))

-- an empty list, whatever lies in its places
pub may_spend_empty : (w : ℕ) (cs : List (List ℕ)) (i : Issued) → bad_buffer w i.buffer i.used ≡ false → i.used ≡ 0 → i.counts ≡ replicate 256 0
    → length cs ≤ places w i.buffer → spend_refusal w cs i ≡ 0
may_spend_empty w cs i sound none zeros room =
    let empty : listed w i ≡ [] = ap (λ (n : ℕ). entries w n i.buffer) none in
    may_spend w cs i sound (zeros ∙ none_counted ∙ ap counts_of (sym empty)) (ap (contains_any cs) empty ∙ contains_any_none cs) (omega arith)

-- ---- what is refused, test by test

-- equal lists of counts are told as the definition tells them
pub same_counts : (a b : List ℕ) → pointwise eqb a b ≡ agrees a b
unfolding agrees
same_counts [] [] = refl
same_counts [] (y ∷ b) = refl
same_counts (x ∷ a) [] = refl
same_counts (x ∷ a) (y ∷ b) = ap (λ (t : Bool). eqb x y && t) (same_counts a b)

module _ (w : ℕ) (cs : List (List ℕ)) (i : Issued) where
  pub bad_refused : bad_buffer w i.buffer i.used ≡ true → 24 ≡ spend_refusal w cs i
  unfolding spend_refusal
  bad_refused g = rw g

  module _ (g : bad_buffer w i.buffer i.used ≡ false) where
    pub counts_refused : bad_counts w i ≡ true → 24 ≡ spend_refusal w cs i
    unfolding spend_refusal
    counts_refused k = rw (g, k)

    module _ (k : bad_counts w i ≡ false) where
      pub met_refused : contains_any cs (listed w i) ≡ true → 16 ≡ spend_refusal w cs i
      unfolding spend_refusal
      met_refused m = rw (g, k, m)

      module _ (m : contains_any cs (listed w i) ≡ false) where
        pub full_refused : full w cs i ≡ true → 17 ≡ spend_refusal w cs i
        unfolding spend_refusal
        full_refused f = rw (g, k, m, f)

        pub none_refused : full w cs i ≡ false → 0 ≡ spend_refusal w cs i
        unfolding spend_refusal
        none_refused f = rw (g, k, m, f)

-- where an answer is a refusal, as many places are used as before
pub used_still : (used : ℕ) (r : Result ℕ Refusal) → IsErr r → used_after used r ≡ used
used_still used (Ok n) h = absurd (false≢true h)
used_still used (Err e) h = refl

-- ---- the list afterwards

pub same_issued : {b b' c c' : List ℕ} {u u' : ℕ} → b ≡ b' → u ≡ u' → c ≡ c'
    → ◌≡◌ {A = Issued} (record { buffer = b; used = u; counts = c }) (record { buffer = b'; used = u'; counts = c' })
same_issued p q r = cc

module _ (w : ℕ) (cs : List (List ℕ)) (i : Issued) where
  pub spent_added : spend_refusal w cs i ≡ 0 → spent w cs i ≡ added w cs i
  unfolding spent
  spent_added h = rw h

  pub spent_refused : spend_refusal w cs i ≢ 0 → spent w cs i ≡ i
  unfolding spent
  spent_refused n = rw (ne_eqb (spend_refusal w cs i) 0 n)

  -- entries that are not refused stand behind those that were there
  pub spent_listed : Wide w cs → spend_refusal w cs i ≡ 0 → listed w (spent w cs i) ≡ listed w i ++ cs
  spent_listed wide h =
      let a = spendable w cs i h in
      ap (listed w) (spent_added h)
      ∙ entries_laid w i.used cs i.buffer wide (places_fit w (i.used + length cs) i.buffer a.room)

  -- "true after every operation that was lent true ones"
  pub spent_true : Wide w cs → i.counts ≡ counts_of (listed w i) → (spent w cs i).counts ≡ counts_of (listed w (spent w cs i))
  spent_true wide e = which (eqb (spend_refusal w cs i) 0) refl
    where
      which : (t : Bool) → eqb (spend_refusal w cs i) 0 ≡ t → (spent w cs i).counts ≡ counts_of (listed w (spent w cs i))
      which true p =
          let z = eqb-true (spend_refusal w cs i) 0 p in
          ap (λ (x : Issued). x.counts) (spent_added z) ∙ ap counts_of (sym (spent_listed wide z))
      which false p =
          let same = spent_refused (eqb-false (spend_refusal w cs i) 0 p) in
          ap (λ (x : Issued). x.counts) same ∙ e ∙ ap (λ (x : Issued). counts_of (listed w x)) (sym same)

  -- whatever was to be spent, what stood in the list stands there still
  pub spent_keeps : Wide w cs → (c : List ℕ) → contains (listed w i) c ≡ true → contains (listed w (spent w cs i)) c ≡ true
  spent_keeps wide c e = which (eqb (spend_refusal w cs i) 0) refl
    where
      which : (t : Bool) → eqb (spend_refusal w cs i) 0 ≡ t → contains (listed w (spent w cs i)) c ≡ true
      which true p =
          ap (λ (es : List (List ℕ)). contains es c) (spent_listed wide (eqb-true (spend_refusal w cs i) 0 p))
          ∙ contains_append (listed w i) cs c ∙ ap (λ (t : Bool). t || contains cs c) e
      which false p = ap (λ (x : Issued). contains (listed w x) c) (spent_refused (eqb-false (spend_refusal w cs i) 0 p)) ∙ e

  -- entries that are not refused stand in the list afterwards
  pub spent_contains : Wide w cs → spend_refusal w cs i ≡ 0 → (c : List ℕ) → contains cs c ≡ true → contains (listed w (spent w cs i)) c ≡ true
  spent_contains wide h c e =
      ap (λ (es : List (List ℕ)). contains es c) (spent_listed wide h)
      ∙ contains_append (listed w i) cs c ∙ ap (λ (t : Bool). contains (listed w i) c || t) e ∙ or-true (contains (listed w i) c)

  -- and leave a buffer, a number and counts that draw no 24
  pub spent_sound : Wide w cs → spend_refusal w cs i ≡ 0 → (bad_buffer w (spent w cs i).buffer (spent w cs i).used ≡ false) × (bad_counts w (spent w cs i) ≡ false)
  spent_sound wide h =
      let a = spendable w cs i h in
      let e = spent_added h in
      let long = ap (λ (x : Issued). length x.buffer) e ∙ length_over_at (w * i.used) (flatten cs) i.buffer in (
        ap (bad_buffer w (spent w cs i).buffer) (ap (λ (x : Issued). x.used) e) ∙ still_sound w i.buffer (spent w cs i).buffer i.used (i.used + length cs) (sym long) a.passed a.room,
        ap (λ (l : List ℕ). not (agrees (counts_of (listed w (spent w cs i))) l)) (spent_true wide a.counts)
            ∙ ap not (agrees_refl (counts_of (listed w (spent w cs i)))),
      )
