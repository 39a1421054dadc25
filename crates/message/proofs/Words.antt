-- The words of a message against its octets: the first word of a text, and what the others tell.
-- Assumes nothing.
use mathlib.Core.Path.{◌≡◌, refl, sym, ap, ◌∙◌}
use mathlib.Core.Bool.{Bool, true, false, cond}
use mathlib.Core.List.{List, [], ◌∷◌}
use Prim.Native.Nat.{ℕ, suc, ◌+◌, ◌-◌, ◌≤◌}
use native.Mathlib.Omega.{arith}
use borrow.Author.Tests.{eq-eqb, ne_eqb, eqb-true, eqb-false}
use lib.Dec.{eqb}
use lib.ListN.{length, drop, get_or, length-drop}
use lib.Seq.{drop-drop, take_all}
use Rattle.octets.specs.Parts.{part}
use Rattle.octets.specs.Split.{before, with_first}
use Rattle.message.specs.Message.{words, is_field, field_of}
use Rattle.message.specs.Inner.{ParsedFields, parsed_in, first_word, word_at}

-- ---- the first word, and the others

words_space : (x : ℕ) (m : List ℕ) → x ≡ 32 → words (x ∷ m) ≡ [] ∷ words m
unfolding words
words_space x m e = simp (eq-eqb x 32 e)

words_other : (x : ℕ) (m : List ℕ) → (x ≡ 32 → ⊥) → words (x ∷ m) ≡ with_first x (words m)
unfolding words
words_other x m n = simp (ne_eqb x 32 n)

first_space : (x : ℕ) (m : List ℕ) → x ≡ 32 → first_word (x ∷ m) ≡ []
first_space x m e = rw (words_space x m e)

first_other : (x : ℕ) (m : List ℕ) → (x ≡ 32 → ⊥) → first_word (x ∷ m) ≡ x ∷ first_word m
first_other x m n = rw (words_other x m n) (which (words m))
  where
    which : (ws : List (List ℕ)) → get_or (with_first x ws) 0 [] ≡ x ∷ get_or ws 0 []
    which [] = refl
    which (w ∷ ws) = refl

first_and_others : (m : List ℕ) → words m ≡ first_word m ∷ drop 1 (words m)
unfolding words
first_and_others [] = refl
first_and_others (x ∷ m) = which (eqb x 32) (words m)
  where
    which : (space : Bool) (ws : List (List ℕ))
        → let us = cond space ([] ∷ words m) (with_first x ws) in us ≡ get_or us 0 [] ∷ drop 1 us
    which true ws = refl
    which false [] = refl
    which false (w ∷ ws) = refl

-- it is what stands before the first space
first_before : (m : List ℕ) → before 32 m ≡ first_word m
unfolding words
first_before [] = refl
first_before (x ∷ m) = which (eqb x 32) refl (first_before m)
  where
    which : (space : Bool) → eqb x 32 ≡ space → before 32 m ≡ first_word m
        → cond space [] (x ∷ before 32 m) ≡ first_word (x ∷ m)
    which true e h = sym (first_space x m (eqb-true x 32 e))
    which false e h = ap (λ (w : List ℕ). x ∷ w) h ∙ sym (first_other x m (eqb-false x 32 e))

length_first : (m : List ℕ) → length (first_word m) ≤ length m
unfolding words
length_first [] = omega arith
length_first (x ∷ m) = which (eqb x 32) refl (length_first m)
  where
    which : (space : Bool) → eqb x 32 ≡ space → length (first_word m) ≤ length m
        → length (first_word (x ∷ m)) ≤ length (x ∷ m)
    which true e h = rw (first_space x m (eqb-true x 32 e)) (omega arith)
    which false e h = rw (first_other x m (eqb-false x 32 e)) (omega arith)

-- the words after the first tell what the text behind the first tells
others : (m : List ℕ)
    → parsed_in (drop 1 (words m)) ≡ parsed_in (words (drop (suc (length (first_word m))) m))
unfolding words field_of is_field
others [] = refl
others (x ∷ m) = which (eqb x 32) refl (others m)
  where
    drop_first : (ws : List (List ℕ)) → drop 1 (with_first x ws) ≡ drop 1 ws
    drop_first [] = refl
    drop_first (w ∷ ws) = refl

    later : List ℕ → ParsedFields
    later w = parsed_in (words (drop (suc (length w)) (x ∷ m)))

    Others : List ℕ → Type 0
    Others l = parsed_in (drop 1 (words l)) ≡ parsed_in (words (drop (suc (length (first_word l))) l))

    which : (space : Bool) → eqb x 32 ≡ space → Others m → Others (x ∷ m)
    which true e h = rw (words_space x m (eqb-true x 32 e))
    which false e h =
        let n = eqb-false x 32 e in
        ap parsed_in (ap (drop 1) (words_other x m n) ∙ drop_first (words m))
        ∙ h
        ∙ sym (ap later (first_other x m n))

-- ---- the word at a place

-- where the text behind the word at a place begins
abbrev pub behind : List ℕ → ℕ → ℕ
behind m from = from + length (word_at m from) + 1

module _ (m : List ℕ) (from : ℕ) where
  pub length_word : length (word_at m from) ≤ length m - from
  length_word = rw length-drop at (length_first (drop from m))

  -- what stands before the first space from a place on, up to the end of the message
  pub word_before : before 32 (part from (length m) m) ≡ word_at m from
  word_before =
      ap (before 32) (take_all (length m) (drop from m) (omega (arith, length-drop from m)))
      ∙ first_before (drop from m)

  -- the words from a place on are the word there, and others that tell what those behind it tell
  pub word_and_others : words (drop from m) ≡ word_at m from ∷ drop 1 (words (drop from m))
  word_and_others = first_and_others (drop from m)

  pub words_behind : parsed_in (drop 1 (words (drop from m)))
      ≡ parsed_in (words (drop (behind m from) m))
  words_behind =
      let n = length (word_at m from) in
      let k : from + suc n ≡ from + n + 1 = omega arith in
      others (drop from m) ∙ rw (drop-drop (suc n) from m, k)
