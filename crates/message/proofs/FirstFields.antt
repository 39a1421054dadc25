-- The kind of a word, and what a word adds to the fields before it: its place where it is the first
-- field of its kind, and else nothing.
-- Assumes nothing.
use mathlib.Core.Path.{◌≡◌, refl, sym, ap, ◌∙◌}
use mathlib.Core.Bool.{Bool, true, false, cond, and-eq-true_iff, false≢true}
use mathlib.Core.List.{List, [], ◌∷◌}
use Rattle.std.specs.Prelude.{Option, Some, None}
use Prim.Native.Nat.{ℕ, ◌+◌, ◌≤◌, ◌<◌}
use native.Mathlib.Omega.{arith}
use borrow.Author.Tests.{eqb-true}
use lib.Dec.{eqb}
use lib.ListN.{length, drop, drop_of_length-le}
use Rattle.message.specs.declared.Field.{Field}
use Rattle.message.specs.declared.Field.TheVariants.{Error, Retry, Version, Challenge}
use Rattle.message.specs.declared.Fields.{Fields}
use Rattle.message.specs.Message.{words, digits_of, is_field, field_of, or_else}
use Rattle.message.specs.Message.{field_e, field_r, field_v, field_c}
use Rattle.message.specs.Inner.{ParsedFields, parsed_in, joined, word_at, digits_at, parsed_at}
use Rattle.message.specs.Inner.{completed, kind_if, kind_of, is_nowhere, lacks, is_new, with_place}
use Rattle.message.specs.Inner.{one_if, missing, Noted}
use Rattle.message.proofs.Words.{behind, length_word, word_and_others, words_behind}

-- ---- a word is of one kind

-- the fields of one word
abbrev parsed_of : List ℕ → ParsedFields
parsed_of w = record { e = field_e w; r = field_r w; v = field_v w; c = field_c w }

-- the digits of one kind alone
abbrev only : Option Field → List ℕ → ParsedFields
only (Some Error) ds = record { e = Some ds; r = None; v = None; c = None }
only (Some Retry) ds = record { e = None; r = Some ds; v = None; c = None }
only (Some Version) ds = record { e = None; r = None; v = Some ds; c = None }
only (Some Challenge) ds = record { e = None; r = None; v = None; c = Some ds }
only None ds = record { e = None; r = None; v = None; c = None }

-- a field of one letter is none of another
module _ (l base low high l' base' low' high' : ℕ) (d : eqb l l' ≡ false) where
  other_letter : (w : List ℕ) → is_field l base low high w ≡ true
      → is_field l' base' low' high' w ≡ false
  unfolding is_field
  other_letter [] e = refl
  other_letter (x ∷ []) e = refl
  other_letter (x ∷ y ∷ ds) e =
      let h : x ≡ l = eqb-true x l ((and-eq-true_iff (eqb x l) _).0 e).0 in
      rw (h, d)

one_kind : (w : List ℕ) → parsed_of w ≡ only (kind_of w) (digits_of w)
unfolding kind_of field_of
one_kind w =
    which (is_field 69 10 1 10 w) (is_field 82 2 1 1 w) (is_field 86 10 1 10 w) (is_field 67 16 16 16 w)
    (other_letter 69 10 1 10 82 2 1 1 refl w)
    (other_letter 69 10 1 10 86 10 1 10 refl w)
    (other_letter 69 10 1 10 67 16 16 16 refl w)
    (other_letter 82 2 1 1 86 10 1 10 refl w)
    (other_letter 82 2 1 1 67 16 16 16 refl w)
    (other_letter 86 10 1 10 67 16 16 16 refl w)
  where
    digits_if : Bool → Option (List ℕ)
    digits_if b = cond b (Some (digits_of w)) None

    kind : Bool → Bool → Bool → Bool → Option Field
    kind e r v c =
        kind_if (digits_if e) Error (kind_if (digits_if r) Retry
        (kind_if (digits_if v) Version (kind_if (digits_if c) Challenge None)))

    which : (e r v c : Bool)
        → (e ≡ true → r ≡ false) → (e ≡ true → v ≡ false) → (e ≡ true → c ≡ false)
        → (r ≡ true → v ≡ false) → (r ≡ true → c ≡ false) → (v ≡ true → c ≡ false)
        → record { e = digits_if e; r = digits_if r; v = digits_if v; c = digits_if c }
        ≡ only (kind e r v c) (digits_of w)
    which true r v c er ev ec rv rc vc = rw (er refl, ev refl, ec refl)
    which false true v c er ev ec rv rc vc = rw (rv refl, rc refl)
    which false false true c er ev ec rv rc vc = rw (vc refl)
    which false false false true er ev ec rv rc vc = refl
    which false false false false er ev ec rv rc vc = refl

-- ---- the fields, and one kind more

or_else-none : (o : Option (List ℕ)) → or_else o None ≡ o
or_else-none None = refl
or_else-none (Some ds) = refl

or_else-assoc : (a b c : Option (List ℕ)) → or_else (or_else a b) c ≡ or_else a (or_else b c)
or_else-assoc None b c = refl
or_else-assoc (Some ds) b c = refl

joined_assoc : (p q r : ParsedFields) → joined (joined p q) r ≡ joined p (joined q r)
joined_assoc p q r = simp or_else-assoc

module _ (m : List ℕ) where
  no_place : (p : Option ℕ) → is_nowhere p ≡ true → (ds : List ℕ)
      → or_else (digits_at m p) (Some ds) ≡ Some ds
  no_place (Some from) h ds = absurd (false≢true h)
  no_place None h ds = refl

  a_place : (p : Option ℕ) → is_nowhere p ≡ false → (ds : List ℕ)
      → or_else (digits_at m p) (Some ds) ≡ digits_at m p
  a_place (Some from) h ds = refl
  a_place None h ds = absurd (false≢true (sym h))

  -- where f has no place for the kind, the word's place tells its digits
  first_of_kind : (f : Fields) (k : Option Field) (from : ℕ) → lacks f k ≡ true
      → parsed_at m (with_place f k from)
      ≡ joined (parsed_at m f) (only k (digits_of (word_at m from)))
  first_of_kind f (Some Error) from h = simp (no_place f.e h, or_else-none)
  first_of_kind f (Some Retry) from h = simp (no_place f.r h, or_else-none)
  first_of_kind f (Some Version) from h = simp (no_place f.v h, or_else-none)
  first_of_kind f (Some Challenge) from h = simp (no_place f.c h, or_else-none)
  first_of_kind f None from h = absurd (false≢true h)

  -- where it has one, and for text, nothing is added
  later_of_kind : (f : Fields) (k : Option Field) (ds : List ℕ) → lacks f k ≡ false
      → parsed_at m f ≡ joined (parsed_at m f) (only k ds)
  later_of_kind f (Some Error) ds h = simp (a_place f.e h, or_else-none)
  later_of_kind f (Some Retry) ds h = simp (a_place f.r h, or_else-none)
  later_of_kind f (Some Version) ds h = simp (a_place f.v h, or_else-none)
  later_of_kind f (Some Challenge) ds h = simp (a_place f.c h, or_else-none)
  later_of_kind f None ds h = simp or_else-none

-- ---- a word that is new, and one that is not

-- a word that is new has octets
new_long : (f : Fields) (w : List ℕ) → is_new f w ≡ true → 0 < length w
unfolding kind_of field_of is_field
new_long f [] h = absurd (false≢true h)
new_long f (x ∷ w) h = omega arith

fewer_missing : (f : Fields) (k : Option Field) (from : ℕ) → lacks f k ≡ true
    → missing (with_place f k from) < missing f
fewer_missing f (Some Error) from h = omega (arith, ap one_if h)
fewer_missing f (Some Retry) from h = omega (arith, ap one_if h)
fewer_missing f (Some Version) from h = omega (arith, ap one_if h)
fewer_missing f (Some Challenge) from h = omega (arith, ap one_if h)
fewer_missing f None from h = absurd (false≢true h)

pub noted : (w : List ℕ) (from : ℕ) (f g : Fields) → is_new f w ≡ true
    → g ≡ with_place f (kind_of w) from → Noted w from f g
noted w from f g h e = record {
  placed = e;
  fewer = omega (arith, ap missing e, fewer_missing f (kind_of w) from h);
}

module _ (m : List ℕ) (from : ℕ) (f : Fields) where
  -- a word that is new ends within the message
  pub new_within : is_new f (word_at m from) ≡ true
      → (0 < length (word_at m from)) × (from + length (word_at m from) ≤ length m)
  new_within h =
      let n : 0 < length (word_at m from) = new_long f (word_at m from) h in
      (n, omega (arith, length_word m from))

  -- What f and the word there tell, and then the words behind it, is what f tells, and then the
  -- words from there on.
  passed : {p : ParsedFields} → let w = word_at m from in
      p ≡ joined (parsed_at m f) (only (kind_of w) (digits_of w))
      → joined p (parsed_in (words (drop (behind m from) m))) ≡ completed m from f
  passed e =
      let w = word_at m from in
      let known = parsed_at m f in
      let later = parsed_in (words (drop (behind m from) m)) in
      let split : parsed_in (words (drop from m)) ≡ joined (parsed_of w) later =
      ap parsed_in (word_and_others m from) ∙ ap (joined (parsed_of w)) (words_behind m from) in
      ap (λ (p : ParsedFields). joined p later) (e ∙ ap (joined known) (sym (one_kind w)))
      ∙ joined_assoc known (parsed_of w) later
      ∙ ap (joined known) (sym split)

  pub new_field : let w = word_at m from in is_new f w ≡ true
      → completed m (behind m from) (with_place f (kind_of w) from) ≡ completed m from f
  new_field h = passed (first_of_kind m f (kind_of (word_at m from)) from h)

  pub skipped : is_new f (word_at m from) ≡ false → completed m (behind m from) f ≡ completed m from f
  skipped h = passed (later_of_kind m f (kind_of (word_at m from)) (digits_of (word_at m from)) h)

  -- behind the message there is nothing to complete them
  pub no_words : length m ≤ from → parsed_at m f ≡ completed m from f
  unfolding words field_of is_field
  no_words h = rw (drop_of_length-le m h) (simp or_else-none)
