-- The search, line by line, finds the place that the definition says, and what is known of the line
-- that is found.
-- Assumes nothing.
use mathlib.Core.Bool.{Bool, true, false, cond, not, false≢true}
use mathlib.Core.List.{List, [], ◌∷◌}
use mathlib.Core.Path.{◌≡◌, refl, sym, ap, ap₂, ◌∙◌, subst}
use Prim.Native.Nat.{ℕ, ◌<◌}
use native.Mathlib.Omega.{arith}
use borrow.Author.Tests.{not-true}
use lib.ListN.{length}
use Rattle.std.specs.Prelude.{Option, Some, None, IsSome, MatchOption, Result, Ok, Err}
use Rattle.octets.specs.Parts.{agrees}
use Rattle.smbpasswd.specs.Line.{field, is_comment, is_account}
use Rattle.smbpasswd.specs.File.{lines, Placed, placed_from, select, counted, malformed, named}
use Rattle.smbpasswd.specs.File.{place_from, place_of, line_at, located}
use Rattle.smbpasswd.specs.Inner.{one_more, one_bad, after_line, searched, place_in, placed}
use Rattle.smbpasswd.specs.declared.Misplaced.{Misplaced}
use Rattle.smbpasswd.specs.declared.Misplaced.TheVariants as misplaced
use Rattle.smbpasswd.specs.File.{Place, Nowhere, Line, Doubled, Malformed}
use Rattle.smbpasswd.proofs.LineLaws.{All, Stands, stands, selected, none_fails, all_both}

-- ---- a place, as the code has it

pub placed_back : (p : Place) → place_in (located p) ≡ p
placed_back Nowhere = refl
placed_back (Line at) = refl
placed_back (Doubled at) = refl
placed_back (Malformed at) = refl

pub located_back : (r : Result (Option ℕ) Misplaced) → located (place_in r) ≡ r
located_back (Ok None) = refl
located_back (Ok (Some at)) = refl
located_back (Err (misplaced.Doubled at)) = refl
located_back (Err (misplaced.Malformed at)) = refl

pub placed_as : {p : Place} {r : Result (Option ℕ) Misplaced} → r ≡ located p → p ≡ place_in r
placed_as {p} e = sym (placed_back p) ∙ ap place_in (sym e)

-- ---- one line

module _ (name : List ℕ) (p : Place) (at : ℕ) (l : List ℕ) where
  pub after_comment : is_comment l ≡ true → p ≡ after_line name p at l
  unfolding after_line
  after_comment c = rw c

  module _ (c : is_comment l ≡ false) where
    pub after_bad : is_account l ≡ false → one_bad at p ≡ after_line name p at l
    unfolding after_line
    after_bad a = rw (c, a)

    pub after_named : is_account l ≡ true → agrees (field 0 l) name ≡ true → one_more at p ≡ after_line name p at l
    unfolding after_line
    after_named a n = rw (c, a, n)

    pub after_other : is_account l ≡ true → agrees (field 0 l) name ≡ false → p ≡ after_line name p at l
    unfolding after_line
    after_other a n = rw (c, a, n)

-- ---- line by line

-- the place after p and the malformed lines bs and the lines ns of the name that are still to come
abbrev settled : Place → List Placed → List Placed → Place
settled (Malformed o) bs ns = Malformed o
settled Nowhere bs ns = place_from bs ns
settled (Line o) (b ∷ bs) ns = Malformed b.offset
settled (Line o) [] [] = Line o
settled (Line o) [] (n ∷ ns) = Doubled o
settled (Doubled o) (b ∷ bs) ns = Malformed b.offset
settled (Doubled o) [] ns = Doubled o

more : (x : Placed) (p : Place) (bs ns : List Placed) → settled (one_more x.offset p) bs ns ≡ settled p bs (x ∷ ns)
more x Nowhere (b ∷ bs) ns = refl
more x Nowhere [] [] = refl
more x Nowhere [] (n ∷ ns) = refl
more x (Line o) (b ∷ bs) ns = refl
more x (Line o) [] ns = refl
more x (Doubled o) (b ∷ bs) ns = refl
more x (Doubled o) [] ns = refl
more x (Malformed o) bs ns = refl

bad : (x : Placed) (p : Place) (bs ns ms : List Placed) → settled (one_bad x.offset p) bs ns ≡ settled p (x ∷ bs) ms
bad x Nowhere bs ns ms = refl
bad x (Line o) bs ns ms = refl
bad x (Doubled o) bs ns ms = refl
bad x (Malformed o) bs ns ms = refl

abbrev bad_of : List Placed → List Placed
bad_of xs = select (λ l. not (is_account l)) (select (λ l. not (is_comment l)) xs)

abbrev named_of : List ℕ → List Placed → List Placed
named_of name xs = select (λ l. agrees (field 0 l) name) (select (λ l. not (is_comment l)) xs)

search : (name : List ℕ) (p : Place) (xs : List Placed) → searched name p xs ≡ settled p (bad_of xs) (named_of name xs)
unfolding searched after_line
search name p [] = done p
  where
    done : (p : Place) → p ≡ settled p [] []
    done Nowhere = refl
    done (Line o) = refl
    done (Doubled o) = refl
    done (Malformed o) = refl
search name p (x ∷ xs) =
    which (is_comment x.line) (is_account x.line) refl (agrees (field 0 x.line) name) refl (λ q. search name q xs)
  where
    rest_of : List Placed
    rest_of = select (λ l. not (is_comment l)) xs

    bs : List Placed
    bs = bad_of xs

    ns : List Placed
    ns = named_of name xs

    which : (c a : Bool) → is_account x.line ≡ a → (m : Bool) → agrees (field 0 x.line) name ≡ m
        → ((q : Place) → searched name q xs ≡ settled q bs ns)
        → searched name (cond c p (cond a (cond m (one_more x.offset p) p) (one_bad x.offset p))) xs
        ≡ settled p (select (λ l. not (is_account l)) (cond (not c) (x ∷ rest_of) rest_of))
        (select (λ l. agrees (field 0 l) name) (cond (not c) (x ∷ rest_of) rest_of))
    which true a ea m em rest = rest p
    which false true ea true em rest = rest (one_more x.offset p) ∙ more x p bs ns ∙ rw (ea, em)
    which false true ea false em rest = rest p ∙ rw (ea, em)
    which false false ea m em rest =
        rest (one_bad x.offset p) ∙ bad x p bs ns (select (λ l. agrees (field 0 l) name) (x ∷ rest_of)) ∙ rw ea

-- a line more, and none
module _ (name : List ℕ) (p : Place) {s t : List Placed} where
  pub searched_more : (at : ℕ) (l : List ℕ) → s ≡ placed at l ∷ t → {q : Place} → q ≡ after_line name p at l
      → searched name q t ≡ searched name p s
  unfolding searched
  searched_more at l e f = ap (λ (x : Place). searched name x t) f ∙ sym (ap (searched name p) e)

pub searched_none : (name : List ℕ) (p : Place) {s : List Placed} → s ≡ [] → searched name p s ≡ p
unfolding searched
searched_none name p e = ap (searched name p) e

pub searched_place : (name f : List ℕ) → searched name Nowhere (placed_from 0 (lines f)) ≡ place_of name f
unfolding place_of
searched_place name f = search name Nowhere (placed_from 0 (lines f))

-- ---- the line that is found

-- a line that counts: it starts within the file at its offset, and is no comment
pub counted_stand : (f : List ℕ) → All (λ x. Stands f x × (not (is_comment x.line) ≡ true)) (counted f)
counted_stand f = selected (λ l. not (is_comment l)) (Stands f) (placed_from 0 (lines f)) (stands f)

-- what is known of the line of a name, where it is found
pub record Known (name f : List ℕ) (at : ℕ) : Type 0 where
  pub within : at < length f
  pub account : is_account (line_at at f) ≡ true
  pub counts : is_comment (line_at at f) ≡ false
  pub named_so : agrees (field 0 (line_at at f)) name ≡ true
  pub alone : named name f ≡ record { offset = at; line = line_at at f } ∷ []
  pub clean : malformed f ≡ []

known : (name f : List ℕ) (at : ℕ) (bs ns : List Placed) → malformed f ≡ bs → named name f ≡ ns
    → place_from bs ns ≡ Line at → Known name f at
known name f at (b ∷ bs) ns eb en e = absurd (let z : ◌≡◌ {A = ℕ} 0 1 = cc in omega arith)
known name f at [] [] eb en e = absurd (let z : ◌≡◌ {A = ℕ} 0 1 = cc in omega arith)
known name f at [] (x ∷ y ∷ ns) eb en e = absurd (let z : ◌≡◌ {A = ℕ} 0 1 = cc in omega arith)
known name f at [] (x ∷ []) eb en e =
    let o : x.offset ≡ at = cc in
    let good = none_fails is_account (counted f) eb in
    let P : Placed → Type 0 = λ y. (Stands f y × (not (is_comment y.line) ≡ true)) × (is_account y.line ≡ true) in
    let all = selected (λ l. agrees (field 0 l) name) P (counted f)
    (all_both (λ y. Stands f y × (not (is_comment y.line) ≡ true)) (λ y. is_account y.line ≡ true) (counted f) (counted_stand f) good) in
    let one = (subst (All (λ y. P y × (agrees (field 0 y.line) name ≡ true))) en all).0 in
    let line : line_at at f ≡ x.line = ap (λ (i : ℕ). line_at i f) (sym o) ∙ one.0.0.0.there in
    record {
      within = omega (arith, o, one.0.0.0.within);
      account = ap is_account line ∙ one.0.1;
      counts = ap is_comment line ∙ not-true (is_comment x.line) one.0.0.1;
      named_so = ap (λ (l : List ℕ). agrees (field 0 l) name) line ∙ one.1;
      alone = en ∙ ap₂ (λ (i : ℕ) (l : List ℕ). record { offset = i; line = l } ∷ []) o (sym line);
      clean = eb;
    }

pub line_known : (name f : List ℕ) (at : ℕ) → place_of name f ≡ Line at → Known name f at
unfolding place_of
line_known name f at e = known name f at (malformed f) (named name f) refl refl e

-- a line that is found has an entry
pub entry_there : {E : Type 0} (P : E → Type 0) (r : Option E) {b : Bool} → MatchOption r (b ≡ false) P
    → b ≡ true → IsSome r
entry_there P None e h = absurd (false≢true (sym e ∙ h))
entry_there P (Some x) e h = refl
