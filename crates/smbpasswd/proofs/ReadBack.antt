-- What was written back into the file: it is read back, no other account changes, the file keeps its
-- length and form, and of two writings the last counts.
-- Assumes nothing.
use mathlib.Core.Bool.{Bool, true, false, cond, not, ◌&&◌, and-false, false≢true}
use mathlib.Core.List.{List, [], ◌∷◌, ◌++◌, map}
use mathlib.Core.Logic.{inl}
use mathlib.Core.Path.{◌≡◌, refl, sym, ap, ap₂, ◌∙◌, subst}
use Prim.Native.Nat.{ℕ, ◌+◌, ◌-◌, ◌<◌, ◌^◌}
use native.Mathlib.Omega.{arith}
use borrow.Author.Tests.{le-ltb}
use lib.Dec.{eqb, ltb}
use lib.ListN.{length, drop}
use Rattle.octets.specs.Parts.{agrees}
use Rattle.octets.specs.Split.{holds}
use Rattle.octets.proofs.Parts.{agrees_equal, agrees_refl}
use Rattle.octets.proofs.Split.{before_free}
use Rattle.accounts.specs.Account.{found, account_with}
use Rattle.accounts.specs.declared.Account.{Account}
use Rattle.smbpasswd.specs.Line.{lf, letter_d, letter_x, field, is_comment, is_account}
use Rattle.smbpasswd.specs.Record.{has_flag, is_expired, account_in}
use Rattle.smbpasswd.specs.File.{lines, Placed, placed_from, select, counted, malformed, named}
use Rattle.smbpasswd.specs.File.{place_from, place_of, line_at, lookup_at, find_in}
use Rattle.smbpasswd.specs.Write.{changed_line, with_line, written_at, written_in}
use Rattle.smbpasswd.specs.File.{Found}
use Rattle.smbpasswd.specs.File.{Place, Nowhere, Line, Doubled, Malformed}
use Rattle.smbpasswd.proofs.LineLaws.{All, Stands, stands, selected, all_first}
use Rattle.smbpasswd.proofs.Search.{Known, line_known}
use Rattle.smbpasswd.proofs.FieldLaws.{form}
use Rattle.smbpasswd.proofs.ChangedLine.{IsHash, kept, changed_fields, changed_account}
use Rattle.smbpasswd.proofs.ChangedLine.{changed_read, changed_length, changed_comment}
use Rattle.smbpasswd.proofs.ChangedLine.{changed_one_line, changed_twice_lem}
use Rattle.smbpasswd.proofs.ChangedFile.{Starts, selected_starts, file_length, before_same}
use Rattle.smbpasswd.proofs.ChangedFile.{behind_same, new_there, swap, swap_other, all_swapped}
use Rattle.smbpasswd.proofs.ChangedFile.{select_swapped}

-- the line of the first, or nothing
abbrev head_line : List Placed → List ℕ
head_line [] = []
head_line (x ∷ xs) = x.line

-- ---- where the name is on one line

module _ (name : List ℕ) (a : Account) (now : ℕ) (f : List ℕ) (at : ℕ) (k : Known name f at) (slm : IsHash a.lm) (snt : IsHash a.nt) where
  abbrev old : List ℕ
  old = line_at at f

  abbrev new : List ℕ
  new = changed_line a now (line_at at f)

  abbrev file : List ℕ
  file = with_line at (changed_line a now (line_at at f)) f

  long : length new ≡ length (line_at at f)
  long = changed_length a now old (form old k.account) slm snt

  one : holds lf new ≡ false
  one = changed_one_line a now old (form old k.account) slm snt (before_free lf (drop at f))

  abbrev moved : Placed → Placed
  moved = swap f at new k.within long one

  starts : Starts at (placed_from 0 (lines f))
  starts =
      selected_starts (λ l. not (is_comment l)) at (placed_from 0 (lines f))
      (selected_starts (λ l. agrees (field 0 l) name) at (counted f) (subst (Starts at) (sym k.alone) (inl refl)))

  counted_moved : counted file ≡ map moved (counted f)
  counted_moved =
      ap (select (λ l. not (is_comment l))) (all_swapped f at new k.within long one starts)
      ∙ select_swapped f at new k.within long one (λ l. not (is_comment l)) (placed_from 0 (lines f)) (stands f)
      (ap not (sym (changed_comment a now old (form old k.account) slm snt)))

  counted_stand : All (Stands f) (counted f)
  counted_stand = all_first (Stands f) (λ x. not (is_comment x.line) ≡ true) (counted f)
      (selected (λ l. not (is_comment l)) (Stands f) (placed_from 0 (lines f)) (stands f))

  malformed_moved : malformed file ≡ map moved (malformed f)
  malformed_moved =
      ap (select (λ l. not (is_account l))) counted_moved
      ∙ select_swapped f at new k.within long one (λ l. not (is_account l)) (counted f) counted_stand
      (ap not (k.account ∙ sym (changed_account a now old (form old k.account) slm snt)))

  named_moved : (other : List ℕ) → named other file ≡ map moved (named other f)
  named_moved other =
      ap (select (λ l. agrees (field 0 l) other)) counted_moved
      ∙ select_swapped f at new k.within long one (λ l. agrees (field 0 l) other) (counted f) counted_stand
      (ap (λ (x : List ℕ). agrees x other) (sym (changed_fields a now old).name_is))

  -- the offsets stay
  offset_same : (x : Placed) → (moved x).offset ≡ x.offset
  offset_same x = by (eqb x.offset at)
    where
      by : (b : Bool) → (cond {A = Placed} b (record { offset = x.offset; line = new }) x).offset ≡ x.offset
      by true = refl
      by false = refl

  place_moved : (bs ns : List Placed) → place_from (map moved bs) (map moved ns) ≡ place_from bs ns
  place_moved (b ∷ bs) ns = ap Malformed (offset_same b)
  place_moved [] [] = refl
  place_moved [] (x ∷ []) = ap Line (offset_same x)
  place_moved [] (x ∷ y ∷ ns) = ap Doubled (offset_same x)

  place_same : (other : List ℕ) → place_of other file ≡ place_of other f
  unfolding place_of
  place_same other = ap₂ place_from malformed_moved (named_moved other) ∙ place_moved (malformed f) (named other f)

  -- another account's line stays
  line_same : (other : List ℕ) (at' : ℕ) → (at' ≡ at → ⊥) → Known other f at' → Known other file at' → line_at at' file ≡ line_at at' f
  line_same other at' n ko kf =
      let e = sym kf.alone ∙ named_moved other ∙ ap (map moved) ko.alone
      ∙ ap (λ (x : Placed). x ∷ []) (swap_other f at new k.within long one (record { offset = at'; line = line_at at' f }) n) in
      ap (λ (xs : List Placed). head_line xs) e

  -- two accounts have two lines
  apart : (other : List ℕ) → agrees other name ≡ false → (at' : ℕ) → Known other f at' → at' ≡ at → ⊥
  apart other n at' ko e =
      let there = ap (λ (i : ℕ). field 0 (line_at i f)) e in
      let same : other ≡ name = sym (agrees_equal (field 0 (line_at at' f)) other ko.named_so) ∙ there
      ∙ agrees_equal (field 0 old) name k.named_so in
      false≢true (sym n ∙ ap (λ (x : List ℕ). agrees x name) same ∙ agrees_refl name)

-- ---- the record after a writing

-- what a lookup finds, by its place
found_at : (later max_age : ℕ) (name f : List ℕ) {p : Place} → place_of name f ≡ p
    → find_in later max_age name f ≡ record { place = p; lookup = lookup_at later max_age f p }
unfolding find_in
found_at later max_age name f e = ap (λ (p : Place). record { place = p; lookup = lookup_at later max_age f p }) e

-- the time of the change is never too old at that time, whatever the maximum age is
fresh : (now max_age : ℕ) (never : Bool) → is_expired now max_age never now ≡ false
fresh now max_age never =
    let zero-age : ltb max_age (now - now) ≡ false = le-ltb max_age (now - now) (omega arith) in
    ap (λ (t : Bool). not never && (not (eqb now 0) && (not (ltb now now) && t))) zero-age
    ∙ ap (λ (t : Bool). not never && (not (eqb now 0) && t)) (and-false (not (ltb now now)))
    ∙ ap (λ (t : Bool). not never && t) (and-false (not (eqb now 0))) ∙ and-false (not never)

module _ (name : List ℕ) (a : Account) (now : ℕ) (f : List ℕ) (slm : IsHash a.lm) (snt : IsHash a.nt) where
  -- by the place of the name
  by_place : (P : List ℕ → Type 0) → P f → ((at : ℕ) → place_of name f ≡ Line at → P (with_line at (changed_line a now (line_at at f)) f))
      → P (written_in name a now f)
  unfolding written_in
  by_place P stays changes = by (place_of name f) refl
    where
      by : (p : Place) → place_of name f ≡ p → P (written_at a now f p)
      by Nowhere e = stays
      by (Line at) e = changes at e
      by (Doubled at) e = stays
      by (Malformed at) e = stays

  written_at_lem : (at : ℕ) → place_of name f ≡ Line at → written_in name a now f ≡ with_line at (changed_line a now (line_at at f)) f
  unfolding written_in
  written_at_lem at e = ap (written_at a now f) e

  -- the file keeps its length
  pub same_length : length (written_in name a now f) ≡ length f
  same_length = by_place (λ g. length g ≡ length f) refl (λ at e.
      let k = line_known name f at e in
      file_length f at (changed_line a now (line_at at f)) k.within (long name a now f at k slm snt) (one name a now f at k slm snt))

  -- every name is where it was: on a line, on none, on two; a line of another form is one still, and
  -- no other becomes one
  pub same_place : (other : List ℕ) → place_of other (written_in name a now f) ≡ place_of other f
  same_place other = by_place (λ g. place_of other g ≡ place_of other f) refl
      (λ at e. place_same name a now f at (line_known name f at e) slm snt other)

  pub still_formed : malformed f ≡ [] → malformed (written_in name a now f) ≡ []
  still_formed clean = by_place (λ g. malformed g ≡ []) clean (λ at e.
      let k = line_known name f at e in
      malformed_moved name a now f at k slm snt ∙ ap (map (moved name a now f at k slm snt)) clean)

  -- what was written is read back: the hashes and the time of the change, with the flags of the line
  pub read_back : (at : ℕ) → place_of name f ≡ Line at → now < 2 ^ 32 → (later max_age : ℕ)
      → find_in later max_age name (written_in name a now f)
      ≡ record {
        place = Line at;
        lookup = found (account_with (kept a.nt) (kept a.lm) (has_flag letter_d (field 4 (line_at at f))) false false
            (is_expired later max_age (has_flag letter_x (field 4 (line_at at f))) now));
      }
  read_back at e small later max_age =
      let k = line_known name f at e in
      let l = line_at at f in
      let there = ap (line_at at) (written_at_lem at e)
      ∙ new_there f at (changed_line a now l) k.within (long name a now f at k slm snt) (one name a now f at k slm snt) in
      found_at later max_age name (written_in name a now f) (same_place name ∙ e)
      ∙ ap (λ (x : List ℕ). record { place = Line at; lookup = found (account_in later max_age x) }) there
      ∙ ap (λ (x : Account). record { place = Line at; lookup = found x }) (changed_read a now l (form l k.account) slm snt small later max_age)

  -- at that time it is not expired, for any maximum age
  pub not_expired : (at : ℕ) → place_of name f ≡ Line at → now < 2 ^ 32 → (max_age : ℕ)
      → (find_in now max_age name (written_in name a now f)).lookup.account.expired ≡ false
  not_expired at e small max_age =
      ap (λ (x : Found). x.lookup.account.expired) (read_back at e small now max_age)
      ∙ fresh now max_age (has_flag letter_x (field 4 (line_at at f)))

  -- other names' records are unchanged, at any time and for any maximum age
  pub others_same : (other : List ℕ) → agrees other name ≡ false → (later max_age : ℕ)
      → find_in later max_age other (written_in name a now f) ≡ find_in later max_age other f
  others_same other n later max_age = by (place_of other f) refl
    where
      by : (p : Place) → place_of other f ≡ p → find_in later max_age other (written_in name a now f) ≡ find_in later max_age other f
      by Nowhere e = found_at later max_age other (written_in name a now f) (same_place other ∙ e) ∙ sym (found_at later max_age other f e)
      by (Doubled o) e = found_at later max_age other (written_in name a now f) (same_place other ∙ e) ∙ sym (found_at later max_age other f e)
      by (Malformed o) e = found_at later max_age other (written_in name a now f) (same_place other ∙ e) ∙ sym (found_at later max_age other f e)
      by (Line at') e =
          let ko = line_known other f at' e in
          found_at later max_age other (written_in name a now f) (same_place other ∙ e)
          ∙ ap (λ (x : List ℕ). record { place = Line at'; lookup = found (account_in later max_age x) })
          (by_place (λ x. place_of other x ≡ Line at' → line_at at' x ≡ line_at at' f) (λ z. refl)
          (λ at ea z.
          let k = line_known name f at ea in
          line_same name a now f at k slm snt other at' (apart name a now f at k slm snt other n at' ko) ko (line_known other _ at' z))
          (same_place other ∙ e))
          ∙ sym (found_at later max_age other f e)

-- of two writings the last counts; so writing twice is writing once
pub last_counts : (name : List ℕ) (a b : Account) (now t : ℕ) (f : List ℕ) → IsHash a.lm → IsHash a.nt
    → written_in name b t (written_in name a now f) ≡ written_in name b t f
unfolding written_in
last_counts name a b now t f slm snt =
    ap (written_at b t (written_in name a now f)) (same_place name a now f slm snt name) ∙ by (place_of name f) refl
  where
    by : (p : Place) → place_of name f ≡ p → written_at b t (written_at a now f p) p ≡ written_at b t f p
    by Nowhere e = refl
    by (Doubled o) e = refl
    by (Malformed o) e = refl
    by (Line at) e =
        let k = line_known name f at e in
        let new_line = changed_line a now (line_at at f) in
        let l = long name a now f at k slm snt in
        let o = one name a now f at k slm snt in
        let there = new_there f at new_line k.within l o in
        ap₂ (λ (x y : List ℕ). x ++ y) (before_same f at new_line k.within l o)
        (ap₂ (λ (x y : List ℕ). x ++ y) (ap (changed_line b t) there ∙ changed_twice_lem a now (line_at at f) b t)
        (ap (λ (n : ℕ). drop (at + n) (with_line at new_line f)) (ap length there ∙ l)
        ∙ behind_same f at new_line k.within l o (at + length (line_at at f)) (omega arith)))
