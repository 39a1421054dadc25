-- What an answer of the code tells of the place of a name.
-- Assumes nothing.
use mathlib.Core.List.{List}
use mathlib.Core.Path.{◌≡◌, refl, sym, subst}
use Prim.Native.Nat.{ℕ}
use Rattle.std.specs.Prelude.{Option, Some, None, Result, Ok, Err}
use Rattle.refusals.specs.Refusal.{number}
use Rattle.accounts.specs.Account.{not_found, found}
use Rattle.accounts.specs.declared.Lookup.{Lookup}
use Rattle.smbpasswd.specs.declared.AccountLine.{AccountLine}
use Rattle.smbpasswd.specs.declared.Misplaced.{Misplaced}
use Rattle.smbpasswd.specs.File.{Place, Nowhere, Line, Doubled, Malformed, place_refusal}
use Rattle.smbpasswd.specs.File.{place_offset, lookup_at, found_at, misplaced_refusal}
use Rattle.smbpasswd.specs.File.{misplaced_offset, place_of, find_in, found_as}

-- a place, by its number, its offset and its record
pub record Told (now max_age : ℕ) (f : List ℕ) (p : Place) (refusal offset : ℕ) (lookup : Lookup) : Type 0
  where
    pub number_is : place_refusal p ≡ refusal
    pub offset_is : place_offset p ≡ offset
    pub lookup_is : lookup_at now max_age f p ≡ lookup

abbrev pub ToldBy : ℕ → ℕ → List ℕ → Place → Result (Option AccountLine) Misplaced → Type 0
ToldBy now max_age f p (Ok None) = Told now max_age f p 0 0 not_found
ToldBy now max_age f p (Ok (Some l)) = Told now max_age f p 0 l.offset (found l.account)
ToldBy now max_age f p (Err e) = Told now max_age f p (number (misplaced_refusal e)) (misplaced_offset e) not_found

told : (now max_age : ℕ) (f : List ℕ) (p : Place) → ToldBy now max_age f p (found_at now max_age f p)
told now max_age f Nowhere = record { number_is = refl; offset_is = refl; lookup_is = refl }
told now max_age f (Line at) = record { number_is = refl; offset_is = refl; lookup_is = refl }
told now max_age f (Doubled at) = record { number_is = refl; offset_is = refl; lookup_is = refl }
told now max_age f (Malformed at) = record { number_is = refl; offset_is = refl; lookup_is = refl }

pub told_by : (now max_age : ℕ) (f : List ℕ) (p : Place) {r : Result (Option AccountLine) Misplaced}
    → r ≡ found_at now max_age f p → ToldBy now max_age f p r
told_by now max_age f p e = subst (ToldBy now max_age f p) (sym e) (told now max_age f p)

-- what `find` answers is what is found
module _ (now max_age : ℕ) (f : List ℕ) where
  found_with : (p : Place)
      → found_as (found_at now max_age f p) ≡ record { place = p; lookup = lookup_at now max_age f p }
  found_with Nowhere = refl
  found_with (Line at) = refl
  found_with (Doubled at) = refl
  found_with (Malformed at) = refl

  pub found_back : (name : List ℕ)
      → found_as (found_at now max_age f (place_of name f)) ≡ find_in now max_age name f
  unfolding find_in
  found_back name = found_with (place_of name f)
