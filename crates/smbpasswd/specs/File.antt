-- An account file as lines, and where an account's line starts (document 02, request 2026-02).
-- Assumes nothing: these are definitions.
use Rattle.std.specs.Prelude.{Bool, cond, not, List, [], ◌∷◌, ℕ, ◌+◌, eqb, length, drop}
use Rattle.std.specs.Prelude.{Option, Some, None, Result, Ok, Err}
use Rattle.octets.specs.Parts.{agrees}
use Rattle.octets.specs.Split.{before, with_first}
use Rattle.accounts.specs.Account.{not_found, found}
use Rattle.accounts.specs.declared.Lookup.{Lookup}
use Rattle.smbpasswd.specs.Line.{lf, field, is_comment, is_account}
use Rattle.smbpasswd.specs.Record.{account_in}
use Rattle.refusals.specs.declared.Refusal.{Refusal}
use Rattle.refusals.specs.declared.Refusal.TheVariants as refusal
use Rattle.smbpasswd.specs.declared.AccountLine.{AccountLine}
use Rattle.smbpasswd.specs.declared.Misplaced.{Misplaced}
use Rattle.smbpasswd.specs.declared.Misplaced.TheVariants as misplaced

-- ---- lines

-- "A line ends at LF or the file's end": an empty rest is no line
unfoldable pub lines : List ℕ → List (List ℕ)
lines [] = []
lines (x ∷ f) = cond (eqb x lf) ([] ∷ lines f) (with_first x (lines f))

-- a line, and the offset of its first octet
pub record Placed : Type 0 where
  pub offset : ℕ
  pub line : List ℕ

abbrev pub placed_from : ℕ → List (List ℕ) → List Placed
placed_from at [] = []
placed_from at (l ∷ ls) = record { offset = at; line = l } ∷ placed_from (at + length l + 1) ls

-- those of which a test is true, in their order
abbrev pub select : (List ℕ → Bool) → List Placed → List Placed
select test [] = []
select test (x ∷ xs) = cond (test x.line) (x ∷ select test xs) (select test xs)

-- "a line beginning with # is skipped, uncounted"
abbrev pub counted : List ℕ → List Placed
counted f = select (λ l. not (is_comment l)) (placed_from 0 (lines f))

-- lines "of another form", and those of a name, by its exact octets
abbrev pub malformed : List ℕ → List Placed
malformed f = select (λ l. not (is_account l)) (counted f)

abbrev pub named : List ℕ → List ℕ → List Placed
named name f = select (λ l. agrees (field 0 l) name) (counted f)

-- ---- lookup

-- where the line of a name starts: on no line; at an offset; on two lines or more, the first of
-- which starts at an offset; or a line of another form, of any name, starts at one
pub data Place : Type 0 where
  Nowhere : Place
  Line : ℕ → Place
  Doubled : ℕ → Place
  Malformed : ℕ → Place

-- "14, first line of another form, even past the name sought, with its start's offset; then 15, the
-- name sought stands on two lines. A name on no line is answered none". 15 has the offset of the
-- first of those lines.
abbrev pub place_from : List Placed → List Placed → Place
place_from (x ∷ xs) ns = Malformed x.offset
place_from [] [] = Nowhere
place_from [] (x ∷ []) = Line x.offset
place_from [] (x ∷ y ∷ ns) = Doubled x.offset

unfoldable pub place_of : List ℕ → List ℕ → Place
place_of name f = place_from (malformed f) (named name f)

-- document 02's refusal number of a place, 0 for none, and its value: an offset
abbrev pub place_refusal : Place → ℕ
place_refusal Nowhere = 0
place_refusal (Line at) = 0
place_refusal (Doubled at) = 15
place_refusal (Malformed at) = 14

abbrev pub place_offset : Place → ℕ
place_offset Nowhere = 0
place_offset (Line at) = at
place_offset (Doubled at) = at
place_offset (Malformed at) = at

-- a place, as the code answers it
abbrev pub located : Place → Result (Option ℕ) Misplaced
located Nowhere = Ok None
located (Line at) = Ok (Some at)
located (Doubled at) = Err (misplaced.Doubled at)
located (Malformed at) = Err (misplaced.Malformed at)

abbrev pub misplaced_refusal : Misplaced → Refusal
misplaced_refusal (misplaced.Doubled at) = refusal.Doubled
misplaced_refusal (misplaced.Malformed at) = refusal.Line

abbrev pub misplaced_offset : Misplaced → ℕ
misplaced_offset (misplaced.Doubled at) = at
misplaced_offset (misplaced.Malformed at) = at

-- the line that starts at an offset
abbrev pub line_at : ℕ → List ℕ → List ℕ
line_at at f = before lf (drop at f)

-- the record of the account at a place, or none
abbrev pub lookup_at : ℕ → ℕ → List ℕ → Place → Lookup
lookup_at now max_age f Nowhere = not_found
lookup_at now max_age f (Line at) = found (account_in now max_age (line_at at f))
lookup_at now max_age f (Doubled at) = not_found
lookup_at now max_age f (Malformed at) = not_found

-- the same, as the code answers it
abbrev pub found_at : ℕ → ℕ → List ℕ → Place → Result (Option AccountLine) Misplaced
found_at now max_age f Nowhere = Ok None
found_at now max_age f (Line at) =
    Ok (Some (record { offset = at; account = account_in now max_age (line_at at f) }))
found_at now max_age f (Doubled at) = Err (misplaced.Doubled at)
found_at now max_age f (Malformed at) = Err (misplaced.Malformed at)

-- what a lookup finds: the place, and the record where there is one
pub record Found : Type 0 where
  pub place : Place
  pub lookup : Lookup

unfoldable pub find_in : ℕ → ℕ → List ℕ → List ℕ → Found
find_in now max_age name f =
    record { place = place_of name f; lookup = lookup_at now max_age f (place_of name f) }

-- what the code answers, as it is here (proofs/Places `found_back`)
abbrev pub found_as : Result (Option AccountLine) Misplaced → Found
found_as (Ok None) = record { place = Nowhere; lookup = not_found }
found_as (Ok (Some l)) = record { place = Line l.offset; lookup = found l.account }
found_as (Err (misplaced.Doubled at)) = record { place = Doubled at; lookup = not_found }
found_as (Err (misplaced.Malformed at)) = record { place = Malformed at; lookup = not_found }
