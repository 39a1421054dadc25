-- The columns of a line, and search and count line by line. Only contracts of private functions
-- cite this.
-- Assumes nothing: these are definitions.
use Rattle.std.specs.Prelude.{true, cond, not, ◌&&◌, List, [], ◌∷◌, ◌≡◌, length, drop}
use Rattle.std.specs.Prelude.{ℕ, zero, suc, ◌+◌, ◌≤◌, ◌<◌}
use Rattle.std.specs.Prelude.{Option, Some, None, Result, Ok, Err}
use mir.Val.{bool_byte}
use Rattle.octets.specs.Parts.{agrees}
use Rattle.octets.specs.Split.{before}
use Rattle.smbpasswd.specs.Line.{colon, field, is_comment, is_account}
use Rattle.smbpasswd.specs.Record.{account_in}
use Rattle.smbpasswd.specs.File.{lines, Placed, placed_from, line_at}
use Rattle.smbpasswd.specs.File.{Place, Nowhere, Line, Doubled, Malformed}
use Rattle.smbpasswd.specs.Summary.{is_number, value_of}
use Rattle.smbpasswd.specs.declared.Counts.{Counts}
use Rattle.smbpasswd.specs.declared.Misplaced.{Misplaced}
use Rattle.smbpasswd.specs.declared.Misplaced.TheVariants as misplaced
use Rattle.smbpasswd.specs.declared.lines.Columns.{Columns}

-- ---- lines

abbrev pub placed : ℕ → List ℕ → Placed
placed at l = record { offset = at; line = l }

-- the lines from an offset on
abbrev pub placed_at : ℕ → List ℕ → List Placed
placed_at at f = placed_from at (lines (drop at f))

-- ---- columns

-- the field at a place
abbrev pub field_at : ℕ → List ℕ → List ℕ
field_at at l = before colon (drop at l)

-- where the field n begins
unfoldable pub column : ℕ → List ℕ → ℕ
column zero l = 0
column (suc n) l = column n l + length (field_at (column n l) l) + 1

abbrev pub columns_of : List ℕ → Columns
columns_of l =
    record {
      uid = column 1 l;
      lm = column 2 l;
      nt = column 3 l;
      flags = column 4 l;
      time = column 5 l;
      rest = column 6 l;
    }

-- ---- the search

-- the place that the code has so far
abbrev pub place_in : Result (Option ℕ) Misplaced → Place
place_in (Ok None) = Nowhere
place_in (Ok (Some at)) = Line at
place_in (Err (misplaced.Doubled at)) = Doubled at
place_in (Err (misplaced.Malformed at)) = Malformed at

-- one more line of the name, or of another form: a malformed one counts before all others, and the
-- first of each kind has the offset
abbrev pub one_more : ℕ → Place → Place
one_more at Nowhere = Line at
one_more at (Line first) = Doubled first
one_more at (Doubled first) = Doubled first
one_more at (Malformed first) = Malformed first

abbrev pub one_bad : ℕ → Place → Place
one_bad at Nowhere = Malformed at
one_bad at (Line first) = Malformed at
one_bad at (Doubled first) = Malformed at
one_bad at (Malformed first) = Malformed first

-- after a line that starts at an offset
unfoldable pub after_line : List ℕ → Place → ℕ → List ℕ → Place
after_line name p at l =
    cond (is_comment l) p
    (cond (is_account l) (cond (agrees (field 0 l) name) (one_more at p) p) (one_bad at p))

-- after all lines
unfoldable pub searched : List ℕ → Place → List Placed → Place
searched name p [] = p
searched name p (x ∷ xs) = searched name (after_line name p x.offset x.line) xs

-- a line of an account's form starts there
pub record IsLine (at : ℕ) (f : List ℕ) : Type 0 where
  pub within : at < length f
  pub account : is_account (line_at at f) ≡ true

-- ---- the counts

-- after a line; `bool_byte` is 1 for true and 0 for false
unfoldable pub count_line : ℕ → ℕ → Counts → List ℕ → Counts
count_line now max_age k l =
    cond (is_comment l) k
    (record {
      lines = k.lines + 1;
      bad = k.bad + bool_byte (not (is_account l));
      disabled = k.disabled + bool_byte (is_account l && (account_in now max_age l).disabled);
      expired = k.expired + bool_byte (is_account l && (account_in now max_age l).expired);
      no_nt = k.no_nt + bool_byte (is_account l && not (account_in now max_age l).nt.present);
    })

-- after all lines
unfoldable pub count_lines : ℕ → ℕ → Counts → List Placed → Counts
count_lines now max_age k [] = k
count_lines now max_age k (x ∷ xs) = count_lines now max_age (count_line now max_age k x.line) xs

-- no count is over n
pub record Within (n : ℕ) (k : Counts) : Type 0 where
  pub lines : k.lines ≤ n
  pub bad : k.bad ≤ n
  pub disabled : k.disabled ≤ n
  pub expired : k.expired ≤ n
  pub no_nt : k.no_nt ≤ n

-- ---- the first line

-- a number, or none
abbrev pub number_in : List ℕ → Option ℕ
number_in s = cond (is_number s) (Some (value_of s)) None
