-- The box and an account file together (document 02, request 2026-02): the record that an accepted
-- change hands out is written back into the file, and looked up again for a later conversation. It
-- is said of any way to write a record back, so that it can be shown which ones the claim shuts
-- out.
-- Assumes nothing: these are definitions.
use Rattle.std.specs.Prelude.{Bool, false, List, ◌∷◌, ◌++◌, ◌≡◌, ℕ, ◌+◌, ◌≤◌, ◌<◌, ◌^◌, length}
use Rattle.octets.specs.Parts.{agrees}
use Rattle.accounts.specs.Account.{account_with, lookup_of, found, with_failures, Rightful}
use Rattle.accounts.specs.declared.Account.{Account}
use Rattle.accounts.specs.declared.Lookup.{Lookup}
use Rattle.authenticator.specs.Opening.{Opening, retries_of, change_of, opened}
use Rattle.authenticator.specs.Steps.{Box}
use Rattle.smbpasswd.specs.Line.{colon, letter_x, field, from_field}
use Rattle.smbpasswd.specs.Record.{has_flag, is_expired}
use Rattle.smbpasswd.specs.File.{place_of, line_at, find_in}
use Rattle.smbpasswd.specs.Write.{hash_text, time_text, changed_line, with_line, written_in}
use Rattle.smbpasswd.specs.File.{Place}
use Rattle.smbpasswd.specs.File.{Nowhere, Line, Doubled, Malformed}
use Rattle.series.specs.Course.{collect, Along}
use Rattle.series.specs.Series.{invalid, right, password_change, Step, ours, other}
use Rattle.series.specs.Series.{packet_kinds, plan, SeriesState, start, Exchange, exchange}
use Rattle.series.specs.Series.{next, Allowed, LetsIn}
use Rattle.series.specs.Writers.{Writer}

-- ---- ways to write a record back: the name, the record, the present time and the file

abbrev pub FileWriter : Type 0
FileWriter = List ℕ → Account → ℕ → List ℕ → List ℕ

-- what the promise of our function says
abbrev pub our_file_writer : FileWriter
our_file_writer name a now file = written_in name a now file

-- a wrong one's line, where the name is on one line
abbrev pub changed_by : (List ℕ → List ℕ) → List ℕ → Place → List ℕ
changed_by change file Nowhere = file
changed_by change file (Line at) = with_line at (change (line_at at file)) file
changed_by change file (Doubled at) = file
changed_by change file (Malformed at) = file

-- leaves the time of the last change as it was
abbrev pub keeping_time : FileWriter
keeping_time name a now file =
    changed_by (λ l. field 0 l ++ colon ∷ (field 1 l ++ colon ∷ (hash_text a.lm
    ++ colon ∷ (hash_text a.nt ++ colon ∷ from_field 4 l)))) file (place_of name file)

-- writes 0 for the time, so that the password never expires
abbrev pub writing_zero : FileWriter
writing_zero name a now file = written_in name a 0 file

-- leaves the LM hash of the old password
abbrev pub keeping_lm : FileWriter
keeping_lm name a now file =
    changed_by (λ l. field 0 l ++ colon ∷ (field 1 l ++ colon ∷ (field 2 l ++ colon ∷ (hash_text
    a.nt ++ colon ∷ (field 4 l ++ colon ∷ (time_text now ++ colon ∷ from_field 6 l)))))) file
    (place_of name file)

-- leaves the account's own line alone in the file
abbrev pub alone_at : Account → ℕ → List ℕ → Place → List ℕ
alone_at a now file Nowhere = file
alone_at a now file (Line at) = changed_line a now (line_at at file)
alone_at a now file (Doubled at) = file
alone_at a now file (Malformed at) = file

abbrev pub losing_others : FileWriter
losing_others name a now file = alone_at a now file (place_of name file)

-- writes nothing
abbrev pub not_writing : FileWriter
not_writing name a now file = file

-- ---- the claim

-- the same record, expired or not
abbrev pub aged : Bool → Lookup → Lookup
aged expired l =
    lookup_of l.found (account_with l.account.nt l.account.lm l.account.disabled
    l.account.hours_denied l.account.dialin_denied expired)

-- what is found in a file after a record was written back
abbrev pub again : FileWriter → List ℕ → List ℕ → Lookup → ℕ → ℕ → ℕ → Lookup
again write name file updated changed_at later max_age =
    (find_in later max_age name (write name updated.account changed_at file)).lookup

module _ (box : Box) (writer : Writer) (write : FileWriter) (name file : List ℕ) where
  -- The record that a change hands out, written back at any time and looked up at any other, with
  -- any maximum age: it is found as it was handed out, and expired exactly by the request's rule
  -- for a password that was changed at that time (the flag X of its line, a time of zero or in the
  -- future, the maximum age). Where it is not expired, it lets the new password in at the first
  -- Response of a later conversation. Every other name is answered as before.
  abbrev pub KeptBy : Exchange → List ℕ → Type 0
  KeptBy x new =
      (at changed_at later max_age : ℕ) → place_of name file ≡ Line at → changed_at < 2 ^ 32
      → (again write name file x.outcome.answer.updated changed_at later max_age
      ≡ aged (is_expired later max_age (has_flag letter_x (field 4 (line_at at file))) changed_at)
      x.outcome.answer.updated)
      × (is_expired later max_age (has_flag letter_x (field 4 (line_at at file))) changed_at ≡ false
      → LetsIn box writer
      (again write name file x.outcome.answer.updated changed_at later max_age).account new)
      × ((another : List ℕ) → agrees another name ≡ false
      → find_in later max_age another
      (write name x.outcome.answer.updated.account changed_at file)
      ≡ find_in later max_age another file)

  abbrev pub KeptAt : SeriesState → Step → Type 0
  KeptAt p (ours (invalid w n) l) = Unit {0}
  KeptAt p (ours (right w n) l) = Unit {0}
  KeptAt p (ours (password_change v old new filler) l) = KeptBy
      (exchange box writer p (password_change v old new filler) l) new
  KeptAt p (other s) = Unit {0}

-- Whatever file the box's record was found in, at whatever time and for whatever maximum age, and
-- whatever count it was given then, for which a file has no place: along every series of demand 3
-- with that record, each change is kept by the file. (Demand 3's premise on the round keys needs no
-- saying: those of a record that was found in a file are its hashes' own.)
abbrev pub KeptInFile : Box → Writer → FileWriter → Type 0
KeptInFile box writer write =
    (name file : List ℕ) (now max_age : ℕ) (a : Account)
    → (find_in now max_age name file).lookup ≡ found (with_failures 0 a)
    → (o : Opening) → (opened o).refusal ≡ 0 → length o.challenge ≡ 8
    → (k : ℕ) (behind : List ℕ) (ms : List Step)
    → Rightful a → k ≤ retries_of o.retries → a.failures + k < o.limit
    → collect packet_kinds ms ≡ plan k (change_of o.change) a.expired
    → Along (next box writer) (Allowed box writer a) (start o behind a) ms
    → Along (next box writer) (KeptAt box writer write name file) (start o behind a) ms
