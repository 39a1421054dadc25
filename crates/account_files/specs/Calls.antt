-- An account file from C: what each call returns (r) and leaves.
-- Assumes nothing: these are definitions.
use Rattle.std.specs.Prelude.{Bool, true, false, cond, ◌&&◌, List, ◌≡◌, ℕ}
use Rattle.layouts.specs.Call.{Fills, sized, numbered}
use Rattle.layouts.specs.Records.{record_size, encode_record, decode_record, is_encoded_record}
use Rattle.smbpasswd.specs.File.{Place, Nowhere, Line, Doubled, Malformed}
use Rattle.smbpasswd.specs.File.{place_of, place_refusal, place_offset, find_in}
use Rattle.smbpasswd.specs.Write.{written_in}
use Rattle.smbpasswd.specs.Summary.{counts_of}

-- ---- looked up

-- the record, unless there is a refusal, and the offset, with 14 and 15 too
pub record FindCall (file name : List ℕ) (now max_age : ℕ) (out : List ℕ) (offset r : ℕ)
    (out_after : List ℕ) (offset_after : ℕ) : Type 0 where
  pub answer : Fills (sized record_size out) (place_refusal (place_of name file))
      (encode_record (find_in now max_age name file).lookup) out r out_after
  pub offsets : offset_after
      ≡ cond (sized record_size out) (place_offset (place_of name file)) offset

-- ---- written back

-- whether a place has an offset
abbrev pub is_somewhere : Place → Bool
is_somewhere Nowhere = false
is_somewhere (Line at) = true
is_somewhere (Doubled at) = true
is_somewhere (Malformed at) = true

-- 103: the name is on no line
abbrev pub write_number : Place → ℕ
write_number p = cond (is_somewhere p) (place_refusal p) 103

-- a valid record, and one of an account
abbrev pub is_storable : List ℕ → Bool
is_storable bytes = is_encoded_record bytes && (decode_record bytes).found

-- 100 for an invalid record, 102 for the record of no account, then by the place of the name; the
-- file is written where it is 0, the offset also with 14 and 15
pub record WriteCall (file name bytes : List ℕ) (now offset r : ℕ) (file_after : List ℕ)
    (offset_after : ℕ) : Type 0 where
  pub number : r ≡ numbered (is_encoded_record bytes)
      (cond (decode_record bytes).found (write_number (place_of name file)) 102)
  pub written : file_after
      ≡ cond (is_storable bytes) (written_in name (decode_record bytes).account now file) file
  pub offsets : offset_after
      ≡ cond (is_storable bytes && is_somewhere (place_of name file))
      (place_offset (place_of name file)) offset

-- ---- counted

pub record CountCall (file : List ℕ) (now max_age r lines bad disabled expired no_nt : ℕ) : Type 0
  where
    pub number : r ≡ 0
    pub all : lines ≡ (counts_of now max_age file).lines
    pub other_form : bad ≡ (counts_of now max_age file).bad
    pub off : disabled ≡ (counts_of now max_age file).disabled
    pub old : expired ≡ (counts_of now max_age file).expired
    pub without_nt : no_nt ≡ (counts_of now max_age file).no_nt
