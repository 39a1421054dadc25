-- The Change Password packet, version 1 (RFC 2433, section 9).
-- Assumes nothing: these are definitions.
use Rattle.std.specs.Prelude.{Bool, cond, not, List, ◌++◌, ℕ, eqb, ltb}
use Rattle.octets.specs.Parts.{part, fixed}
use Rattle.octets.specs.Numbers.{to_be}
use Rattle.packets.specs.Codes.{change_one_code}
use Rattle.packets.specs.Frame.{Written, number_at, length_of, framed, short_for, answer_by, out_by}
use Rattle.packets.specs.Sizes.{hash_size, lm_old_offset, lm_new_offset, nt_old_offset}
use Rattle.packets.specs.Sizes.{nt_new_offset, length_offset, one_flags_offset, change_one_size}
use Rattle.packets.specs.declared.ChangeOne.{ChangeOne}

-- the password's length is written as the flags are: most significant octet first
unfoldable pub change_one_packet : ℕ → ChangeOne → List ℕ
change_one_packet id f =
    framed change_one_code id (f.lmold ++ (f.lmnew
    ++ (f.ntold ++ (f.ntnew ++ (to_be 2 f.length ++ to_be 2 f.flags)))))

-- octets that the packet does not reach are 0
abbrev pub read_change_one : List ℕ → ChangeOne
read_change_one p =
    record {
      lmold = fixed hash_size (part lm_old_offset hash_size p);
      lmnew = fixed hash_size (part lm_new_offset hash_size p);
      ntold = fixed hash_size (part nt_old_offset hash_size p);
      ntnew = fixed hash_size (part nt_new_offset hash_size p);
      length = number_at length_offset p;
      flags = number_at one_flags_offset p;
    }

-- refusal 6
abbrev pub bad_change_one_size : List ℕ → Bool
bad_change_one_size p = not (eqb (length_of p) change_one_size)

-- refusal 7: one of the bits 1 to 15 is set
abbrev pub bad_change_one_flags : List ℕ → Bool
bad_change_one_flags p = ltb 1 (read_change_one p).flags

-- 6, then 7; 0 is none
unfoldable pub change_one_refusal : List ℕ → ℕ
change_one_refusal p = cond (bad_change_one_size p) 6 (cond (bad_change_one_flags p) 7 0)

-- ---- writing one: refusal 9 for too little room

abbrev pub short_for_change_one : List ℕ → Bool
short_for_change_one out = short_for change_one_size out

unfoldable pub change_one_write_refusal : List ℕ → ℕ
change_one_write_refusal out = cond (short_for_change_one out) 9 0

unfoldable pub change_one_written : ℕ → ChangeOne → List ℕ → Written
change_one_written id f out = answer_by (change_one_write_refusal out) (change_one_packet id f)

unfoldable pub change_one_out : ℕ → ChangeOne → List ℕ → List ℕ
change_one_out id f out = out_by (change_one_write_refusal out) (change_one_packet id f) out
