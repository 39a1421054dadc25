-- The Change Password packet, version 2 (RFC 2433, section 10).
-- Assumes nothing: these are definitions.
use Rattle.std.specs.Prelude.{Bool, cond, not, List, ◌++◌, ℕ, eqb, ltb}
use Rattle.octets.specs.Parts.{part, fixed}
use Rattle.octets.specs.Numbers.{to_be}
use Rattle.packets.specs.Codes.{change_code}
use Rattle.packets.specs.Frame.{Written, number_at, length_of, framed, short_for, answer_by, out_by}
use Rattle.packets.specs.Sizes.{head_size, answer_size, hash_size, block_size, verifier_offset}
use Rattle.packets.specs.Sizes.{lm_block_offset, lm_verifier_offset, lm_answer_offset}
use Rattle.packets.specs.Sizes.{nt_answer_offset, flags_offset, change_size}
use Rattle.packets.specs.declared.Change.{Change}

-- the flags go most significant octet first (decided by document 01)
unfoldable pub change_packet : ℕ → Change → List ℕ
change_packet id f =
    framed change_code id (f.block ++ (f.verifier
    ++ (f.lmblock ++ (f.lmverifier ++ (f.lm ++ (f.nt ++ to_be 2 f.flags))))))

-- octets that the packet does not reach are 0
abbrev pub read_change : List ℕ → Change
read_change p =
    record {
      block = fixed block_size (part head_size block_size p);
      verifier = fixed hash_size (part verifier_offset hash_size p);
      lmblock = fixed block_size (part lm_block_offset block_size p);
      lmverifier = fixed hash_size (part lm_verifier_offset hash_size p);
      lm = fixed answer_size (part lm_answer_offset answer_size p);
      nt = fixed answer_size (part nt_answer_offset answer_size p);
      flags = number_at flags_offset p;
    }

-- refusal 6
abbrev pub bad_change_size : List ℕ → Bool
bad_change_size p = not (eqb (length_of p) change_size)

-- refusal 7: one of the bits 2 to 15 is set
abbrev pub bad_change_flags : List ℕ → Bool
bad_change_flags p = ltb 3 (read_change p).flags

-- 6, then 7; 0 is none
unfoldable pub change_refusal : List ℕ → ℕ
change_refusal p = cond (bad_change_size p) 6 (cond (bad_change_flags p) 7 0)

-- ---- writing one: refusal 9 for too little room

abbrev pub short_for_change : List ℕ → Bool
short_for_change out = short_for change_size out

unfoldable pub change_write_refusal : List ℕ → ℕ
change_write_refusal out = cond (short_for_change out) 9 0

unfoldable pub change_written : ℕ → Change → List ℕ → Written
change_written id f out = answer_by (change_write_refusal out) (change_packet id f)

unfoldable pub change_out : ℕ → Change → List ℕ → List ℕ
change_out id f out = out_by (change_write_refusal out) (change_packet id f) out
