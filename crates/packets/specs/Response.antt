-- The Response packet (RFC 2433, section 6): size of the value, LM response, NT response, flag,
-- name.
-- Assumes nothing: these are definitions.
use Rattle.std.specs.Prelude.{Bool, cond, not, ◌||◌, List, ◌∷◌, ◌++◌, ℕ, ◌+◌, ◌-◌, eqb, ltb, length}
use Rattle.octets.specs.Parts.{part, fixed}
use Rattle.packets.specs.Codes.{response_code}
use Rattle.packets.specs.Frame.{Written, octet, length_of, framed, answer_by, out_by}
use Rattle.packets.specs.Sizes.{head_size, answer_size, value_size, lm_offset, nt_offset}
use Rattle.packets.specs.Sizes.{flag_offset, name_offset, longest_name, shortest_response}
use Rattle.packets.specs.Sizes.{longest_response}
use Rattle.packets.specs.declared.Response.{Response}

unfoldable pub response_packet : ℕ → Response → List ℕ → List ℕ
response_packet id f name =
    framed response_code id (value_size ∷ (f.lm ++ (f.nt ++ (f.flag ∷ name))))

-- the fields but the name; octets that the packet does not reach are 0
abbrev pub read_response : List ℕ → Response
read_response p =
    record {
      lm = fixed answer_size (part lm_offset answer_size p);
      nt = fixed answer_size (part nt_offset answer_size p);
      flag = octet flag_offset p;
    }

-- the name ends at Length
abbrev pub read_name : List ℕ → List ℕ
read_name p = part name_offset (length_of p - name_offset) p

-- refusal 6: Length not 55 to 310, or the size not 49
abbrev pub bad_response_size : List ℕ → Bool
bad_response_size p =
    ltb (length_of p) shortest_response
    || (ltb longest_response (length_of p) || not (eqb (octet head_size p) value_size))

-- refusal 7
abbrev pub bad_response_flag : List ℕ → Bool
bad_response_flag p = ltb 1 (octet flag_offset p)

-- 6, then 7; 0 is none
unfoldable pub response_refusal : List ℕ → ℕ
response_refusal p = cond (bad_response_size p) 6 (cond (bad_response_flag p) 7 0)

-- ---- writing one: refusal 10 for a name that is empty or over 256 octets, then 9 for too little
-- room

abbrev pub bad_name : List ℕ → Bool
bad_name name = ltb (length name) 1 || ltb longest_name (length name)

abbrev pub short_for_response : List ℕ → List ℕ → Bool
short_for_response name out = ltb (length out) (name_offset + length name)

unfoldable pub response_write_refusal : List ℕ → List ℕ → ℕ
response_write_refusal name out = cond (bad_name name) 10 (cond (short_for_response name out) 9 0)

unfoldable pub response_written : ℕ → Response → List ℕ → List ℕ → Written
response_written id f name out =
    answer_by (response_write_refusal name out) (response_packet id f name)

unfoldable pub response_out : ℕ → Response → List ℕ → List ℕ → List ℕ
response_out id f name out =
    out_by (response_write_refusal name out) (response_packet id f name) out
