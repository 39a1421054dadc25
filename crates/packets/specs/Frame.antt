-- The frame of every packet (RFC 1994, section 4): code, identifier, Length (two octets, the most
-- significant first, of the whole packet), data.
-- Assumes nothing: these are definitions.
use Rattle.std.specs.Prelude.{Result, Ok, Err, Bool, cond, not, ◌||◌, List, [], ◌∷◌, ◌++◌, ℕ, ◌+◌}
use Rattle.std.specs.Prelude.{◌-◌, eqb, leb, ltb, length, get_or, drop}
use Rattle.octets.specs.Parts.{part}
use Rattle.octets.specs.Numbers.{from_be, to_be}
use Rattle.packets.specs.Sizes.{head_size}
use Rattle.refusals.specs.Refusal.{number}
use Rattle.refusals.specs.declared.Refusal.{Refusal}

-- the octet at the place i, 0 where p does not reach it
abbrev pub octet : ℕ → List ℕ → ℕ
octet i p = get_or p i 0

-- the number of two octets from the place i on, the most significant first
abbrev pub number_at : ℕ → List ℕ → ℕ
number_at i p = from_be (octet i p ∷ octet (i + 1) p ∷ [])

abbrev pub length_of : List ℕ → ℕ
length_of p = number_at 2 p

-- a packet with the data d
abbrev pub framed : ℕ → ℕ → List ℕ → List ℕ
framed code id d = code ∷ id ∷ (to_be 2 (head_size + length d) ++ d)

-- refusal 3: under 4 octets, or Length under 4 or over what was passed
abbrev pub bad_frame : List ℕ → Bool
bad_frame p =
    ltb (length p) head_size || (ltb (length_of p) head_size || ltb (length p) (length_of p))

-- refusal 5: another identifier than this one
abbrev pub bad_id : ℕ → List ℕ → Bool
bad_id id p = not (eqb (octet 1 p) id)

-- the data end at Length: the octets after it are padding
abbrev pub data_of : List ℕ → List ℕ
data_of p = part head_size (length_of p - head_size) p

-- ---- a packet at the front of a caller's buffer

-- too little room for n octets
abbrev pub short_for : ℕ → List ℕ → Bool
short_for n out = ltb (length out) n

-- the buffer afterwards: the packet and then the octets that lay there before or, with too little
-- room, all as it was
unfoldable pub written_over : List ℕ → List ℕ → List ℕ
written_over packet out = cond (leb (length packet) (length out))
    (packet ++ drop (length packet) out) out

-- how many octets were written
unfoldable pub written_length : List ℕ → List ℕ → ℕ
written_length packet out = cond (leb (length packet) (length out)) (length packet) 0

-- a writer's answer: the number of its refusal (0 is none), and how many octets it wrote
pub record Written : Type 0 where
  pub refusal : ℕ
  pub length : ℕ

abbrev pub written_as : Result ℕ Refusal → Written
written_as (Ok n) = record { refusal = 0; length = n }
written_as (Err r) = record { refusal = number r; length = 0 }

-- a writer's answer and its buffer afterwards, by the refusal; on refusal nothing is written
abbrev pub answer_by : ℕ → List ℕ → Written
answer_by n packet = record { refusal = n; length = cond (eqb n 0) (length packet) 0 }

abbrev pub out_by : ℕ → List ℕ → List ℕ → List ℕ
out_by n packet out = cond (eqb n 0) (written_over packet out) out
