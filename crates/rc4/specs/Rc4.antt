-- RC4 over lists of octets: the key schedule, the keystream, and data under the keystream. No RFC
-- defines RC4; RFC 6229 lists keystreams of it.
-- Assumes nothing: these are definitions.
use Rattle.std.specs.Prelude.{ℕ, zero, suc, ◌+◌, ◌%◌, Bool, cond, ◌&&◌, List, [], ◌∷◌, ◌++◌, length}
use Rattle.std.specs.Prelude.{Result, Ok, Err, bit_xor, nat_le, slice_index, slice_set}
use Rattle.rc4.specs.declared.State.{State}
use Rattle.refusals.specs.declared.Refusal.{Refusal}
use Rattle.refusals.specs.declared.Refusal.TheVariants.{Input}

-- the entries at i and j exchanged
unfoldable pub swapped : List ℕ → ℕ → ℕ → List ℕ
swapped s i j = slice_set (slice_set s i (slice_index s j)) j (slice_index s i)

-- ---- the key schedule

-- the permutation that it starts from: 0, 1, .. n - 1
unfoldable pub upto : ℕ → List ℕ
upto zero = []
upto (suc n) = upto n ++ n ∷ []

-- the index j that the round w .i makes: the key is repeated as often as it takes
unfoldable pub mix_j : List ℕ → State → ℕ
mix_j key w = (w.j + slice_index w.s w.i + slice_index key (w.i % length key)) % 256

-- one round
unfoldable pub mix : List ℕ → State → State
mix key w = record { s = swapped w.s w.i (mix_j key w); i = w.i + 1; j = mix_j key w }

-- after the first n rounds
unfoldable pub mixed : List ℕ → ℕ → State
mixed key zero = record { s = upto 256; i = 0; j = 0 }
mixed key (suc n) = mix key (mixed key n)

-- a key's state before the first octet: both indices start over
unfoldable pub started : List ℕ → State
started key = record { s = (mixed key 256).s; i = 0; j = 0 }

-- ---- the keystream

-- the indices of the next step
unfoldable pub next_i : State → ℕ
next_i w = (w.i + 1) % 256

unfoldable pub next_j : State → ℕ
next_j w = (w.j + slice_index w.s (next_i w)) % 256

-- the state after one step
unfoldable pub next_state : State → State
next_state w = record { s = swapped w.s (next_i w) (next_j w); i = next_i w; j = next_j w }

-- the octet that a state gives once it is reached
unfoldable pub output_octet : State → ℕ
output_octet w = slice_index w.s ((slice_index w.s w.i + slice_index w.s w.j) % 256)

-- the next n octets
unfoldable pub keystream : ℕ → State → List ℕ
keystream zero w = []
keystream (suc n) w = output_octet (next_state w) ∷ keystream n (next_state w)

-- the state after n octets
unfoldable pub later_state : ℕ → State → State
later_state zero w = w
later_state (suc n) w = later_state n (next_state w)

-- ---- data under the keystream

-- exclusive or, octet by octet; where ks is at its end, d is unchanged
unfoldable pub xors : List ℕ → List ℕ → List ℕ
xors [] ks = []
xors (x ∷ d) [] = x ∷ xors d []
xors (x ∷ d) (k ∷ ks) = bit_xor x k ∷ xors d ks

-- the data d under the keystream of the state w
unfoldable pub ciphered : State → List ℕ → List ℕ
ciphered w d = xors d (keystream (length d) w)

-- ---- from a key

-- a key is taken if it has 1 to 256 octets
abbrev pub key_fits : List ℕ → Bool
key_fits key = nat_le 1 (length key) && nat_le (length key) 256

-- 8 refuses a key, 0 is no refusal
unfoldable pub key_refusal : List ℕ → ℕ
key_refusal key = cond (key_fits key) 0 8

-- what a run answers, and what the state of a key is
abbrev pub key_answer : List ℕ → Result (Unit {0}) Refusal
key_answer key = cond (key_fits key) (Ok tt) (Err Input)

unfoldable pub keyed : List ℕ → Result State Refusal
keyed key = cond (key_fits key) (Ok (started key)) (Err Input)

-- the data under the key's stream, and unchanged where the key is refused
unfoldable pub crypted : List ℕ → List ℕ → List ℕ
crypted key d = cond (key_fits key) (ciphered (started key) d) d
