-- Round keys as they are kept beside a stored hash (document 02, request 2026-10), and DES under
-- them (FIPS 46-2).
-- Assumes nothing: these are definitions.
use Rattle.std.specs.Prelude.{cond, List, [], ◌∷◌, ◌++◌, map, length, drop, replicate}
use Rattle.std.specs.Prelude.{ℕ, zero, suc, ◌*◌, ◌/◌, ◌%◌, ◌^◌, eqb}
use Rattle.octets.specs.Numbers.{from_digits, from_be, to_be, from_le}
use Rattle.octets.specs.Parts.{part}
use Rattle.des.specs.Des.{crypt, schedule_of}

-- ---- one round key

-- six bits of k, s places from its end
abbrev pub six : ℕ → ℕ → ℕ
six s k = k / 2 ^ s % 64

-- a round key of 48 bits as it is stored: its eight groups of six bits (FIPS 46-2, "The Cipher
-- Function f"), each in an octet of its own, in the order in which S1 S3 S5 S7 S2 S4 S6 S8 read
-- them
unfoldable pub pack_key : ℕ → ℕ
pack_key k =
    from_digits 8 (six 42 k ∷ six 30 k ∷ six 18 k ∷ six 6 k ∷
    six 36 k ∷ six 24 k ∷ six 12 k ∷ six 0 k ∷ [])

-- the round key that a stored number stands for, whatever its other bits are
unfoldable pub unpack_key : ℕ → ℕ
unpack_key k =
    from_digits 6 (six 56 k ∷ six 24 k ∷ six 48 k ∷ six 16 k ∷
    six 40 k ∷ six 8 k ∷ six 32 k ∷ six 0 k ∷ [])

-- ---- schedules ("Keep the three schedules beside each hash", document 02, request 2026-10)

-- the sixteen round keys of a key of seven octets (FIPS 46-2, "Key schedule"), stored
unfoldable pub stored_schedule : List ℕ → List ℕ
stored_schedule key = map pack_key (schedule_of key)

-- those of the three keys in 21 octets, 48 numbers
unfoldable pub three_schedules : List ℕ → List ℕ
three_schedules keys =
    stored_schedule (part 0 7 keys)
    ++ (stored_schedule (part 7 7 keys) ++ stored_schedule (part 14 7 keys))

-- a block under sixteen stored round keys (FIPS 46-2, "Enciphering")
unfoldable pub des_under : List ℕ → List ℕ → List ℕ
des_under ks block = to_be 8 (crypt (map unpack_key ks) (from_be block))

-- a block under each of three stored schedules
unfoldable pub three_under : List ℕ → List ℕ → List ℕ
three_under ks block =
    des_under (part 0 16 ks) block
    ++ (des_under (part 16 16 ks) block ++ des_under (part 32 16 ks) block)

-- ---- stored schedules in octets

-- how many octets 48 numbers take
abbrev pub stored_size : ℕ
stored_size = 8 * 48

-- n numbers of eight octets each, the least significant octet first
unfoldable pub decode_keys : ℕ → List ℕ → List ℕ
decode_keys zero octets = []
decode_keys (suc n) octets = from_le (part 0 8 octets) ∷ decode_keys n (drop 8 octets)

-- the 48 numbers in as many octets as they take; in any other number of octets, zeros
abbrev pub keys_in : List ℕ → List ℕ
keys_in octets =
    cond (eqb (length octets) stored_size) (decode_keys 48 octets) (replicate 48 0)
