-- What the parts of the code compute, as numbers. Only the code's inner functions cite these; no
-- public promise does.
-- Assumes nothing: these are definitions, and the lengths that the laws of a trait ask for, proved.
use Rattle.std.specs.Prelude.{List, [], ◌∷◌, map, reverse, length, get_or, ◌≡◌, refl}
use Rattle.std.specs.Prelude.{ℕ, zero, suc, ◌+◌, ◌-◌, ◌*◌, ◌/◌, ◌%◌, ◌^◌}
use Rattle.std.proofs.Common.{◌∙◌}
use Rattle.std.proofs.lemmas.List.{length-reverse}
use Rattle.std.specs.Int.Bits.{bit_xor, bit_and}
use Rattle.des.specs.Tables.{permutation, boxes, pc2, shifts}
use Rattle.des.specs.Des.{permute, select, keys_from}
use Rattle.des.specs.Stored.{unpack_key, decode_keys}

-- those bits of x that the mask m names have changed places with the bits n places above them
unfoldable pub bits_swapped : ℕ → ℕ → ℕ → ℕ
bits_swapped n m x =
    bit_xor (bit_xor x (bit_and (bit_xor (x / 2 ^ n) x) m))
    (bit_and (bit_xor (x / 2 ^ n) x) m * 2 ^ n % 2 ^ 64)

-- those bits of x that the mask m names, n places up, and those that l names where they are
unfoldable pub set_apart : ℕ → ℕ → ℕ → ℕ → ℕ
set_apart n m l x = bit_xor (bit_and x m * 2 ^ n % 2 ^ 64) (bit_and x l)

-- the last bit of r, the 32 bits of r, and the first bit of r: each six bits that E chooses stand
-- together in it
unfoldable pub spread : ℕ → ℕ
spread r = bit_xor (bit_xor (r % 2 * 2 ^ 33 % 2 ^ 64) (r * 2 ^ 1 % 2 ^ 64)) (r / 2 ^ 31)

-- n entries of a table from the place k on, in rows of m: f i b in the row i at the column b
abbrev pub table_entries : (ℕ → ℕ → ℕ) → ℕ → ℕ → ℕ → List ℕ
table_entries f m zero k = []
table_entries f m (suc n) k = f (k / m) (k % m) ∷ table_entries f m n (suc k)

-- P folded into the selection function i, counted from 0 ("The Cipher Function f"): P of the four
-- bits that it gives for the six bits b, in their place among the 32
abbrev pub folded_at : ℕ → ℕ → ℕ
folded_at i b = permute 32 permutation (select (get_or boxes i []) b * 2 ^ (4 * (7 - i)))

-- the eight selection functions with P folded in, a row of 64 for each
unfoldable pub folded_table : List ℕ
folded_table = table_entries folded_at 64 512 0

-- the rows of IP in the order of PC-1, which drops the fourth: C is the rows 5, 1, 6 and the first
-- half of 2, D is the rows 8, 3, 7 and the last half of 2
unfoldable pub arranged : ℕ → ℕ
arranged y =
    bit_xor (bit_xor (bit_xor (bit_xor (bit_xor (bit_xor (bit_xor
    (bit_and y 0xFF00_0000 * 2 ^ 24 % 2 ^ 64)
    (bit_and (y / 2 ^ 16) 0xFF00_0000_0000))
    (bit_and y 0xFF_0000 * 2 ^ 16 % 2 ^ 64))
    (bit_and (y / 2 ^ 24) 0xF000_0000))
    (bit_and y 0xFF * 2 ^ 20 % 2 ^ 64))
    (bit_and (y / 2 ^ 28) 0xF_F000))
    (bit_and (y / 2 ^ 4) 0xFF0))
    (bit_and (y / 2 ^ 48) 0xF)

-- what PC-2 makes of some bits b of C and the same bits of D, s places from their ends, where all
-- other bits are clear
unfoldable pub chosen_at : ℕ → ℕ → ℕ
chosen_at s b = permute 56 pc2 (bit_xor (b * 2 ^ (s + 28)) (b * 2 ^ s))

-- the sum of the first n left shifts
abbrev pub shifts_of : ℕ → List ℕ → ℕ
shifts_of zero ss = 0
shifts_of (suc n) [] = 0
shifts_of (suc n) (s ∷ ss) = s + shifts_of n ss

-- the places by which C and D are rotated in the round i, counted from 0: all left shifts up to it
-- ("Key schedule")
unfoldable pub rotated_by : ℕ → ℕ
rotated_by i = shifts_of (suc i) shifts

-- the round keys from the C and D of PC-1 ("Key schedule")
abbrev pub keys_of : ℕ → ℕ → List ℕ
keys_of c d = keys_from shifts c d

-- the round keys that the numbers of a stored schedule stand for
abbrev pub kept_keys : List ℕ → List ℕ
kept_keys octets = map unpack_key (decode_keys 16 octets)

-- ---- lengths: laws of the code's `RoundKeys`, which are proved where they are stated

pub length_made : (c d : ℕ) → length (keys_of c d) ≡ 16
unfolding shifts
length_made c d = refl

pub length_kept : (octets : List ℕ) → length (kept_keys octets) ≡ 16
unfolding decode_keys
length_kept octets = refl

pub length_opposite : (ks : List ℕ) → length ks ≡ 16 → length (reverse ks) ≡ 16
length_opposite ks n = length-reverse ks ∙ n
