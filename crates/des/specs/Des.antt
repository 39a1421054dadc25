-- DES as FIPS 46-2 defines it. A block of w bits is a number below 2 ^ w whose first bit, bit 1, is
-- the most significant.
-- Assumes nothing: these are definitions.
use Rattle.std.specs.Prelude.{List, [], ◌∷◌, ◌++◌, map, reverse, length, get_or}
use Rattle.std.specs.Prelude.{ℕ, ◌+◌, ◌-◌, ◌*◌, ◌/◌, ◌%◌, ◌^◌}
use Rattle.std.specs.Int.Bits.{bit_xor}
use Rattle.octets.specs.Numbers.{from_digits, to_digits, from_be, to_be}
use Rattle.octets.specs.Parts.{part}
use Rattle.des.specs.Tables.{ip, fp, expansion, permutation, boxes, pc1, pc2, shifts}

-- ---- blocks

-- bit i of the block n of w bits, counted from 1 at the left (FIPS 46-2, "Enciphering")
abbrev pub bit : ℕ → ℕ → ℕ → ℕ
bit w i n = n / 2 ^ (w - i) % 2

-- after the bits of acc, those bits of the block n that a table names, in its order
abbrev pub choose : ℕ → ℕ → List ℕ → ℕ → ℕ
choose w acc [] n = acc
choose w acc (i ∷ t) n = choose w (acc * 2 + bit w i n) t n

-- what a table makes of a block of w bits (IP, its inverse, E, P, PC-1 and PC-2 are read so)
abbrev pub permute : ℕ → List ℕ → ℕ → ℕ
permute w t n = choose w 0 t n

-- ---- "The Cipher Function f"

-- a selection function at six bits: the first and last name the row, the middle four the column
abbrev pub select : List ℕ → ℕ → ℕ
select s b = get_or s ((b / 32 * 2 + b % 2) * 16 + b / 2 % 16) 0

-- after the bits of acc, the four bits of each selection function at its six bits of x, the first
-- at the first six
abbrev pub substitute : ℕ → List (List ℕ) → ℕ → ℕ
substitute acc [] x = acc
substitute acc (s ∷ ss) x = substitute (acc * 16 + select s (x / 2 ^ (6 * length ss) % 64)) ss x

-- f(R, K) = P(S1(B1) S2(B2) .. S8(B8)), where B1 B2 .. B8 = K xor E(R)
unfoldable pub cipher_f : ℕ → ℕ → ℕ
cipher_f r k = permute 32 permutation (substitute 0 boxes (bit_xor (permute 32 expansion r) k))

-- ---- "Enciphering" and "Deciphering"

-- L' = R and R' = L xor f(R, K) for each round key; at the end the preoutput block R L
abbrev pub rounds : List ℕ → ℕ → ℕ → ℕ
rounds [] l r = r * 2 ^ 32 + l
rounds (k ∷ ks) l r = rounds ks r (bit_xor l (cipher_f r k))

-- a block of 64 bits under a list of round keys: IP, the rounds, and the inverse of IP
unfoldable pub crypt : List ℕ → ℕ → ℕ
crypt ks n = permute 64 fp (rounds ks (permute 64 ip n / 2 ^ 32) (permute 64 ip n % 2 ^ 32))

-- ---- "Key schedule"

-- a left shift of the 28 bits of C or D: each bit moves s places to the left, and the first s bits
-- come last
abbrev pub rotate : ℕ → ℕ → ℕ
rotate s c = c * 2 ^ s % 2 ^ 28 + c / 2 ^ (28 - s)

-- for each number of left shifts the next C and D, and PC-2 of the two
abbrev pub keys_from : List ℕ → ℕ → ℕ → List ℕ
keys_from [] c d = []
keys_from (s ∷ ss) c d =
    permute 56 pc2 (rotate s c * 2 ^ 28 + rotate s d)
    ∷ keys_from ss (rotate s c) (rotate s d)

-- KS: the sixteen round keys of a key of 64 bits, from the C and D that PC-1 gives
unfoldable pub round_keys : ℕ → List ℕ
round_keys key = keys_from shifts (permute 64 pc1 key / 2 ^ 28) (permute 64 pc1 key % 2 ^ 28)

-- ---- keys of seven octets: the 56 bits of a key that are not parity (appendix 1, KS: bits 8, 16,
-- .., 64 are for parity)

-- an octet without its last bit
abbrev pub half : ℕ → ℕ
half o = o / 2

-- seven bits with a clear bit after them
abbrev pub double : ℕ → ℕ
double s = s * 2

-- the 56 bits of seven octets in the top seven bits of eight, the parity bits clear
unfoldable pub expand_key : List ℕ → List ℕ
expand_key key = map double (to_digits 7 8 (from_be key))

-- the top seven bits of eight octets as seven octets
unfoldable pub drop_parity : List ℕ → List ℕ
drop_parity key = to_be 7 (from_digits 7 (map half key))

-- ---- DES on octets

-- the round keys of a key of seven octets
unfoldable pub schedule_of : List ℕ → List ℕ
schedule_of key = round_keys (from_be (expand_key key))

-- "Enciphering": the round keys in their order
unfoldable pub des_encrypt : List ℕ → List ℕ → List ℕ
des_encrypt key block = to_be 8 (crypt (schedule_of key) (from_be block))

-- "Deciphering": the same round keys in the opposite order
unfoldable pub des_decrypt : List ℕ → List ℕ → List ℕ
des_decrypt key block = to_be 8 (crypt (reverse (schedule_of key)) (from_be block))

-- a block under each of the three keys of 21 octets
unfoldable pub des_three : List ℕ → List ℕ → List ℕ
des_three keys block =
    des_encrypt (part 0 7 keys) block
    ++ (des_encrypt (part 7 7 keys) block ++ des_encrypt (part 14 7 keys) block)
