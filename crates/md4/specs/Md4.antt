-- MD4 (RFC 1320), over lists of octets. A word is a number below 2 ^ 32.
-- Assumes nothing: these are definitions.
use Rattle.std.specs.Prelude.{ℕ, zero, suc, ◌+◌, ◌-◌, ◌*◌, ◌/◌, ◌%◌, ◌^◌, cond, List, [], ◌∷◌, ◌++◌}
use Rattle.std.specs.Prelude.{length, Result, Ok, Err, bit_and, bit_or, bit_xor, nat_le}
use Rattle.std.specs.Prelude.{slice_index}
use Rattle.octets.specs.Parts.{part}
use Rattle.octets.specs.Numbers.{from_le, to_le}
use Rattle.blocks.specs.Blocks.{hash_blocks}
use Rattle.refusals.specs.declared.Refusal.{Refusal}
use Rattle.refusals.specs.declared.Refusal.TheVariants.{Input}
use Rattle.md4.specs.declared.Registers.{Registers}

-- section 2: the sum of two words, and a word rotated to the left by s bits (0 < s < 32)
abbrev pub plus : ℕ → ℕ → ℕ
plus x y = (x + y) % 2 ^ 32

abbrev pub rotl : ℕ → ℕ → ℕ
rotl s x = bit_or (x * 2 ^ s % 2 ^ 32) (x / 2 ^ (32 - s))

-- section 3.4: the auxiliary functions F, G and H
abbrev pub aux_f : ℕ → ℕ → ℕ → ℕ
aux_f x y z = bit_or (bit_and x y) (bit_and (2 ^ 32 - 1 - x) z)

abbrev pub aux_g : ℕ → ℕ → ℕ → ℕ
aux_g x y z = bit_or (bit_or (bit_and x y) (bit_and x z)) (bit_and y z)

abbrev pub aux_h : ℕ → ℕ → ℕ → ℕ
aux_h x y z = bit_xor (bit_xor x y) z

-- [ABCD k s]: A becomes (A + aux(B,C,D) + X[k] + add) <<< s. The registers then move on by one
-- place, so that the next operation, which the RFC writes [DABC k s], reads them in the same order.
unfoldable pub operation : (ℕ → ℕ → ℕ → ℕ) → ℕ → ℕ → ℕ → Registers → Registers
operation aux add s x r =
    record {
      a = r.d;
      b = rotl s (plus (plus (plus r.a (aux r.b r.c r.d)) x) add);
      c = r.b;
      d = r.c;
    }

-- the operations of a round, from its table of k and s; x is the block's words
unfoldable pub operations : (ℕ → ℕ → ℕ → ℕ) → ℕ → List ℕ → List (ℕ × ℕ) → Registers → Registers
operations aux add x [] r = r
operations aux add x (e ∷ t) r = operations aux add x t
    (operation aux add e.1 (slice_index x e.0) r)

-- the tables of the three rounds, a row for each row of the RFC
abbrev pub table1 : List (ℕ × ℕ)
table1 =
    (0, 3) ∷ (1, 7) ∷ (2, 11) ∷ (3, 19)
    ∷ (4, 3) ∷ (5, 7) ∷ (6, 11) ∷ (7, 19)
    ∷ (8, 3) ∷ (9, 7) ∷ (10, 11) ∷ (11, 19)
    ∷ (12, 3) ∷ (13, 7) ∷ (14, 11) ∷ (15, 19) ∷ []

abbrev pub table2 : List (ℕ × ℕ)
table2 =
    (0, 3) ∷ (4, 5) ∷ (8, 9) ∷ (12, 13)
    ∷ (1, 3) ∷ (5, 5) ∷ (9, 9) ∷ (13, 13)
    ∷ (2, 3) ∷ (6, 5) ∷ (10, 9) ∷ (14, 13)
    ∷ (3, 3) ∷ (7, 5) ∷ (11, 9) ∷ (15, 13) ∷ []

abbrev pub table3 : List (ℕ × ℕ)
table3 =
    (0, 3) ∷ (8, 9) ∷ (4, 11) ∷ (12, 15)
    ∷ (2, 3) ∷ (10, 9) ∷ (6, 11) ∷ (14, 15)
    ∷ (1, 3) ∷ (9, 9) ∷ (5, 11) ∷ (13, 15)
    ∷ (3, 3) ∷ (11, 9) ∷ (7, 11) ∷ (15, 15) ∷ []

-- round 1 adds no constant, round 2 the square root of 2, round 3 that of 3
abbrev pub round1 : List ℕ → Registers → Registers
round1 x = operations aux_f 0 x table1

abbrev pub round2 : List ℕ → Registers → Registers
round2 x = operations aux_g 0x5a827999 x table2

abbrev pub round3 : List ℕ → Registers → Registers
round3 x = operations aux_h 0x6ed9eba1 x table3

-- each register, increased by the value it had before the block
unfoldable pub increased : Registers → Registers → Registers
increased s r = record {
  a = plus r.a s.a;
  b = plus r.b s.b;
  c = plus r.c s.c;
  d = plus r.d s.d;
}

-- section 2: n words of a block from the word k on, each of four octets, the low-order octet first
abbrev pub words_from : ℕ → ℕ → List ℕ → List ℕ
words_from zero k l = []
words_from (suc n) k l = from_le (part (4 * k) 4 l) ∷ words_from n (suc k) l

-- X[0] to X[15]
unfoldable pub words_of : List ℕ → List ℕ
words_of l = words_from 16 0 l

-- what a block does to the registers
unfoldable pub block : List ℕ → Registers → Registers
block l s = increased s (round3 (words_of l) (round2 (words_of l) (round1 (words_of l) s)))

-- section 3.3: the registers at the start
unfoldable pub initial_registers : Registers
initial_registers = record { a = 0x67452301; b = 0xefcdab89; c = 0x98badcfe; d = 0x10325476 }

-- section 3.5: the digest, the low-order octet of A first
unfoldable pub digest_of : Registers → List ℕ
digest_of r = to_le 4 r.a ++ (to_le 4 r.b ++ (to_le 4 r.c ++ to_le 4 r.d))

-- the digest of a message; its length goes in as 64 bits, the low-order word and octet first
-- (section 3.2)
unfoldable pub md4_of : List ℕ → List ℕ
md4_of m = digest_of (hash_blocks block (to_le 8) initial_registers m)

-- what the public function answers: the digest of at most 4,096 octets, else a refusal
unfoldable pub md4_answer : List ℕ → Result (List ℕ) Refusal
md4_answer m = cond (nat_le (length m) 4096) (Ok (md4_of m)) (Err Input)
