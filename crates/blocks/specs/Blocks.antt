-- A hash over blocks of 64 octets: the padding and the run over the blocks, for any registers S,
-- any function of a block and any way to write the length. MD4 is one (RFC 1320, 3.1, 3.2 and 3.4);
-- SHA-1 pads alike and writes the length the other way round.
-- Assumes nothing: these are definitions.
use Rattle.std.specs.Prelude.{List, ◌∷◌, ◌++◌, ℕ, zero, suc, ◌+◌, ◌-◌, ◌*◌, ◌/◌, ◌%◌, length, take}
use Rattle.std.specs.Prelude.{drop, replicate}
use Rattle.blocks.specs.declared.Tail.{Tail}

-- the registers after the first n blocks of l; f is what a block does to the registers
unfoldable pub run_blocks : {S : Type 0} → (List ℕ → S → S) → ℕ → List ℕ → S → S
run_blocks f zero l s = s
run_blocks f (suc n) l s = run_blocks f n (drop 64 l) (f (take 64 l) s)

-- as few octets 0 as bring n octets and the octet 128 to 8 octets short of a whole number of blocks
unfoldable pub zeros : ℕ → ℕ
zeros n = (119 - n % 64) % 64

-- the message m, the octet 128, the zeros, and the eight octets e, which give the message's length
unfoldable pub padded : List ℕ → List ℕ → List ℕ
padded e m = m ++ (128 ∷ (replicate (zeros (length m)) 0 ++ e))

-- the registers after the whole padded message, from s; len writes the number of the message's bits
-- as eight octets
unfoldable pub hash_blocks : {S : Type 0} → (List ℕ → S → S) → (ℕ → List ℕ) → S → List ℕ → S
hash_blocks f len s m = run_blocks f (length (padded (len (length m * 8)) m) / 64)
    (padded (len (length m * 8)) m) s

-- ---- the last block or two, which the code makes in a buffer of its own

-- how many octets of the padded message stand after the last whole block of a message of n octets:
-- 64 or 128
unfoldable pub tail_length : ℕ → ℕ
tail_length n = n % 64 + 9 + zeros n

-- these octets, and zeros up to 128
unfoldable pub tail_of : List ℕ → List ℕ → Tail
tail_of e m =
    record {
      octets = drop (length m / 64 * 64) (padded e m) ++ replicate (128 - tail_length (length m)) 0;
      used = tail_length (length m);
    }
