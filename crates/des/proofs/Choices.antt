-- PC-1 by the rows of IP, and PC-2 by seven bits of C and D at a time.
-- Assumes nothing.
use mathlib.Core.Path.{◌≡◌, sym, ap, ap₂, ◌∙◌}
use Prim.Native.Nat.{ℕ, ◌+◌, ◌*◌, ◌/◌, ◌%◌, ◌^◌, ◌<◌}
use native.Mathlib.Nat.{mod-lt, div-one}
use lib.Arith.{digits_lt}
use lib.Bits.{bit_xor, bit_and}
use lib.Pow.{pow_pos, high, low}
use Rattle.des.specs.Tables.{ip, pc1, pc2}
use Rattle.des.specs.Des.{permute}
use Rattle.des.specs.Inner.{arranged, chosen_at}
use Rattle.des.specs.Stored.{pack_key}
use Rattle.des.proofs.Packed.{lin_pack}
use Rattle.des.proofs.Linear.{Linear, agree, lin_id, lin_after, lin_xor, lin_shr, lin_mod, lin_shl}
use Rattle.des.proofs.Linear.{lin_mask}
use Rattle.des.proofs.Permute.{lin_permute}

-- ---- PC-1

-- some bits moved up, or down
up : (m k : ℕ) → Linear (λ y. bit_and y m * 2 ^ k % 2 ^ 64)
up m k = lin_mod 64 (lin_shl k (lin_mask m lin_id))

down : (m k : ℕ) → Linear (λ y. bit_and (y / 2 ^ k) m)
down m k = lin_mask m (lin_shr k lin_id)

lin_arranged : Linear arranged
unfolding arranged
lin_arranged =
    lin_xor (lin_xor (lin_xor (lin_xor (lin_xor (lin_xor (lin_xor
    (up 0xFF00_0000 24) (down 0xFF00_0000_0000 16)) (up 0xFF_0000 16)) (down 0xF000_0000 24)) (up 0xFF 20))
    (down 0xF_F000 28)) (down 0xFF0 4)) (down 0xF 48)

pub rows : (key : ℕ) → key < 2 ^ 64 → arranged (permute 64 ip key) ≡ permute 64 pc1 key
unfolding arranged ip pc1
rows =
    agree (λ key. arranged (permute 64 ip key)) (permute 64 pc1) (lin_after lin_arranged (lin_permute 64 ip)) (lin_permute 64 pc1) 64 tt

-- ---- PC-2

-- as a stored round key has it
abbrev pub packed_at : ℕ → ℕ → ℕ
packed_at s b = pack_key (chosen_at s b)

lin_packed : (s : ℕ) {g : ℕ → ℕ} → Linear g → Linear (λ x. packed_at s (g x))
unfolding chosen_at
lin_packed s lg = lin_after lin_pack (lin_after (lin_permute 56 pc2) (lin_xor (lin_shl (s + 28) lg) (lin_shl s lg)))

-- seven bits, k places from the end
seven : (k : ℕ) → Linear (λ x. packed_at k (x / 2 ^ k % 2 ^ 7))
seven k = lin_packed k (lin_mod 7 (lin_shr k lin_id))

abbrev by_sevens : ℕ → ℕ
by_sevens x =
    bit_xor (bit_xor (bit_xor (packed_at 21 (x / 2 ^ 21 % 2 ^ 7)) (packed_at 14 (x / 2 ^ 14 % 2 ^ 7))) (packed_at 7 (x / 2 ^ 7 % 2 ^ 7)))
    (packed_at 0 (x / 2 ^ 0 % 2 ^ 7))

-- four times seven bits are all 28
sevens : (x : ℕ) → x < 2 ^ 64 → by_sevens x ≡ packed_at 0 (x % 2 ^ 28)
unfolding chosen_at pc2 pack_key
sevens =
    agree by_sevens (λ x. packed_at 0 (x % 2 ^ 28)) (lin_xor (lin_xor (lin_xor (seven 21) (seven 14)) (seven 7)) (seven 0))
    (lin_packed 0 (lin_mod 28 lin_id)) 64 tt

pub choose_both_lem : (x : ℕ) {a b c d : ℕ} → x < 2 ^ 64 → a ≡ packed_at 21 (x / 2 ^ 21 % 128) → b ≡ packed_at 14 (x / 2 ^ 14 % 128)
    → c ≡ packed_at 7 (x / 2 ^ 7 % 128) → d ≡ packed_at 0 (x % 128) → bit_xor (bit_xor (bit_xor a b) c) d ≡ packed_at 0 (x % 2 ^ 28)
choose_both_lem x h ea eb ec ed =
    ap₂ bit_xor (ap₂ bit_xor (ap₂ bit_xor ea eb) ec) (ed ∙ ap (λ (v : ℕ). packed_at 0 (v % 128)) (sym (div-one x))) ∙ sevens x h

abbrev by_halves : ℕ → ℕ → ℕ
by_halves c d = bit_xor (bit_and (packed_at 0 c) 0x3F3F_0000_3F3F_0000) (bit_and (packed_at 0 d) 0x3F3F_0000_3F3F)

-- the groups of S1 to S4 are from C, those of S5 to S8 from D
halves : (x : ℕ) → x < 2 ^ 56 → by_halves (x / 2 ^ 28) (x % 2 ^ 28) ≡ pack_key (permute 56 pc2 x)
unfolding chosen_at pc2 pack_key
halves =
    agree (λ x. by_halves (x / 2 ^ 28) (x % 2 ^ 28)) (λ x. pack_key (permute 56 pc2 x))
    (lin_xor (lin_mask 0x3F3F_0000_3F3F_0000 (lin_packed 0 (lin_shr 28 lin_id))) (lin_mask 0x3F3F_0000_3F3F (lin_packed 0 (lin_mod 28 lin_id))))
    (lin_after lin_pack (lin_permute 56 pc2)) 56 tt

pub by_halves_lem : (c d : ℕ) {u v : ℕ} → u ≡ packed_at 0 (c % 2 ^ 28) → v ≡ packed_at 0 (d % 2 ^ 28)
    → bit_xor (bit_and u 0x3F3F_0000_3F3F_0000) (bit_and v 0x3F3F_0000_3F3F) ≡ pack_key (permute 56 pc2 (c % 2 ^ 28 * 2 ^ 28 + d % 2 ^ 28))
by_halves_lem c d eu ev =
    let a = c % 2 ^ 28 in
    let b = d % 2 ^ 28 in
    let hb = mod-lt d (pow_pos 28) in
    ap₂ (λ (u v : ℕ). bit_xor (bit_and u 0x3F3F_0000_3F3F_0000) (bit_and v 0x3F3F_0000_3F3F)) eu ev
    ∙ ap₂ by_halves (sym (high a 28 hb)) (sym (low a 28 hb))
    ∙ halves (a * 2 ^ 28 + b) (digits_lt (mod-lt c (pow_pos 28)) hb)
