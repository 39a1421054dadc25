-- Stored round keys: each stands for the round key that it was made of, and so a block under stored
-- schedules is the block under the keys.
-- Assumes nothing.
use mathlib.Core.Path.{◌≡◌, refl, sym, ap, ap₂, ◌∙◌}
use mathlib.Core.List.{List, [], ◌∷◌, ◌++◌, map, reverse}
use Prim.Native.Nat.{ℕ, zero, suc, ◌+◌, ◌*◌, ◌/◌, ◌%◌, ◌^◌, ◌<◌}
use native.Mathlib.Nat.{div-one}
use native.Mathlib.Omega.{arith}
use lib.Dec.{lit<}
use lib.ListN.{length, get_or, take, drop, length-append, length-map}
use lib.Pow.{shr-shr}
use lib.Seq.{take_all, take_at, drop_at, drop-drop}
use lib.Bits.{bit_xor, xor_shr, xor_mod}
use Rattle.octets.specs.Numbers.{to_digits, from_be, to_be}
use Rattle.octets.specs.Parts.{part}
use Rattle.octets.proofs.Numbers.{Below, Octets}
use Rattle.des.specs.Tables.{pc2, shifts}
use Rattle.des.specs.Des.{cipher_f, rotate, crypt, keys_from, round_keys, schedule_of, des_encrypt}
use Rattle.des.specs.Des.{des_three}
use Rattle.des.specs.Inner.{spread, folded_at, length_made, keys_of}
use Rattle.des.specs.Stored.{pack_key, unpack_key, stored_schedule, three_schedules, des_under}
use Rattle.des.specs.Stored.{three_under}
use Rattle.des.proofs.Permute.{permute_lt}
use Rattle.des.proofs.Packed.{sixes, in_stored, groups, unpack_pack}
use Rattle.des.proofs.Round.{joined_right}
use Rattle.des.proofs.RoundTrip.{undone_block}

-- ---- schedules

keys_below : (ss : List ℕ) (c d : ℕ) → Below (2 ^ 48) (keys_from ss c d)
unfolding pc2
keys_below [] c d i = lit< tt
keys_below (s ∷ ss) c d zero = permute_lt 56 (rotate s c * 2 ^ 28 + rotate s d) pc2
keys_below (s ∷ ss) c d (suc i) = keys_below ss (rotate s c) (rotate s d) i

-- a stored round key stands for the round key that it was made of
pub unpack_made : (c d i : ℕ) → unpack_key (pack_key (get_or (keys_of c d) i 0)) ≡ get_or (keys_of c d) i 0
unpack_made c d i = unpack_pack (get_or (keys_of c d) i 0) (keys_below shifts c d i)

-- round keys have 48 bits
pub round_keys_below : (key : List ℕ) → Below (2 ^ 48) (schedule_of key)
unfolding schedule_of round_keys
round_keys_below key = keys_below shifts _ _

pub length_schedule : (key : List ℕ) → length (stored_schedule key) ≡ 16
unfolding stored_schedule schedule_of round_keys
length_schedule key = length-map (schedule_of key) pack_key ∙ length_made _ _

pub length_schedules : (keys : List ℕ) → length (three_schedules keys) ≡ 48
unfolding three_schedules
length_schedules keys =
    simp length-append (omega (arith, length_schedule (part 0 7 keys), length_schedule (part 7 7 keys), length_schedule (part 14 7 keys)))

unpack_packs : (ks : List ℕ) → Below (2 ^ 48) ks → map unpack_key (map pack_key ks) ≡ ks
unpack_packs [] h = refl
unpack_packs (k ∷ ks) h = ap₂ ◌∷◌ (unpack_pack k (h 0)) (unpack_packs ks (λ i. h (suc i)))

-- ---- a block under stored schedules

des_under_lem : (key block : List ℕ) → des_under (stored_schedule key) block ≡ des_encrypt key block
unfolding des_under stored_schedule des_encrypt
des_under_lem key block =
    ap (λ (ks : List ℕ). to_be 8 (crypt ks (from_be block))) (unpack_packs (schedule_of key) (round_keys_below key))

-- the three parts of three lists of sixteen
three_parts : (a b c : List ℕ) → length a ≡ 16 → length b ≡ 16 → length c ≡ 16
    → (part 0 16 (a ++ (b ++ c)) ≡ a) × (part 16 16 (a ++ (b ++ c)) ≡ b) × (part 32 16 (a ++ (b ++ c)) ≡ c)
three_parts a b c la lb lc =
    let rest = drop_at a (b ++ c) 16 la in (
      take_at a (b ++ c) 16 la,
      ap (take 16) rest ∙ take_at b c 16 lb,
      ap (take 16) (sym (drop-drop 16 16 (a ++ (b ++ c))) ∙ ap (drop 16) rest ∙ drop_at b c 16 lb) ∙ take_all 16 c (omega arith),
    )

pub three_under_lem : (keys block : List ℕ) → three_under (three_schedules keys) block ≡ des_three keys block
unfolding three_under three_schedules des_three
three_under_lem keys block =
    let a = part 0 7 keys in
    let b = part 7 7 keys in
    let c = part 14 7 keys in
    let p = three_parts (stored_schedule a) (stored_schedule b) (stored_schedule c) (length_schedule a) (length_schedule b) (length_schedule c) in
    ap₂ ◌++◌ (ap (λ (ks : List ℕ). des_under ks block) p.0 ∙ des_under_lem a block)
    (ap₂ ◌++◌ (ap (λ (ks : List ℕ). des_under ks block) p.1 ∙ des_under_lem b block)
    (ap (λ (ks : List ℕ). des_under ks block) p.2 ∙ des_under_lem c block))

pub length_three_under : (ks block : List ℕ) → length (three_under ks block) ≡ 24
unfolding three_under des_under
length_three_under ks block = refl

-- whatever the round keys are, the first block of the three tells what was encrypted
pub under_tells : (ks c d : List ℕ) → length c ≡ 8 → Octets c → length d ≡ 8 → Octets d
    → three_under ks c ≡ three_under ks d → c ≡ d
unfolding three_under des_under
under_tells ks c d n o m p e =
    let k = map unpack_key (part 0 16 ks) in
    sym (undone_block k c n o)
    ∙ ap (λ (b : List ℕ). to_be 8 (crypt (reverse k) (from_be (take 8 b)))) e
    ∙ undone_block k d m p

-- ---- the cipher function with a stored round key

module _ (r k w : ℕ) (h : r < 2 ^ 32) (e : w ≡ spread r) where
  -- a group of a stored number is that of its round key
  group : (i : ℕ) → get_or (sixes in_stored k) i 0 ≡ get_or (to_digits 6 8 (unpack_key k)) i 0
  group i = ap (λ (l : List ℕ). get_or l i 0) (sym (groups k))

  -- an exclusive or with the same six low bits
  same_low : (u v x : ℕ) → v % 64 ≡ x % 64 → bit_xor u v % 64 ≡ bit_xor u x % 64
  same_low u v x p = xor_mod u v 6 ∙ ap (bit_xor (u % 64)) p ∙ sym (xor_mod u x 6)

  -- what is looked up for S1 S3 S5, and for S2 S4 S6
  odd : (s x : ℕ) → k / 2 ^ (32 + s) % 64 ≡ x % 64 → bit_xor (w / 2 ^ 4) (k / 2 ^ 32) / 2 ^ s % 64 ≡ bit_xor (w / 2 ^ (4 + s)) x % 64
  odd s x p =
      ap (λ (v : ℕ). v % 64) (xor_shr (w / 2 ^ 4) (k / 2 ^ 32) s ∙ ap₂ bit_xor (shr-shr w 4 s) (shr-shr k 32 s))
      ∙ same_low (w / 2 ^ (4 + s)) (k / 2 ^ (32 + s)) x p

  even : (s x : ℕ) → k / 2 ^ s % 64 ≡ x % 64 → bit_xor w k / 2 ^ s % 64 ≡ bit_xor (w / 2 ^ s) x % 64
  even s x p = ap (λ (v : ℕ). v % 64) (xor_shr w k s) ∙ same_low (w / 2 ^ s) (k / 2 ^ s) x p

  pub stored_right : (s₁ s₂ s₃ s₄ s₅ s₆ s₇ s₈ : ℕ)
      → s₁ ≡ folded_at 0 (bit_xor (w / 2 ^ 4) (k / 2 ^ 32) / 2 ^ 24 % 64)
      → s₂ ≡ folded_at 1 (bit_xor w k / 2 ^ 24 % 64)
      → s₃ ≡ folded_at 2 (bit_xor (w / 2 ^ 4) (k / 2 ^ 32) / 2 ^ 16 % 64)
      → s₄ ≡ folded_at 3 (bit_xor w k / 2 ^ 16 % 64)
      → s₅ ≡ folded_at 4 (bit_xor (w / 2 ^ 4) (k / 2 ^ 32) / 2 ^ 8 % 64)
      → s₆ ≡ folded_at 5 (bit_xor w k / 2 ^ 8 % 64)
      → s₇ ≡ folded_at 6 (bit_xor (w / 2 ^ 4) (k / 2 ^ 32) % 64)
      → s₈ ≡ folded_at 7 (bit_xor w k % 64)
      → bit_xor (bit_xor (bit_xor (bit_xor (bit_xor (bit_xor (bit_xor s₁ s₂) s₃) s₄) s₅) s₆) s₇) s₈ ≡ cipher_f r (unpack_key k)
  stored_right s₁ s₂ s₃ s₄ s₅ s₆ s₇ s₈ e₁ e₂ e₃ e₄ e₅ e₆ e₇ e₈ =
      let u = unpack_key k in
      joined_right r u w h e s₁ s₂ s₃ s₄ s₅ s₆ s₇ s₈
      (e₁ ∙ ap (folded_at 0) (odd 24 (u / 2 ^ 42) (group 0)))
      (e₂ ∙ ap (folded_at 1) (even 24 (u / 2 ^ 36) (group 1)))
      (e₃ ∙ ap (folded_at 2) (odd 16 (u / 2 ^ 30) (group 2)))
      (e₄ ∙ ap (folded_at 3) (even 16 (u / 2 ^ 24) (group 3)))
      (e₅ ∙ ap (folded_at 4) (odd 8 (u / 2 ^ 18) (group 4)))
      (e₆ ∙ ap (folded_at 5) (even 8 (u / 2 ^ 12) (group 5)))
      (e₇ ∙ ap (folded_at 6) (same_low (w / 2 ^ 4) (k / 2 ^ 32) (u / 2 ^ 6) (group 6)))
      (e₈ ∙ ap (folded_at 7) (same_low w k u (ap (λ (v : ℕ). v % 64) (sym (div-one k)) ∙ group 7 ∙ ap (λ (v : ℕ). v % 64) (div-one u))))
