-- The parity bits of a key have no effect on its round keys, and a key that goes without them and
-- back has the same round keys.
-- Assumes nothing.
use mathlib.Core.Path.{◌≡◌, refl, sym, ap, ap₂, ◌∙◌, subst}
use mathlib.Core.List.{List, [], ◌∷◌, map}
use Prim.Native.Nat.{ℕ, zero, suc, ◌+◌, ◌*◌, ◌/◌, ◌%◌, ◌^◌, ◌<◌}
use native.Mathlib.Nat.{mod-eq_of_lt}
use native.Mathlib.Omega.{arith}
use lib.Arith.{digits_lt}
use lib.Dec.{lit<}
use lib.ListN.{length, length-map, get_or-map}
use lib.Bits.{bit_and, and_block, and_high}
use Rattle.octets.specs.Numbers.{from_digits, to_digits, from_be, to_be}
use Rattle.octets.proofs.Numbers.{Below, Octets, one_more, digits_below, to_from, from_be-lt}
use Rattle.octets.proofs.Numbers.{from_be-to_be}
use Rattle.des.specs.Tables.{pc1, shifts}
use Rattle.des.specs.Des.{permute, keys_from, round_keys, half, double, expand_key, drop_parity}
use Rattle.des.proofs.Linear.{agree, lin_after, lin_mask, lin_id}
use Rattle.des.proofs.Permute.{lin_permute}
use Rattle.des.proofs.Sizes.{length_expand, octets_expand}

-- ---- keys of 64 bits

-- the mask that keeps all but the parity bits
abbrev kept : ℕ
kept = 0xFEFE_FEFE_FEFE_FEFE

-- PC-1 names no parity bit
unnamed : (k : ℕ) → k < 2 ^ 64 → permute 64 pc1 k ≡ permute 64 pc1 (bit_and k kept)
unfolding pc1
unnamed =
    agree (permute 64 pc1) (λ k. permute 64 pc1 (bit_and k kept)) (lin_permute 64 pc1) (lin_after (lin_permute 64 pc1) (lin_mask kept lin_id)) 64 tt

pub parity_free : (k : ℕ) → k < 2 ^ 64 → round_keys k ≡ round_keys (bit_and k 0xFEFE_FEFE_FEFE_FEFE)
unfolding round_keys
parity_free k h = ap (λ (v : ℕ). keys_from shifts (v / 2 ^ 28) (v % 2 ^ 28)) (unnamed k h)

-- ---- keys of eight octets

-- the mask for n octets
abbrev mask : ℕ → ℕ
mask zero = 0
mask (suc n) = 0xFE * 2 ^ (8 * n) + mask n

mask_lt : (n : ℕ) → mask n < 2 ^ (8 * n)
mask_lt zero = lit< tt
mask_lt (suc n) = subst (λ (p : ℕ). mask (suc n) < p) (one_more 8 n) (digits_lt (lit< tt) (mask_lt n))

even : (b : ℕ) → b < 256 → bit_and b 0xFE ≡ b / 2 * 2
even b h = and_high b 7 1 ∙ omega arith

-- the mask clears the last bit of each octet
masked : (l : List ℕ) → Octets l → bit_and (from_be l) (mask (length l)) ≡ from_be (map double (map half l))
masked [] o = refl
masked (b ∷ l) o =
    let n = length l in
    and_block (8 * n) b 0xFE (from_be l) (mask n) (from_be-lt l (λ i. o (suc i))) (mask_lt n)
    ∙ ap₂ (λ (u v : ℕ). u * 2 ^ (8 * n) + v) (even b (o 0)) (masked l (λ i. o (suc i)))
    ∙ ap (λ (k : ℕ). b / 2 * 2 * 2 ^ (8 * k) + from_be (map double (map half l))) (sym (length-map (map half l) double ∙ length-map l half))

cleared : (l : List ℕ) → length l ≡ 8 → Octets l → round_keys (from_be l) ≡ round_keys (from_be (map double (map half l)))
cleared l n o =
    parity_free (from_be l) (subst (λ (k : ℕ). from_be l < 2 ^ (8 * k)) n (from_be-lt l o))
    ∙ ap round_keys (subst (λ (k : ℕ). bit_and (from_be l) (mask k) ≡ from_be (map double (map half l))) n (masked l o))

-- keys that agree but for parity have the same round keys
pub parity_free_octets : (a b : List ℕ) → length a ≡ 8 → length b ≡ 8 → Octets a → Octets b → map half a ≡ map half b
    → round_keys (from_be a) ≡ round_keys (from_be b)
parity_free_octets a b na nb oa ob e =
    cleared a na oa ∙ ap (λ (l : List ℕ). round_keys (from_be (map double l))) e ∙ sym (cleared b nb ob)

-- ---- groups of seven bits

halves_of_doubles : (l : List ℕ) → map half (map double l) ≡ l
halves_of_doubles [] = refl
halves_of_doubles (s ∷ l) = ap₂ (λ (v : ℕ) (m : List ℕ). v ∷ m) (omega arith) (halves_of_doubles l)

-- a key of eight octets that goes to seven and back keeps all but its parity bits
pub halves_kept : (k : List ℕ) → length k ≡ 8 → Octets k → map half (expand_key (drop_parity k)) ≡ map half k
unfolding expand_key drop_parity
halves_kept k n o =
    let hs = map half k in
    let x = from_digits 7 hs in
    let eight-of : length hs ≡ 8 = length-map k half ∙ n in
    let small : Below 128 hs = λ i. subst (λ (v : ℕ). v < 128) (sym (get_or-map half k i 0)) (omega (arith, o i)) in
    let below : x < 2 ^ 56 = subst (λ (m : ℕ). x < 2 ^ (7 * m)) eight-of (digits_below 7 hs small) in
    halves_of_doubles (to_digits 7 8 (from_be (to_be 7 x)))
    ∙ ap (to_digits 7 8) (from_be-to_be 7 x ∙ mod-eq_of_lt below)
    ∙ subst (λ (m : ℕ). to_digits 7 m x ≡ hs) eight-of (to_from 7 hs small)

-- and so its round keys
pub restored : (k : List ℕ) → length k ≡ 8 → Octets k → round_keys (from_be (expand_key (drop_parity k))) ≡ round_keys (from_be k)
restored k n o =
    parity_free_octets (expand_key (drop_parity k)) k (length_expand (drop_parity k)) n (octets_expand (drop_parity k)) o (halves_kept k n o)
