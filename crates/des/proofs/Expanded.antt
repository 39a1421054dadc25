-- The 56 bits of a key, set apart in groups of 28, of 14 and of 7, are the key in the top seven bits
-- of eight octets.
-- Assumes nothing.
use mathlib.Core.Path.{◌≡◌, refl, ap, ◌∙◌, subst}
use mathlib.Core.List.{List, map}
use Prim.Native.Nat.{ℕ, zero, suc, ◌+◌, ◌*◌, ◌/◌, ◌%◌, ◌^◌, ◌<◌}
use lib.ListN.{length, length-map}
use Rattle.octets.specs.Numbers.{to_digits, from_be}
use Rattle.octets.proofs.Numbers.{length_digits, from_be-lt}
use Rattle.des.specs.Des.{double}
use Rattle.des.specs.Inner.{set_apart}
use Rattle.des.proofs.Linear.{Linear, agree, lin_id, lin_same, lin_xor, lin_shr, lin_mod, lin_shl}
use Rattle.des.proofs.Linear.{lin_mask, lin_digits}
use Rattle.des.proofs.Sizes.{octets_double}

lin_apart : (n m l : ℕ) {g : ℕ → ℕ} → Linear g → Linear (λ x. set_apart n m l (g x))
unfolding set_apart
lin_apart n m l lg = lin_xor (lin_mod 64 (lin_shl n (lin_mask m lg))) (lin_mask l lg)

-- n times seven bits, each in the top of an octet
abbrev pub in_octets : ℕ → ℕ → List ℕ
in_octets n x = map double (to_digits 7 n x)

length_octets : (n x : ℕ) → length (in_octets n x) ≡ n
length_octets n x = length-map (to_digits 7 n x) double ∙ length_digits 7 n x

small : (n x : ℕ) → from_be (in_octets n x) < 2 ^ (8 * n)
small n x = subst (λ (k : ℕ). from_be (in_octets n x) < 2 ^ (8 * k)) (length_octets n x) (from_be-lt (in_octets n x) (octets_double n x))

-- one more seven bits before them
next_octet : (n x : ℕ) → from_be (in_octets (suc n) x) ≡ x / 2 ^ (7 * n) % 2 ^ 7 * 2 ^ 1 * 2 ^ (8 * n) + from_be (in_octets n x)
next_octet n x = ap (λ (k : ℕ). x / 2 ^ (7 * n) % 2 ^ 7 * 2 * 2 ^ (8 * k) + from_be (in_octets n x)) (length_octets n x)

lin_octets : (n : ℕ) → Linear (λ x. from_be (in_octets n x))
lin_octets zero = record { law = λ a b. refl }
lin_octets (suc n) =
    lin_same (next_octet n) (lin_digits (8 * n) (lin_shl 1 (lin_mod 7 (lin_shr (7 * n) lin_id))) (lin_octets n) (small n))

-- the bits set apart in groups of 28, of 14 and of 7, and moved one place up
abbrev apart : ℕ → ℕ
apart x =
    set_apart 1 0x3F80_3F80_3F80_3F80 0x007F_007F_007F_007F
    (set_apart 2 0x0FFF_C000_0FFF_C000 0x0000_3FFF_0000_3FFF (set_apart 4 0x00FF_FFFF_F000_0000 0x0000_0000_0FFF_FFFF x))
    * 2 ^ 1 % 2 ^ 64

pub expanded : (x : ℕ) → x < 2 ^ 64 → apart x ≡ from_be (in_octets 8 x)
unfolding set_apart
expanded =
    agree apart (λ x. from_be (in_octets 8 x)) (lin_mod 64 (lin_shl 1 (lin_apart 1 _ _ (lin_apart 2 _ _ (lin_apart 4 _ _ lin_id))))) (lin_octets 8) 64 tt
