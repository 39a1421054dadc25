-- The lengths of what DES gives, for all lists, and that it gives octets.
-- Assumes nothing.
use mathlib.Core.Path.{◌≡◌, refl, subst}
use mathlib.Core.List.{List, map}
use Prim.Native.Nat.{ℕ, zero, suc, ◌*◌, ◌/◌, ◌^◌}
use native.Mathlib.Nat.{mod-lt, zero-lt-suc}
use native.Mathlib.Omega.{arith}
use lib.Dec.{lit<}
use lib.ListN.{length}
use Rattle.octets.specs.Numbers.{to_digits, from_be, to_be}
use Rattle.octets.proofs.Numbers.{Octets, to_be-from_be}
use Rattle.des.specs.Des.{double, expand_key, des_encrypt, des_three}

-- ---- lengths

pub length_encrypt : (key block : List ℕ) → length (des_encrypt key block) ≡ 8
unfolding des_encrypt
length_encrypt key block = refl

pub length_three : (keys block : List ℕ) → length (des_three keys block) ≡ 24
unfolding des_three des_encrypt
length_three keys block = refl

pub length_expand : (key : List ℕ) → length (expand_key key) ≡ 8
unfolding expand_key
length_expand key = refl

-- ---- octets

pub octets_double : (n x : ℕ) → Octets (map double (to_digits 7 n x))
octets_double zero x i = lit< tt
octets_double (suc n) x zero = omega (arith, mod-lt (x / 2 ^ (7 * n)) (zero-lt-suc 127))
octets_double (suc n) x (suc i) = octets_double n x i

pub octets_expand : (key : List ℕ) → Octets (expand_key key)
unfolding expand_key
octets_expand key = octets_double 8 (from_be key)

-- their number written again
pub expand_written : (key : List ℕ) → to_be 8 (from_be (expand_key key)) ≡ expand_key key
expand_written key =
    subst (λ (k : ℕ). to_be k (from_be (expand_key key)) ≡ expand_key key) (length_expand key) (to_be-from_be (expand_key key) (octets_expand key))
