-- A round key as it is stored: it stands for the round key that it was made of, and what makes it is
-- linear.
-- Assumes nothing.
use mathlib.Core.Path.{◌≡◌, refl, ap, ◌∙◌, subst}
use mathlib.Core.List.{List, [], ◌∷◌, map}
use Prim.Native.Nat.{ℕ, zero, suc, ◌+◌, ◌*◌, ◌/◌, ◌%◌, ◌^◌, ◌<◌}
use native.Mathlib.Nat.{mod-lt, mod-eq_of_lt}
use native.Mathlib.Omega.{arith}
use lib.Dec.{lit<}
use lib.ListN.{length, get_or}
use lib.Pow.{mod-mod-pow}
use Rattle.octets.specs.Numbers.{from_digits, to_digits, from_be}
use Rattle.octets.proofs.Numbers.{Below, from_to, to_from, from_be-lt}
use Rattle.des.specs.Stored.{six, pack_key, unpack_key}
use Rattle.des.proofs.Linear.{Linear, lin_id, lin_same, lin_shr, lin_mod, lin_digits}

-- the groups of six bits of k at some places
abbrev pub sixes : List ℕ → ℕ → List ℕ
sixes [] k = []
sixes (s ∷ ps) k = six s k ∷ sixes ps k

six_below : (ps : List ℕ) (k : ℕ) → Below 64 (sixes ps k)
six_below [] k i = lit< tt
six_below (s ∷ ps) k zero = mod-lt (k / 2 ^ s) (lit< tt)
six_below (s ∷ ps) k (suc i) = six_below ps k i

-- the places of the groups in a round key, in the order in which they are stored
abbrev in_key : List ℕ
in_key = 42 ∷ 30 ∷ 18 ∷ 6 ∷ 36 ∷ 24 ∷ 12 ∷ 0 ∷ []

-- and in a stored number, in the order of the round key
abbrev pub in_stored : List ℕ
in_stored = 56 ∷ 24 ∷ 48 ∷ 16 ∷ 40 ∷ 8 ∷ 32 ∷ 0 ∷ []

-- the groups of the round key that a stored number stands for
pub groups : (k : ℕ) → to_digits 6 8 (unpack_key k) ≡ sixes in_stored k
unfolding unpack_key
groups k = to_from 6 (sixes in_stored k) (six_below in_stored k)

low_six : (n : ℕ) → n % 256 % 64 ≡ n % 64
low_six n = mod-mod-pow n 2 6

same_six : (n : ℕ) → n % 64 % 64 ≡ n % 64
same_six n = mod-mod-pow n 0 6

-- the round key that eight octets stand for
abbrev of_octets : List ℕ → ℕ
of_octets l = from_digits 6 (map (λ (i : ℕ). get_or l i 0 % 64) (0 ∷ 4 ∷ 1 ∷ 5 ∷ 2 ∷ 6 ∷ 3 ∷ 7 ∷ []))

unpack_octets : (k : ℕ) → unpack_key k ≡ of_octets (to_digits 8 8 k)
unfolding unpack_key
unpack_octets k = simp low_six

unpack_packed : (k : ℕ) → of_octets (sixes in_key k) ≡ from_digits 6 (to_digits 6 8 k)
unpack_packed k = simp same_six

pub unpack_pack : (k : ℕ) → k < 2 ^ 48 → unpack_key (pack_key k) ≡ k
unfolding pack_key
unpack_pack k h =
    unpack_octets (pack_key k)
    ∙ ap of_octets (to_from 8 (sixes in_key k) (λ (i : ℕ). omega (arith, six_below in_key k i)))
    ∙ unpack_packed k
    ∙ from_to 6 8 k
    ∙ mod-eq_of_lt h

-- ---- linear

length_sixes : (ps : List ℕ) (k : ℕ) → length (sixes ps k) ≡ length ps
length_sixes [] k = refl
length_sixes (s ∷ ps) k = ap suc (length_sixes ps k)

small : (ps : List ℕ) (k : ℕ) → from_be (sixes ps k) < 2 ^ (8 * length ps)
small ps k =
    subst (λ (n : ℕ). from_be (sixes ps k) < 2 ^ (8 * n)) (length_sixes ps k)
    (from_be-lt (sixes ps k) (λ (i : ℕ). omega (arith, six_below ps k i)))

lin_sixes : (ps : List ℕ) → Linear (λ k. from_be (sixes ps k))
lin_sixes [] = record { law = λ a b. refl }
lin_sixes (s ∷ ps) =
    lin_same (λ k. ap (λ (n : ℕ). six s k * 2 ^ (8 * n) + from_be (sixes ps k)) (length_sixes ps k))
    (lin_digits (8 * length ps) (lin_mod 6 (lin_shr s lin_id)) (lin_sixes ps) (small ps))

pub lin_pack : Linear pack_key
unfolding pack_key
lin_pack = lin_sixes in_key
