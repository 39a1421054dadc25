-- Stored round keys in octets: as many as they take, and decoded as they were encoded.
-- Assumes nothing.
use mathlib.Core.Path.{◌≡◌, refl, sym, ap, ap₂, ◌∙◌}
use mathlib.Core.List.{List, [], ◌∷◌, ◌++◌, map, append_assoc}
use Prim.Native.Nat.{ℕ, zero, suc, ◌+◌, ◌*◌, ◌^◌, ◌≤◌, ◌<◌}
use native.Mathlib.Nat.{mod-eq_of_lt}
use native.Mathlib.Omega.{arith}
use borrow.Author.Tests.{eq-eqb}
use lib.Dec.{lit<}
use lib.ListN.{length, take, get_or, replicate, length-append}
use lib.Seq.{take-suc, length-take-le, take_at, drop_at}
use mathlib.Core.Bool.{Bool, cond}
use Rattle.std.specs.List.{flat_map}
use Rattle.octets.specs.Numbers.{to_le, from_le}
use Rattle.octets.proofs.Numbers.{Below, length-to_le, from_le-to_le}
use Rattle.des.specs.Stored.{stored_size, decode_keys, keys_in}
use Rattle.credentials.specs.Credentials.{schedules_size, encode_keys}

-- ---- numbers encoded

pub length_encoded : (ks : List ℕ) → length (encode_keys ks) ≡ 8 * length ks
unfolding encode_keys
length_encoded [] = refl
length_encoded (k ∷ ks) =
    length-append (to_le 8 k) (encode_keys ks)
    ∙ ap₂ (λ (m n : ℕ). m + n) (length-to_le 8 k) (length_encoded ks) ∙ omega arith

pub encoded_join : (xs ys : List ℕ) → encode_keys (xs ++ ys) ≡ encode_keys xs ++ encode_keys ys
unfolding encode_keys
encoded_join [] ys = refl
encoded_join (k ∷ ks) ys =
    ap (λ (l : List ℕ). to_le 8 k ++ l) (encoded_join ks ys)
    ∙ sym (append_assoc (to_le 8 k) (encode_keys ks) (encode_keys ys))

-- one more
pub encoded_more : (i : ℕ) (ks : List ℕ) → i < length ks
    → encode_keys (take (suc i) ks) ≡ encode_keys (take i ks) ++ to_le 8 (get_or ks i 0)
unfolding encode_keys
encoded_more i ks h =
    ap encode_keys (take-suc ks i 0 h) ∙ encoded_join (take i ks) (get_or ks i 0 ∷ [])

pub length_encoded_front : (i : ℕ) (ks : List ℕ) → i ≤ length ks
    → length (encode_keys (take i ks)) ≡ 8 * i
length_encoded_front i ks h =
    length_encoded (take i ks) ∙ ap (λ (n : ℕ). 8 * n) (length-take-le i ks h)

pub encoded_flat : (ks : List ℕ) → flat_map (λ x. x) (map (to_le 8) ks) ≡ encode_keys ks
unfolding encode_keys
encoded_flat [] = refl
encoded_flat (k ∷ ks) = ap (λ (l : List ℕ). to_le 8 k ++ l) (encoded_flat ks)

-- ---- decoded

-- what was encoded is decoded, where the numbers fit in 64 bits
pub keys_back : (ks : List ℕ) → Below (2 ^ 64) ks → decode_keys (length ks) (encode_keys ks) ≡ ks
unfolding encode_keys decode_keys
keys_back [] h = refl
keys_back (k ∷ ks) h =
    ap₂ (λ (n : ℕ) (l : List ℕ). n ∷ decode_keys (length ks) l)
    (ap from_le (take_at (to_le 8 k) (encode_keys ks) 8 (length-to_le 8 k))
    ∙ from_le-to_le 8 k ∙ mod-eq_of_lt (h 0))
    (drop_at (to_le 8 k) (encode_keys ks) 8 (length-to_le 8 k))
    ∙ ap (λ (l : List ℕ). k ∷ l) (keys_back ks (λ i. h (suc i)))

-- all of a hash's
pub keys_in_back : (ks : List ℕ) → length ks ≡ schedules_size → Below (2 ^ 64) ks
    → keys_in (encode_keys ks) ≡ ks
keys_in_back ks n h =
    ap (λ (t : Bool). cond t (decode_keys 48 (encode_keys ks)) (replicate 48 0))
    (eq-eqb (length (encode_keys ks)) stored_size (length_encoded ks ∙ ap (λ (k : ℕ). 8 * k) n))
    ∙ ap (λ (k : ℕ). decode_keys k (encode_keys ks)) (sym n) ∙ keys_back ks h

-- each number of a list is small, where those up to its end are
pub below_all : (m n : ℕ) (l : List ℕ) → 0 < m → length l ≡ n → ((i : ℕ) → i < n → get_or l i 0 < m) → Below m l
below_all m n [] z e h i = z
below_all m n (x ∷ l) z e h zero = h 0 (omega (arith, e))
below_all m n (x ∷ l) z e h (suc i) = below_all m (length l) l z refl (λ j k. h (suc j) (omega (arith, e, k))) i

-- one more number that fits
pub below_more : (i : ℕ) (ks : List ℕ) → i < length ks → Below (2 ^ 64) (take i ks)
    → get_or ks i 0 < 2 ^ 64 → Below (2 ^ 64) (take (suc i) ks)
below_more zero [] h g f j = g j
below_more zero (k ∷ ks) h g f zero = f
below_more zero (k ∷ ks) h g f (suc j) = lit< tt
below_more (suc i) [] h g f j = g j
below_more (suc i) (k ∷ ks) h g f zero = g 0
below_more (suc i) (k ∷ ks) h g f (suc j) =
    below_more i ks (omega arith) (λ n. g (suc n)) f j
