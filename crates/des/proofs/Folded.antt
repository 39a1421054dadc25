-- P folded into the selection functions: what stands in the table, and that the entries of all
-- groups, joined by exclusive or, are P of what the selection functions give.
-- Assumes nothing.
use mathlib.Core.Path.{◌≡◌, sym, ap, ◌∙◌}
use mathlib.Core.Bool.{Bool, true, ◌&&◌}
use mathlib.Core.List.{List, [], ◌∷◌}
use Prim.Native.Nat.{ℕ, zero, suc, ◌+◌, ◌*◌, ◌/◌, ◌%◌, ◌^◌, ◌<◌}
use native.Mathlib.Nat.{mul-one, mul_assoc, zero-mul}
use native.Mathlib.Omega.{arith}
use lib.Dec.{T, ltb, ltb→lt, lit<}
use lib.ListN.{length, get_or}
use lib.Bits.{bit_xor, xor_shifted}
use Rattle.octets.proofs.Bitwise.{both_left, both_right}
use Rattle.octets.proofs.Numbers.{one_more}
use Rattle.des.specs.Tables.{permutation, boxes}
use Rattle.des.specs.Des.{permute, select, substitute}
use Rattle.des.specs.Inner.{folded_at, folded_table}
use Rattle.des.proofs.Linear.{at_zero, lin_id, lin_after, lin_shl}
use Rattle.des.proofs.Permute.{lin_permute}
use Rattle.des.proofs.Entries.{entry_at}

-- ---- the table

-- the entry of the selection function i for the six bits b
pub entry_of : (i b : ℕ) → i < 8 → b < 64 → get_or folded_table (i * 64 + b) 0 ≡ folded_at i b
unfolding folded_table
entry_of i b hi hb = entry_at folded_at 64 512 i b hb (omega arith)

-- ---- the joined entries

abbrev P : ℕ → ℕ
P = permute 32 permutation

-- joined to a, the entries of each selection function at its six bits of x
abbrev pub folded_from : ℕ → List (List ℕ) → ℕ → ℕ
folded_from a [] x = a
folded_from a (s ∷ ss) x = folded_from (bit_xor a (P (select s (x / 2 ^ (6 * length ss) % 64) * 2 ^ (4 * length ss)))) ss x

-- each number of a list has at most four bits
abbrev four_bits : List ℕ → Bool
four_bits [] = true
four_bits (v ∷ s) = ltb v 16 && four_bits s

-- so have all that the selection functions give
abbrev all_four : List (List ℕ) → Bool
all_four [] = true
all_four (s ∷ ss) = four_bits s && all_four ss

four_bits_lem : (s : List ℕ) → T (four_bits s) → (i : ℕ) → get_or s i 0 < 16
four_bits_lem [] t i = lit< tt
four_bits_lem (v ∷ s) t zero = ltb→lt v 16 (both_left (ltb v 16) (four_bits s) t)
four_bits_lem (v ∷ s) t (suc i) = four_bits_lem s (both_right (ltb v 16) (four_bits s) t) i

-- four bits v after the bits acc, with n groups of four to come
one_group : (acc v n : ℕ) → v < 16 → P ((acc * 16 + v) * 2 ^ (4 * n)) ≡ bit_xor (P (acc * 2 ^ (4 * suc n))) (P (v * 2 ^ (4 * n)))
one_group acc v n h =
    ap (λ (y : ℕ). P (y * 2 ^ (4 * n))) (sym (xor_shifted acc 4 v h))
    ∙ (lin_after (lin_permute 32 permutation) (lin_shl (4 * n) lin_id)).law (acc * 16) v
    ∙ ap (λ (y : ℕ). bit_xor (P y) (P (v * 2 ^ (4 * n)))) (mul_assoc acc 16 (2 ^ (4 * n)) ∙ ap (λ (y : ℕ). acc * y) (one_more 4 n))

folds : (ss : List (List ℕ)) → T (all_four ss) → (acc x : ℕ) → folded_from (P (acc * 2 ^ (4 * length ss))) ss x ≡ P (substitute acc ss x)
folds [] t acc x = ap P (mul-one acc)
folds (s ∷ ss) t acc x =
    let n = length ss in
    let v = select s (x / 2 ^ (6 * n) % 64) in
    ap (λ (a : ℕ). folded_from a ss x) (sym (one_group acc v n (four_bits_lem s (both_left (four_bits s) (all_four ss) t) _)))
    ∙ folds ss (both_right (four_bits s) (all_four ss) t) (acc * 16 + v) x

pub folded : (x : ℕ) → folded_from 0 boxes x ≡ P (substitute 0 boxes x)
unfolding boxes
folded x =
    ap (λ (a : ℕ). folded_from a boxes x) (sym (ap P (zero-mul (2 ^ (4 * length boxes))) ∙ at_zero (lin_permute 32 permutation)))
    ∙ folds boxes tt 0 x
