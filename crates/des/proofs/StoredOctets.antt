-- Stored round keys in octets: each number by itself.
-- Assumes nothing.
use mathlib.Core.Path.{◌≡◌, refl, sym, ap, ap₂, ◌∙◌}
use mathlib.Core.List.{List, [], ◌∷◌, map}
use Prim.Native.Nat.{ℕ, zero, suc, ◌+◌, ◌*◌, ◌≤◌, ◌<◌}
use native.Mathlib.Omega.{arith}
use lib.ListN.{length, take, drop, get_or, replicate}
use native.Mathlib.Nat.{zero-add}
use Rattle.std.proofs.lemmas.List.{drop-take}
use lib.Seq.{drop-cons, drop-drop, take-take, take_all}
use Rattle.octets.specs.Parts.{part}
use Rattle.octets.specs.Numbers.{from_le}
use Rattle.des.specs.Inner.{kept_keys}
use Rattle.des.specs.Stored.{unpack_key, decode_keys}

-- ---- octets, written out

-- n of them from the place at + j on
abbrev pub listed_from : List ℕ → ℕ → ℕ → ℕ → List ℕ
listed_from l at j zero = []
listed_from l at j (suc n) = get_or l (at + j) 0 ∷ listed_from l at (suc j) n

pub part_from_lem : (n j at : ℕ) (l : List ℕ) → at + j + n ≤ length l
    → part (at + j) n l ≡ listed_from l at j n
part_from_lem zero j at l h = refl
part_from_lem (suc n) j at l h =
    let place : suc (at + j) ≡ at + suc j = omega arith in
    ap (take (suc n)) (drop-cons l (at + j) 0 (omega arith))
    ∙ ap (λ (k : ℕ). get_or l (at + j) 0 ∷ part k n l) place
    ∙ ap (λ (t : List ℕ). get_or l (at + j) 0 ∷ t) (part_from_lem n (suc j) at l (omega arith))

-- ---- numbers decoded

pub length_decoded : (n : ℕ) (b : List ℕ) → length (decode_keys n b) ≡ n
unfolding decode_keys
length_decoded zero b = refl
length_decoded (suc n) b = ap suc (length_decoded n (drop 8 b))

pub decoded_at : (n i : ℕ) (b : List ℕ) → i < n
    → get_or (decode_keys n b) i 0 ≡ from_le (part (8 * i) 8 b)
unfolding decode_keys
decoded_at zero i b h = absurd (omega arith)
decoded_at (suc n) zero b h = refl
decoded_at (suc n) (suc i) b h =
    let place : 8 + 8 * i ≡ 8 * suc i = omega arith in
    decoded_at n i (drop 8 b) (omega arith)
    ∙ ap (λ (l : List ℕ). from_le (take 8 l)) (drop-drop (8 * i) 8 b
    ∙ ap (λ (k : ℕ). drop k b) place)

-- the first m numbers, and those behind them
pub take_decoded : (m n : ℕ) (b : List ℕ) → take m (decode_keys (m + n) b) ≡ decode_keys m (take (8 * m) b)
unfolding decode_keys
take_decoded zero n b = refl
take_decoded (suc m) n b =
    let more : suc m + n ≡ suc (m + n) = omega arith in
    let size : 8 * suc m ≡ 8 + 8 * m = omega arith in
    ap (λ (k : ℕ). take (suc m) (decode_keys k b)) more
    ∙ ap₂ (λ (l : List ℕ) (t : List ℕ). from_le l ∷ t) (sym (take-take 8 (8 + 8 * m) b (omega arith)))
    (take_decoded m n (drop 8 b) ∙ ap (decode_keys m) (sym (drop-take 8 (8 * m) b)))
    ∙ ap (λ (k : ℕ). decode_keys (suc m) (take k b)) (sym size)

pub drop_decoded : (m n : ℕ) (b : List ℕ) → drop m (decode_keys (m + n) b) ≡ decode_keys n (drop (8 * m) b)
unfolding decode_keys
drop_decoded zero n b = ap (λ (k : ℕ). decode_keys k b) (zero-add n)
drop_decoded (suc m) n b =
    let more : suc m + n ≡ suc (m + n) = omega arith in
    let size : 8 + 8 * m ≡ 8 * suc m = omega arith in
    ap (λ (k : ℕ). drop (suc m) (decode_keys k b)) more
    ∙ drop_decoded m n (drop 8 b)
    ∙ ap (decode_keys n) (drop-drop (8 * m) 8 b ∙ ap (λ (k : ℕ). drop k b) size)

-- octets 0 are numbers 0
pub decoded_zeros : decode_keys 48 (replicate 384 0) ≡ replicate 48 0
unfolding decode_keys
decoded_zeros = refl

-- ---- a schedule of the three

pub kept_parts : (b first rest second third : List ℕ) → first ≡ take 128 b → rest ≡ drop 128 b
    → second ≡ take 128 rest → third ≡ drop 128 rest → length b ≡ 384
    → (kept_keys first ≡ map unpack_key (part 0 16 (decode_keys 48 b)))
    × (kept_keys second ≡ map unpack_key (part 16 16 (decode_keys 48 b)))
    × (kept_keys third ≡ map unpack_key (part 32 16 (decode_keys 48 b)))
kept_parts b first rest second third e₁ e₂ e₃ e₄ n =
    let ks = decode_keys 48 b in
    let later : drop 16 ks ≡ decode_keys 32 rest = drop_decoded 16 32 b ∙ ap (decode_keys 32) (sym e₂) in
    let last : drop 32 ks ≡ decode_keys 16 third =
    sym (drop-drop 16 16 ks) ∙ ap (drop 16) later ∙ drop_decoded 16 16 rest ∙ ap (decode_keys 16) (sym e₄) in (
      ap (map unpack_key) (ap (decode_keys 16) e₁ ∙ sym (take_decoded 16 32 b)),
      ap (map unpack_key) (ap (decode_keys 16) e₃ ∙ sym (take_decoded 16 16 rest) ∙ ap (take 16) (sym later)),
      ap (map unpack_key) (sym (take_all 16 (decode_keys 16 third) (omega (arith, length_decoded 16 third))) ∙ ap (take 16) (sym last)),
    )
