-- Laws of the run over blocks: a block and then the rest, a run over two parts, and the whole
-- padded message as its whole blocks and its tail.
-- Assumes nothing.
use mathlib.Core.Path.{◌≡◌, refl, sym, ap, ap₂, ◌∙◌}
use mathlib.Core.List.{List, ◌∷◌, ◌++◌}
use Prim.Native.Nat.{ℕ, zero, suc, ◌+◌, ◌-◌, ◌*◌, ◌/◌, ◌≤◌}
use native.Mathlib.Nat.{zero-add, suc-add, zero-mul}
use native.Mathlib.Omega.{arith}
use lib.ListN.{length, take, drop, replicate, length-drop, length-append, length-replicate}
use lib.Seq.{take-append-le, drop-append-le, drop-drop, take_at}
use Rattle.std.specs.List.{fold}
use Rattle.std.specs.Simd.{first_chunks}
use Rattle.blocks.specs.declared.Tail.{Tail}
use Rattle.blocks.specs.Blocks.{run_blocks, zeros, padded, hash_blocks, tail_length, tail_of}

module _ {S : Type 0} (f : List ℕ → S → S) where
  -- the blocks as a list of their own, one after the other
  pub run_chunks : (n : ℕ) (l : List ℕ) (s : S) → fold (λ s b. f b s) s (first_chunks 64 n l) ≡ run_blocks f n l s
  unfolding run_blocks
  run_chunks zero l s = refl
  run_chunks (suc n) l s = run_chunks n (drop 64 l) (f (take 64 l) s)

  -- q blocks of a message that something follows, and then j of what is left
  run_append : (q j : ℕ) (m t : List ℕ) (s : S) → q * 64 ≤ length m
      → run_blocks f (q + j) (m ++ t) s ≡ run_blocks f j (drop (q * 64) m ++ t) (run_blocks f q m s)
  unfolding run_blocks
  run_append zero j m t s h = ap₂ (λ (n k : ℕ). run_blocks f n (drop k m ++ t) s) (zero-add j) (sym (zero-mul 64))
  run_append (suc q) j m t s h =
      let k : suc q * 64 ≡ 64 + q * 64 = omega arith in
      let h₀ : 64 ≤ length m = omega arith in
      let h₁ : q * 64 ≤ length (drop 64 m) = omega (arith, length-drop 64 m) in
      ap (λ (n : ℕ). run_blocks f n (m ++ t) s) (suc-add q j)
      ∙ ap₂ (λ (x y : List ℕ). run_blocks f (q + j) x (f y s)) (drop-append-le 64 m t h₀) (take-append-le 64 m t h₀)
      ∙ run_append q j (drop 64 m) t (f (take 64 m) s) h₁
      ∙ ap (λ (x : List ℕ). run_blocks f j (x ++ t) (run_blocks f (suc q) m s)) (drop-drop (q * 64) 64 m ∙ ap (λ (n : ℕ). drop n m) (sym k))

-- e gives eight octets
module _ (e m : List ℕ) (eight : length e ≡ 8) where
  -- the octet 128, the zeros and the length
  abbrev padding : List ℕ
  padding = 128 ∷ (replicate (zeros (length m)) 0 ++ e)

  length_padding : length padding ≡ 9 + zeros (length m)
  length_padding = omega (arith, length-append (replicate (zeros (length m)) 0) e, length-replicate {A = ℕ} (zeros (length m)) 0)

  pub length_padded : length (padded e m) ≡ length m + 9 + zeros (length m)
  unfolding padded
  length_padded = length-append m padding ∙ omega (arith, length_padding)

  -- the tail has as many octets as tail_length says
  pub length_tail : length (drop (length m / 64 * 64) (padded e m)) ≡ tail_length (length m)
  unfolding tail_length
  length_tail = length-drop (length m / 64 * 64) (padded e m) ∙ omega (arith, length_padded)

  -- the message's whole blocks, and then the tail
  pub run_padded : {S : Type 0} (f : List ℕ → S → S) (s : S)
      → run_blocks f (tail_length (length m) / 64) (drop (length m / 64 * 64) (padded e m)) (run_blocks f (length m / 64) m s)
      ≡ run_blocks f (length (padded e m) / 64) (padded e m) s
  unfolding padded tail_length zeros
  run_padded f s =
      let n : ℕ = length m in
      let whole : n / 64 * 64 ≤ n = omega arith in
      let count : n / 64 + tail_length n / 64 ≡ length (padded e m) / 64 = omega (arith, length_padded) in
      ap (λ (t : List ℕ). run_blocks f (tail_length n / 64) t (run_blocks f (n / 64) m s)) (drop-append-le (n / 64 * 64) m padding whole)
      ∙ sym (run_append f (n / 64) (tail_length n / 64) m padding s whole)
      ∙ ap (λ (k : ℕ). run_blocks f k (padded e m) s) count

  -- of the buffer that holds the tail, the used octets are the tail
  pub tail_used : take (tail_of e m).used (tail_of e m).octets ≡ drop (length m / 64 * 64) (padded e m)
  unfolding tail_of
  tail_used = take_at (drop (length m / 64 * 64) (padded e m)) (replicate (128 - tail_length (length m)) 0) (tail_length (length m)) length_tail

  pub tail_fits : (tail_of e m).used ≤ 128
  unfolding tail_of tail_length zeros
  tail_fits = omega arith

-- how a hash goes about it: r are the registers after the message's whole blocks, q those after the
-- used octets of the tail t
pub hash_by_tail : {S : Type 0} (f : List ℕ → S → S) (len : ℕ → List ℕ) → ((x : ℕ) → length (len x) ≡ 8) → (s : S) (m : List ℕ) {r q : S} {t : Tail}
    → r ≡ run_blocks f (length m / 64) m s → t ≡ tail_of (len (length m * 8)) m
    → q ≡ run_blocks f (length (take t.used t.octets) / 64) (take t.used t.octets) r → q ≡ hash_blocks f len s m
unfolding hash_blocks
hash_by_tail {S} f len eight s m {r} {q} {t} er et eq =
    let e = len (length m * 8) in
    let e₈ = eight (length m * 8) in
    let tail = drop (length m / 64 * 64) (padded e m) in
    let used : take t.used t.octets ≡ tail = ap (λ (u : Tail). take u.used u.octets) et ∙ tail_used e m e₈ in
    eq
    ∙ ap₂ (λ (x : List ℕ) (y : S). run_blocks f (length x / 64) x y) used er
    ∙ ap (λ (k : ℕ). run_blocks f (k / 64) tail (run_blocks f (length m / 64) m s)) (length_tail e m e₈)
    ∙ run_padded e m e₈ f s
