-- The buffer of the last blocks: a copy of the message's end, the octet 128, and the length in its
-- place.
-- Assumes nothing.
use mathlib.Core.Path.{◌≡◌, sym, ap, ap₂, ◌∙◌, subst}
use mathlib.Core.List.{List, ◌∷◌, ◌++◌, append_assoc}
use Prim.Native.Nat.{ℕ, suc, ◌+◌, ◌-◌, ◌*◌, ◌/◌, ◌%◌, ◌≤◌}
use native.Mathlib.Omega.{arith}
use lib.ListN.{length, take, drop, set, replicate, length-append, length-drop, length-replicate}
use lib.ListN.{replicate-append-replicate}
use lib.Seq.{set-append_seam, take_all, drop-append-le}
use Rattle.octets.specs.Parts.{over}
use Rattle.octets.proofs.Parts.{over_fits, over_lent, drop_replicate}
use Rattle.blocks.specs.Blocks.{zeros, padded, tail_length, tail_of}

-- s is the message's end, z the number of zeros between the octet 128 and the length
module _ (s e : List ℕ) (z : ℕ) (eight : length e ≡ 8) (fits : length s + 9 + z ≤ 128) where
  abbrev used : ℕ
  used = length s + 9 + z

  abbrev front : List ℕ
  front = s ++ (128 ∷ replicate z 0)

  front_length : length front ≡ used - 8
  front_length = length-append s (128 ∷ replicate z 0) ∙ omega (arith, length-replicate {A = ℕ} z 0)

  copied : over s (replicate 128 0) ≡ s ++ (0 ∷ (replicate z 0 ++ replicate (8 + (128 - used)) 0))
  copied =
      let n : 128 ≡ length s + suc (z + (8 + (128 - used))) = omega arith in
      over_fits s (replicate 128 0) (omega arith)
      ∙ ap (λ (i : ℕ). s ++ drop (length s) (replicate i 0)) n
      ∙ ap (λ (x : List ℕ). s ++ x) (drop_replicate (length s) (suc (z + (8 + (128 - used)))) ∙ ap (λ (x : List ℕ). 0 ∷ x) (sym (replicate-append-replicate z (8 + (128 - used)) 0)))

  marked : set (over s (replicate 128 0)) (length s) 128 ≡ front ++ replicate (8 + (128 - used)) 0
  marked =
      ap (λ (x : List ℕ). set x (length s) 128) copied
      ∙ set-append_seam s 0 (replicate z 0 ++ replicate (8 + (128 - used)) 0) 128
      ∙ sym (append_assoc s (128 ∷ replicate z 0) (replicate (8 + (128 - used)) 0))

  -- the whole buffer
  filled : {t₁ t₂ t₃ : List ℕ} → t₁ ≡ over s (replicate 128 0) → t₂ ≡ set t₁ (length s) 128
      → t₃ ≡ over e (take (128 - (used - 8)) (drop (used - 8) t₂))
      → take (used - 8) t₂ ++ (t₃ ++ drop (128 - (used - 8)) (drop (used - 8) t₂)) ≡ (s ++ (128 ∷ (replicate z 0 ++ e))) ++ replicate (128 - used) 0
  filled {t₁} {t₂} {t₃} e₁ e₂ e₃ =
      let k : ℕ = 128 - (used - 8) in
      let q : List ℕ = replicate (8 + (128 - used)) 0 in
      let e₂₁ : t₂ ≡ front ++ q = e₂ ∙ ap (λ (x : List ℕ). set x (length s) 128) e₁ ∙ marked in
      ap₂ (λ (x y : List ℕ). take (used - 8) x ++ (y ++ drop k (drop (used - 8) x))) e₂₁ (e₃ ∙ ap (λ (x : List ℕ). over e (take k (drop (used - 8) x))) e₂₁)
      ∙ over_lent front q e (used - 8) k front_length (omega arith) (omega (arith, length-replicate {A = ℕ} (8 + (128 - used)) 0))
      ∙ ap (λ (x : List ℕ). front ++ (e ++ x)) (ap (λ (i : ℕ). drop i q) eight ∙ drop_replicate 8 (128 - used))
      ∙ sym (append_assoc front e (replicate (128 - used) 0))
      ∙ ap (λ (x : List ℕ). x ++ replicate (128 - used) 0) (append_assoc s (128 ∷ replicate z 0) e)

-- and it is the tail of the padded message
module _ (m e : List ℕ) (eight : length e ≡ 8) where
  abbrev n : ℕ
  n = length m

  abbrev end : List ℕ
  end = drop (n / 64 * 64) m

  end_length : length end ≡ n % 64
  end_length = length-drop (n / 64 * 64) m ∙ omega arith

  end_read : take (n - (n - n % 64)) (drop (n - n % 64) m) ≡ end
  end_read =
      let k : n - n % 64 ≡ n / 64 * 64 = omega arith in
      take_all (n - (n - n % 64)) (drop (n - n % 64) m) (omega (arith, length-drop (n - n % 64) m)) ∙ ap (λ (i : ℕ). drop i m) k

  -- t₁, t₂ and t₃ are what the copy, the octet 128 and the second copy leave
  pub tail_filled : {u : ℕ} {t₁ t₂ t₃ : List ℕ} → u ≡ tail_length n → t₁ ≡ over (take (n - (n - n % 64)) (drop (n - n % 64) m)) (replicate 128 0)
      → t₂ ≡ set t₁ (n % 64) 128 → t₃ ≡ over e (take (128 - (u - 8)) (drop (u - 8) t₂))
      → record { octets = take (u - 8) t₂ ++ (t₃ ++ drop (128 - (u - 8)) (drop (u - 8) t₂)); used = u } ≡ tail_of e m
  unfolding tail_of padded tail_length zeros
  tail_filled {u} {t₁} {t₂} {t₃} eu e₁ e₂ =
      let whole : n / 64 * 64 ≤ n = omega arith in
      let size : length end + 9 + zeros n ≡ tail_length n = ap (λ (k : ℕ). k + 9 + zeros n) end_length in
      let fits : length end + 9 + zeros n ≤ 128 = omega (arith, end_length) in
      subst (λ (v : ℕ). t₃ ≡ over e (take (128 - (v - 8)) (drop (v - 8) t₂))
      → record { octets = take (v - 8) t₂ ++ (t₃ ++ drop (128 - (v - 8)) (drop (v - 8) t₂)); used = v } ≡ tail_of e m) (size ∙ sym eu)
      (λ e₃. ap₂ (λ (o : List ℕ) (k : ℕ). record { octets = o; used = k })
      (filled end e (zeros n) eight fits (e₁ ∙ ap (λ (x : List ℕ). over x (replicate 128 0)) end_read) (e₂ ∙ ap (λ (k : ℕ). set t₁ k 128) (sym end_length)) e₃
      ∙ ap₂ (λ (x : List ℕ) (k : ℕ). x ++ replicate (128 - k) 0) (sym (drop-append-le (n / 64 * 64) m (128 ∷ (replicate (zeros n) 0 ++ e)) whole)) size)
      size)
