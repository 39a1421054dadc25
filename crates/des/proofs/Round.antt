-- The cipher function as the code computes it: each six bits of E(R) stand together in the spread
-- word, and the entries of the folded table are joined. And the rounds of a block, one after the
-- other.
-- Assumes nothing.
use mathlib.Core.Path.{◌≡◌, refl, sym, ap, ap₂, ◌∙◌}
use mathlib.Core.List.{List}
use Prim.Native.Nat.{ℕ, suc, ◌+◌, ◌*◌, ◌/◌, ◌%◌, ◌^◌, ◌≤◌, ◌<◌}
use native.Mathlib.Nat.{div-one}
use native.Mathlib.Omega.{arith}
use lib.Dec.{T}
use lib.ListN.{length, drop, get_or, drop_of_length-le}
use lib.Seq.{drop-cons}
use lib.Bits.{bit_xor, xor_lt, xor_zero_l, xor_shr, xor_mod}
use Rattle.octets.specs.Numbers.{to_be}
use Rattle.des.specs.Tables.{ip, fp, expansion, boxes}
use Rattle.des.specs.Des.{permute, cipher_f, rounds, crypt}
use Rattle.des.specs.Inner.{spread, folded_at}
use Rattle.des.proofs.Linear.{Linear, agree, on_basis, lin_id, lin_xor, lin_shr, lin_mod, lin_shl}
use Rattle.des.proofs.Permute.{lin_permute}
use Rattle.des.proofs.Folded.{folded}
use Rattle.des.proofs.RoundTrip.{f_lt}

-- six bits of E(R), j groups from the end, and of the spread word
abbrev of_e : ℕ → ℕ → ℕ
of_e j r = permute 32 expansion r / 2 ^ (6 * j) % 2 ^ 6

abbrev of_spread : ℕ → ℕ → ℕ
of_spread j r = spread r / 2 ^ (4 * j) % 2 ^ 6

lin_spread : Linear spread
unfolding spread
lin_spread =
    lin_xor (lin_xor (lin_mod 64 (lin_shl 33 (lin_mod 1 lin_id))) (lin_mod 64 (lin_shl 1 lin_id))) (lin_shr 31 lin_id)

module _ (r k w : ℕ) (h : r < 2 ^ 32) (e : w ≡ spread r) where
  -- the group that the code looks up is that of K xor E(R)
  group : (j : ℕ) → T (on_basis (of_e j) (of_spread j) 32)
      → bit_xor (w / 2 ^ (4 * j)) (k / 2 ^ (6 * j)) % 64 ≡ bit_xor (permute 32 expansion r) k / 2 ^ (6 * j) % 64
  group j t =
      ap (λ (v : ℕ). bit_xor (v / 2 ^ (4 * j)) (k / 2 ^ (6 * j)) % 64) e
      ∙ xor_mod (spread r / 2 ^ (4 * j)) (k / 2 ^ (6 * j)) 6
      ∙ ap (λ (v : ℕ). bit_xor v (k / 2 ^ (6 * j) % 64))
      (sym (agree (of_e j) (of_spread j) (lin_mod 6 (lin_shr (6 * j) (lin_permute 32 expansion))) (lin_mod 6 (lin_shr (4 * j) lin_spread)) 32 t r h))
      ∙ sym (xor_mod (permute 32 expansion r / 2 ^ (6 * j)) (k / 2 ^ (6 * j)) 6)
      ∙ ap (λ (v : ℕ). v % 64) (sym (xor_shr (permute 32 expansion r) k (6 * j)))

  -- the entry of the selection function i for the group j from the end
  entry : (i j : ℕ) {s : ℕ} → T (on_basis (of_e j) (of_spread j) 32) → s ≡ folded_at i (bit_xor (w / 2 ^ (4 * j)) (k / 2 ^ (6 * j)) % 64)
      → s ≡ folded_at i (bit_xor (permute 32 expansion r) k / 2 ^ (6 * j) % 64)
  entry i j t es = es ∙ ap (folded_at i) (group j t)

  pub joined_right : (s₁ s₂ s₃ s₄ s₅ s₆ s₇ s₈ : ℕ)
      → s₁ ≡ folded_at 0 (bit_xor (w / 2 ^ 28) (k / 2 ^ 42) % 64)
      → s₂ ≡ folded_at 1 (bit_xor (w / 2 ^ 24) (k / 2 ^ 36) % 64)
      → s₃ ≡ folded_at 2 (bit_xor (w / 2 ^ 20) (k / 2 ^ 30) % 64)
      → s₄ ≡ folded_at 3 (bit_xor (w / 2 ^ 16) (k / 2 ^ 24) % 64)
      → s₅ ≡ folded_at 4 (bit_xor (w / 2 ^ 12) (k / 2 ^ 18) % 64)
      → s₆ ≡ folded_at 5 (bit_xor (w / 2 ^ 8) (k / 2 ^ 12) % 64)
      → s₇ ≡ folded_at 6 (bit_xor (w / 2 ^ 4) (k / 2 ^ 6) % 64)
      → s₈ ≡ folded_at 7 (bit_xor w k % 64)
      → bit_xor (bit_xor (bit_xor (bit_xor (bit_xor (bit_xor (bit_xor s₁ s₂) s₃) s₄) s₅) s₆) s₇) s₈ ≡ cipher_f r k
  unfolding cipher_f expansion spread boxes
  joined_right s₁ s₂ s₃ s₄ s₅ s₆ s₇ s₈ e₁ e₂ e₃ e₄ e₅ e₆ e₇ e₈ =
      ap₂ bit_xor (ap₂ bit_xor (ap₂ bit_xor (ap₂ bit_xor (ap₂ bit_xor (ap₂ bit_xor (ap₂ bit_xor
      (sym (xor_zero_l s₁) ∙ ap (bit_xor 0) (entry 0 7 tt e₁)) (entry 1 6 tt e₂)) (entry 2 5 tt e₃)) (entry 3 4 tt e₄))
      (entry 4 3 tt e₅)) (entry 5 2 tt e₆)) (entry 6 1 tt e₇))
      (entry 7 0 {s = s₈} tt (e₈ ∙ ap₂ (λ (u v : ℕ). folded_at 7 (bit_xor u v % 64)) (sym (div-one w)) (sym (div-one k))))
      ∙ folded (bit_xor (permute 32 expansion r) k)

-- ---- the rounds

-- L and R after i rounds under ks from L₀ and R₀
pub record AfterRounds (ks : List ℕ) (l₀ r₀ i l r : ℕ) : Type 0 where
  pub left : l < 2 ^ 32
  pub right : r < 2 ^ 32
  pub same : rounds (drop i ks) l r ≡ rounds ks l₀ r₀

-- no round yet
pub no_rounds : (ks : List ℕ) (l r : ℕ) → l < 2 ^ 32 → r < 2 ^ 32 → AfterRounds ks l r 0 l r
no_rounds ks l r hl hr = record { left = hl; right = hr; same = refl }

-- one more round, under any list of round keys
pub one_round : {ks : List ℕ} {l₀ r₀ i l r k l' r' : ℕ} → AfterRounds ks l₀ r₀ i l r → i < length ks → k ≡ get_or ks i 0
    → (l' ≡ r) × (r' ≡ bit_xor l (cipher_f r k)) → AfterRounds ks l₀ r₀ (suc i) l' r'
one_round {ks} {i = i} {l} {r} {k} g h ek e = record {
  left = rw e.0 g.right;
  right = rw e.1 (xor_lt 32 l (cipher_f r k) g.left (f_lt r k));
  same =
      ap₂ (rounds (drop (suc i) ks)) e.0 (e.1 ∙ ap (λ (u : ℕ). bit_xor l (cipher_f r u)) ek)
      ∙ sym (ap (λ (t : List ℕ). rounds t l r) (drop-cons ks i 0 h))
      ∙ g.same;
}

-- the same under the sixteen of the code's `RoundKeys`
pub one_of_sixteen : {ks : List ℕ} {l₀ r₀ i l r k l' r' : ℕ} → AfterRounds ks l₀ r₀ i l r → length ks ≡ 16 → i < 16
    → k ≡ get_or ks i 0 → (l' ≡ r) × (r' ≡ bit_xor l (cipher_f r k)) → AfterRounds ks l₀ r₀ (suc i) l' r'
one_of_sixteen g n h = one_round g (omega arith)

-- after all rounds from the halves of IP of a block, the inverse of IP of the preoutput block R L
-- is the block under ks
pub all_rounds : {ks : List ℕ} {l₀ r₀ i l r v : ℕ} (x : ℕ) → AfterRounds ks l₀ r₀ i l r → length ks ≤ i
    → (l₀ ≡ permute 64 ip x / 2 ^ 32) × (r₀ ≡ permute 64 ip x % 2 ^ 32) → v ≡ permute 64 fp (r * 2 ^ 32 + l) → v ≡ crypt ks x
unfolding crypt
all_rounds {ks} {i = i} {l} {r} x g h e ev =
    ev
    ∙ ap (permute 64 fp)
    (ap (λ (t : List ℕ). rounds t l r) (sym (drop_of_length-le ks {i = i} h)) ∙ g.same ∙ ap₂ (rounds ks) e.0 e.1)

-- after the sixteen
pub crypted : {ks : List ℕ} {l₀ r₀ i l r v : ℕ} (x : ℕ) → AfterRounds ks l₀ r₀ i l r → length ks ≡ 16 → 16 ≤ i
    → (l₀ ≡ permute 64 ip x / 2 ^ 32) × (r₀ ≡ permute 64 ip x % 2 ^ 32) → v ≡ permute 64 fp (r * 2 ^ 32 + l) → v ≡ crypt ks x
crypted x g n h = all_rounds x g (omega arith)

-- the same as octets, under the round keys of a key
pub encrypted_octets : {ks us o : List ℕ} {i l r y v : ℕ} (x : ℕ) → AfterRounds ks (y / 2 ^ 32) (y % 2 ^ 32) i l r → length ks ≤ i → y ≡ permute 64 ip x
    → v ≡ permute 64 fp (r * 2 ^ 32 + l) → o ≡ to_be 8 v → ks ≡ us → o ≡ to_be 8 (crypt us x)
encrypted_octets x g h ey ev eo e =
    eo
    ∙ ap (to_be 8)
    (all_rounds x g h (ap (λ (y : ℕ). y / 2 ^ 32) ey, ap (λ (y : ℕ). y % 2 ^ 32) ey) ev ∙ ap (λ (t : List ℕ). crypt t x) e)
