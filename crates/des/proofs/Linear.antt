-- Linear functions: those that pass through exclusive or. Two of them that agree on the powers of
-- two below 2 ^ w agree on all numbers below 2 ^ w, so that an equation of such functions is one
-- computed test.
-- Assumes nothing.
use mathlib.Core.Path.{◌≡◌, refl, sym, ap, ap₂, ◌∙◌}
use mathlib.Core.Bool.{Bool, true, ◌&&◌}
use Prim.Native.Nat.{ℕ, zero, suc, ◌+◌, ◌*◌, ◌/◌, ◌%◌, ◌^◌, ◌<◌}
use native.Mathlib.Nat.{mod-lt, add-zero, zero-mul, one-mul, mul_comm, pow-suc, div-lt_iff_lt-mul}
use native.Mathlib.Nat.{not-suc-le-zero, le_of_suc-le-suc}
use lib.Arith.{lt-one}
use lib.Dec.{T, eqb, eqb→eq}
use lib.Pow.{pow_pos, split}
use lib.Bits.{bit_xor, bit_and, xor_block, xor_self, xor_shr, xor_mod, xor_shifted}
use Rattle.octets.proofs.Bitwise.{both_left, both_right}
use Rattle.octets.proofs.Xor.{xor_swap, and_xor}

pub record Linear (g : ℕ → ℕ) : Type 0 where
  pub law : (a b : ℕ) → g (bit_xor a b) ≡ bit_xor (g a) (g b)

-- ---- linear functions

pub at_zero : {g : ℕ → ℕ} → Linear g → g 0 ≡ 0
at_zero {g} l = l.law 0 0 ∙ xor_self (g 0)

pub lin_id : Linear (λ x. x)
lin_id = record { law = λ a b. refl }

-- what is equal everywhere to a linear function is linear
pub lin_same : {f g : ℕ → ℕ} → ((x : ℕ) → f x ≡ g x) → Linear g → Linear f
lin_same e l = record { law = λ a b. e (bit_xor a b) ∙ l.law a b ∙ sym (ap₂ bit_xor (e a) (e b)) }

pub lin_after : {g h : ℕ → ℕ} → Linear g → Linear h → Linear (λ x. g (h x))
lin_after {g} {h} lg lh = record { law = λ a b. ap g (lh.law a b) ∙ lg.law (h a) (h b) }

pub lin_xor : {g h : ℕ → ℕ} → Linear g → Linear h → Linear (λ x. bit_xor (g x) (h x))
lin_xor {g} {h} lg lh = record { law = λ a b. ap₂ bit_xor (lg.law a b) (lh.law a b) ∙ xor_swap (g a) (g b) (h a) (h b) }

pub lin_shr : (k : ℕ) {g : ℕ → ℕ} → Linear g → Linear (λ x. g x / 2 ^ k)
lin_shr k = lin_after {g = λ y. y / 2 ^ k} (record { law = λ a b. xor_shr a b k })

pub lin_mod : (k : ℕ) {g : ℕ → ℕ} → Linear g → Linear (λ x. g x % 2 ^ k)
lin_mod k = lin_after {g = λ y. y % 2 ^ k} (record { law = λ a b. xor_mod a b k })

-- a number moved up, and another in the places that it left
pub lin_digits : (k : ℕ) {g h : ℕ → ℕ} → Linear g → Linear h → ((x : ℕ) → h x < 2 ^ k) → Linear (λ x. g x * 2 ^ k + h x)
lin_digits k {g} {h} lg lh small = record {
  law = λ a b.
      ap₂ (λ (u v : ℕ). u * 2 ^ k + v) (lg.law a b) (lh.law a b)
      ∙ sym (xor_block k (g a) (g b) (h a) (h b) (small a) (small b));
}

pub lin_shl : (k : ℕ) {g : ℕ → ℕ} → Linear g → Linear (λ x. g x * 2 ^ k)
lin_shl k lg = simp add-zero at (lin_digits k lg (record { law = λ a b. refl }) (λ x. pow_pos k))

pub lin_mask : (m : ℕ) {g : ℕ → ℕ} → Linear g → Linear (λ x. bit_and (g x) m)
lin_mask m = lin_after {g = λ y. bit_and y m} (record { law = λ a b. and_xor a b m })

-- ---- the test

-- g and h agree on the w lowest powers of two
abbrev pub on_basis : (ℕ → ℕ) → (ℕ → ℕ) → ℕ → Bool
on_basis g h zero = true
on_basis g h (suc k) = eqb (g (2 ^ k)) (h (2 ^ k)) && on_basis g h k

-- a binary digit is 0 or 1
digit : (P : ℕ → Type 0) → P 0 → P 1 → (d : ℕ) → d < 2 → P d
digit P p q zero h = p
digit P p q (suc zero) h = q
digit P p q (suc (suc d)) h = absurd (not-suc-le-zero (le_of_suc-le-suc (le_of_suc-le-suc h)))

-- a number is its digits from k on and those below
parts : (k n : ℕ) → n ≡ bit_xor (n / 2 ^ k * 2 ^ k) (n % 2 ^ k)
parts k n = sym (split n k) ∙ sym (xor_shifted (n / 2 ^ k) k (n % 2 ^ k) (mod-lt n (pow_pos k)))

module _ (g h : ℕ → ℕ) (lg : Linear g) (lh : Linear h) where
  agree_zero : g 0 ≡ h 0
  agree_zero = at_zero lg ∙ sym (at_zero lh)

  agree_digit : (k d : ℕ) → d < 2 → g (2 ^ k) ≡ h (2 ^ k) → g (d * 2 ^ k) ≡ h (d * 2 ^ k)
  agree_digit k d l e =
      digit (λ (d : ℕ). g (d * 2 ^ k) ≡ h (d * 2 ^ k))
      (ap g (zero-mul (2 ^ k)) ∙ agree_zero ∙ ap h (sym (zero-mul (2 ^ k))))
      (ap g (one-mul (2 ^ k)) ∙ e ∙ ap h (sym (one-mul (2 ^ k)))) d l

  pub agree : (w : ℕ) → T (on_basis g h w) → (n : ℕ) → n < 2 ^ w → g n ≡ h n
  agree zero t n l = ap g (lt-one l) ∙ agree_zero ∙ ap h (sym (lt-one l))
  agree (suc k) t n l =
      let first = eqb (g (2 ^ k)) (h (2 ^ k)) in
      let top : n / 2 ^ k < 2 = (div-lt_iff_lt-mul (pow_pos k)).1 (rw (pow-suc 2 k ∙ mul_comm (2 ^ k) 2) at l) in
      ap g (parts k n) ∙ lg.law (n / 2 ^ k * 2 ^ k) (n % 2 ^ k)
      ∙ ap₂ bit_xor
      (agree_digit k (n / 2 ^ k) top (eqb→eq (g (2 ^ k)) (h (2 ^ k)) (both_left first (on_basis g h k) t)))
      (agree k (both_right first (on_basis g h k) t) (n % 2 ^ k) (mod-lt n (pow_pos k)))
      ∙ sym (lh.law (n / 2 ^ k * 2 ^ k) (n % 2 ^ k)) ∙ ap h (sym (parts k n))
