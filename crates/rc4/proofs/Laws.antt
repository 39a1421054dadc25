-- The laws of RC4 for other crates to cite: lengths, a second run that undoes the first, a run over
-- two parts, and which keys are taken.
-- Assumes nothing.
use Rattle.std.proofs.Common.{◌≡◌, ℕ, zero, suc, ◌+◌, ◌≤◌, Bool, true, false, cond, ◌&&◌, leb, List}
use Rattle.std.proofs.Common.{[], ◌∷◌, ◌++◌, length, refl, ap, ap₂, suc-add, zero-add, le-leb}
use Rattle.std.proofs.Common.{leb-true}
use mathlib.Core.Bool.{and-eq-true_iff}
use lib.Bits.{bit_xor}
use Rattle.octets.proofs.Xor.{xor_undo}
use Rattle.std.specs.Prelude.{Result, Ok, Err}
use Rattle.refusals.specs.Refusal.{told}
use Rattle.refusals.specs.declared.Refusal.{Refusal}
use Rattle.refusals.specs.declared.Refusal.TheVariants.{Input}
use Rattle.rc4.specs.declared.State.{State}
use Rattle.rc4.specs.Rc4.{started, next_state, output_octet, keystream, later_state, xors, ciphered}
use Rattle.rc4.specs.Rc4.{key_fits, key_refusal, keyed, key_answer, crypted}

-- ---- lengths

length_xors : (d ks : List ℕ) → length (xors d ks) ≡ length d
unfolding xors
length_xors [] ks = refl
length_xors (x ∷ d) [] = ap suc (length_xors d [])
length_xors (x ∷ d) (k ∷ ks) = ap suc (length_xors d ks)

pub length_ciphered : (w : State) (d : List ℕ) → length (ciphered w d) ≡ length d
unfolding ciphered
length_ciphered w d = length_xors d (keystream (length d) w)

pub length_crypted : (key d : List ℕ) → length (crypted key d) ≡ length d
unfolding crypted
length_crypted key d = which (key_fits key)
  where
    which : (b : Bool) → length (cond b (ciphered (started key) d) d) ≡ length d
    which true = length_ciphered (started key) d
    which false = refl

-- ---- twice

xors_twice : (d ks : List ℕ) → xors (xors d ks) ks ≡ d
unfolding xors
xors_twice [] ks = refl
xors_twice (x ∷ d) [] = ap (λ (l : List ℕ). x ∷ l) (xors_twice d [])
xors_twice (x ∷ d) (k ∷ ks) = ap₂ (λ (y : ℕ) (l : List ℕ). y ∷ l) (xor_undo x k) (xors_twice d ks)

pub ciphered_twice : (w : State) (d : List ℕ) → ciphered w (ciphered w d) ≡ d
unfolding ciphered
ciphered_twice w d = rw (length_xors d) (xors_twice d (keystream (length d) w))

pub crypted_twice : (key d : List ℕ) → crypted key (crypted key d) ≡ d
unfolding crypted
crypted_twice key d = which (key_fits key)
  where
    which : (b : Bool) → cond b (ciphered (started key) (cond b (ciphered (started key) d) d)) (cond b (ciphered (started key) d) d) ≡ d
    which true = ciphered_twice (started key) d
    which false = refl

-- ---- two parts: the second goes on from where the first ended

later_add : (m n : ℕ) (w : State) → later_state (m + n) w ≡ later_state n (later_state m w)
unfolding later_state
later_add zero n w = rw zero-add
later_add (suc m) n w = rw suc-add (later_add m n (next_state w))

pub ciphered_append : (w : State) (a b : List ℕ) → ciphered w (a ++ b) ≡ ciphered w a ++ ciphered (later_state (length a) w) b
unfolding ciphered keystream xors later_state
ciphered_append w [] b = refl
ciphered_append w (x ∷ a) b = ap (λ (l : List ℕ). bit_xor x (output_octet (next_state w)) ∷ l) (ciphered_append (next_state w) a b)

-- ---- keys

fits : (key : List ℕ) → 1 ≤ length key → length key ≤ 256 → key_fits key ≡ true
fits key h k = ap₂ ◌&&◌ (le-leb 1 (length key) h) (le-leb (length key) 256 k)

pub fits_bounds : (key : List ℕ) → key_fits key ≡ true → (1 ≤ length key) × (length key ≤ 256)
fits_bounds key e =
    let both = (and-eq-true_iff (leb 1 (length key)) (leb (length key) 256)).0 e in
    (leb-true 1 (length key) both.0, leb-true (length key) 256 both.1)

module _ (key : List ℕ) (h : 1 ≤ length key) (k : length key ≤ 256) where
  pub crypted_taken : (d : List ℕ) → crypted key d ≡ ciphered (started key) d
  unfolding crypted
  crypted_taken d = simp (fits key h k)

pub crypted_refused : (key d : List ℕ) → (1 ≤ length key → length key ≤ 256 → ⊥) → (crypted key d ≡ d) × (key_refusal key ≡ 8)
unfolding crypted key_refusal
crypted_refused key d n = which (key_fits key) refl
  where
    which : (b : Bool) → key_fits key ≡ b → (cond b (ciphered (started key) d) d ≡ d) × (◌≡◌ {A = ℕ} (cond b 0 8) 8)
    which true e = absurd (n (fits_bounds key e).0 (fits_bounds key e).1)
    which false e = (refl, refl)

-- one run by the state that a key has, and without one
module _ (key d : List ℕ) where
  pub run_taken : (w : State) → Ok w ≡ keyed key
      → (◌≡◌ {A = Result (Unit {0}) Refusal} (Ok tt) (key_answer key)) × (ciphered w d ≡ crypted key d)
  unfolding keyed crypted
  run_taken w = which (key_fits key)
    where
      which : (b : Bool) → Ok w ≡ cond b (Ok (started key)) (Err Input)
          → (◌≡◌ {A = Result (Unit {0}) Refusal} (Ok tt) (cond b (Ok tt) (Err Input))) × (ciphered w d ≡ cond b (ciphered (started key) d) d)
      which true e = let same : w ≡ started key = cc in (refl, ap (λ (v : State). ciphered v d) same)
      which false e = absurd (cc)

  pub run_refused : (r : Refusal) → Err r ≡ keyed key
      → (◌≡◌ {A = Result (Unit {0}) Refusal} (Err r) (key_answer key)) × (d ≡ crypted key d)
  unfolding keyed crypted
  run_refused r = which (key_fits key)
    where
      which : (b : Bool) → Err r ≡ cond b (Ok (started key)) (Err Input)
          → (◌≡◌ {A = Result (Unit {0}) Refusal} (Err r) (cond b (Ok tt) (Err Input))) × (d ≡ cond b (ciphered (started key) d) d)
      which true e = absurd (cc)
      which false e = let same : r ≡ Input = cc in (ap (λ (x : Refusal). Err x) same, refl)

-- the number that a run's answer tells
pub told_answer : (key : List ℕ) → told (key_answer key) ≡ key_refusal key
unfolding key_refusal
told_answer key = which (key_fits key)
  where
    which : (b : Bool) → told {A = Unit {0}} (cond b (Ok tt) (Err Input)) ≡ cond b 0 8
    which true = refl
    which false = refl
