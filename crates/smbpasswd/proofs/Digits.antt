-- The digits of a hash and of a time, as octets.
-- Assumes nothing.
use mathlib.Core.Bool.{Bool, true, false, cond, ◌||◌}
use mathlib.Core.List.{List, map}
use mathlib.Core.Path.{◌≡◌, sym, ap, ◌∙◌}
use Prim.Native.Nat.{ℕ, ◌*◌}
use native.Mathlib.Omega.{arith}
use borrow.Author.Tests.{eqb-true}
use lib.ListN.{length, drop, replicate, length-map, length-replicate}
use Rattle.octets.specs.Digits.{digit_of, all_below, pairs}
use Rattle.octets.specs.Parts.{over}
use Rattle.octets.proofs.HexText.{length_pairs}
use Rattle.octets.proofs.Laid.{filled}
use Rattle.smbpasswd.specs.Line.{lct, begins, is_absent, is_hash, is_time}
use Rattle.smbpasswd.proofs.FieldLaws.{both}

-- 2 * n digits, decoded into n octets
pub decoded : (n : ℕ) (f : List ℕ) → length f ≡ 2 * n → all_below 16 (map digit_of f) ≡ true
    → cond (all_below 16 (map digit_of f)) (over (pairs (map digit_of f)) (replicate n 0)) (replicate n 0)
    ≡ pairs (map digit_of f)
decoded n f long digits =
    let octets = pairs (map digit_of f) in
    let half : length octets ≡ n = omega (arith, length_pairs (map digit_of f), length-map f digit_of) in
    ap (λ (t : Bool). cond t (over octets (replicate n 0)) (replicate n 0)) digits
    ∙ filled octets (replicate n 0) (length-replicate n 0 ∙ sym half)

-- ---- a hash

pub record Digits (f : List ℕ) : Type 0 where
  pub long : length f ≡ 32
  pub digits : all_below 16 (map digit_of f) ≡ true

pub hash_length : (f : List ℕ) → is_hash f ≡ true → length f ≡ 32
hash_length f e = eqb-true (length f) 32 (both e).0

pub hash_digits : (f : List ℕ) → is_hash f ≡ true → is_absent f ≡ false → Digits f
hash_digits f e a =
    let b = both e in
    record {
      long = eqb-true (length f) 32 b.0;
      digits = sym (ap (λ (t : Bool). t || all_below 16 (map digit_of f)) a) ∙ b.1;
    }

-- ---- a time

pub record TimeDigits (f : List ℕ) : Type 0 where
  pub long : length f ≡ 12
  pub front : begins lct f ≡ true
  pub digits : all_below 16 (map digit_of (drop 4 f)) ≡ true

pub time_digits : (f : List ℕ) → is_time f ≡ true → TimeDigits f
time_digits f e =
    let a = both e in
    let b = both a.1 in
    record { long = eqb-true (length f) 12 a.0; front = b.0; digits = b.1 }
