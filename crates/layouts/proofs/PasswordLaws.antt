-- The layout of a password: its size, and what is decoded from the encoding of a password is the
-- password.
-- Assumes nothing.
use mathlib.Core.Path.{◌≡◌, refl, ap, ap₂, ◌∙◌}
use mathlib.Core.Bool.{true, false, not, ◌&&◌}
use mathlib.Core.List.{List}
use Prim.Native.Nat.{ℕ, suc, ◌%◌, ◌≤◌}
use native.Mathlib.Omega.{arith}
use lib.ListN.{length, take, drop, replicate, length-replicate}
use lib.Seq.{take_at}
use Rattle.octets.specs.Parts.{fixed}
use Rattle.octets.proofs.Parts.{length_fixed, over_fits}
use Rattle.octets.proofs.Numbers.{from_be-to_be}
use Rattle.credentials.specs.Credentials.{longest_nt, bad_nt_password}
use Rattle.layouts.specs.Passwords as layout
use Rattle.layouts.proofs.Encodings.{encoding_fits}

pub length_password : (p : List ℕ) → length (layout.encode_password p) ≡ layout.password_size
length_password p = ap (λ (n : ℕ). suc (suc (suc (suc n)))) (length_fixed 512 p)

module _ (p : List ℕ) (fits : length p ≤ longest_nt) where
  pub password_back : layout.decode_password (layout.encode_password p) ≡ p
  password_back =
      let room : length p ≤ length (replicate {A = ℕ} 512 0) =
      omega (arith, fits, length-replicate {A = ℕ} 512 0) in
      let small : length p % 65536 ≡ length p = omega (arith, fits) in
      ap (λ (n : ℕ). take n (fixed 512 p)) (from_be-to_be 2 (length p) ∙ small)
      ∙ ap (take (length p)) (over_fits p (replicate 512 0) room)
      ∙ take_at p (drop (length p) (replicate 512 0)) (length p) refl

  -- the encoding of a password is taken for one
  pub password_fits : bad_nt_password p ≡ false
      → layout.is_encoded_password (layout.encode_password p) ≡ true
  unfolding layout.is_encoded_password
  password_fits good =
      ap₂ ◌&&◌ (encoding_fits layout.encode_password layout.decode_password p password_back)
      (ap not (ap bad_nt_password password_back ∙ good))
