-- Any layout: the encodings are what the encoder gives, where the decoder undoes the encoder.
-- Assumes nothing.
use mathlib.Core.Path.{◌≡◌, sym, ap, ◌∙◌}
use mathlib.Core.Bool.{true}
use mathlib.Core.List.{List, [], ◌∷◌}
use Prim.Native.Nat.{ℕ, ◌/◌, ◌%◌}
use native.Mathlib.Nat.{div-one}
use native.Mathlib.Omega.{arith}
use lib.ListN.{length}
use lib.Seq.{take_all}
use Rattle.octets.specs.Parts.{agrees}
use Rattle.octets.specs.Numbers.{to_be}
use Rattle.octets.proofs.Parts.{agrees_refl, agrees_equal}
use Rattle.layouts.specs.Values.{tagged, body_in, is_encoding}

-- a number in two bytes
pub two : (n : ℕ) → n / 256 % 256 ∷ n % 256 ∷ [] ≡ to_be 2 n
two n = ap (λ (m : ℕ). n / 256 % 256 ∷ m % 256 ∷ []) (sym (div-one n))

module _ {A : Type 0} (encode : A → List ℕ) (decode : List ℕ → A) where
  -- what a value encodes to is taken for an encoding
  pub encoding_fits : (v : A) → decode (encode v) ≡ v → is_encoding encode decode (encode v) ≡ true
  encoding_fits v e = ap (λ (w : A). agrees (encode w) (encode v)) e ∙ agrees_refl (encode v)

  -- what is taken for an encoding is what the value decoded from it encodes to
  pub encoding_of_lem : (bytes : List ℕ) → is_encoding encode decode bytes ≡ true
      → encode (decode bytes) ≡ bytes
  encoding_of_lem bytes e = agrees_equal (encode (decode bytes)) bytes e

  -- so it has the size of one
  pub encoding_length : (n : ℕ) → ((bytes : List ℕ) → length (encode (decode bytes)) ≡ n)
      → (bytes : List ℕ) → is_encoding encode decode bytes ≡ true → length bytes ≡ n
  encoding_length n size bytes e = ap length (sym (encoding_of_lem bytes e)) ∙ size bytes

  -- behind kind and version a body is decoded as it is by itself
  pub tagged_back : (kind n : ℕ) (v : A) → length (encode v) ≡ n → decode (encode v) ≡ v
      → decode (body_in n (tagged kind (encode v))) ≡ v
  tagged_back kind n v size e = ap decode (take_all n (encode v) (omega (arith, size))) ∙ e
