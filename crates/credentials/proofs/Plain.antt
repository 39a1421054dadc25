-- The block before RC4: its parts, its length, and that it is what the code's three copies leave.
-- Assumes nothing.
use mathlib.Core.Path.{◌≡◌, sym, ap, ap₂, ◌∙◌}
use mathlib.Core.List.{List, ◌++◌, append_assoc, append-nil}
use Prim.Native.Nat.{ℕ, ◌-◌, ◌≤◌}
use native.Mathlib.Omega.{arith}
use lib.ListN.{length, take, drop, replicate, length-append, take-append-drop, drop_of_length-le}
use lib.Seq.{take-append-le, length-take-le}
use Rattle.octets.specs.Parts.{over, over_at}
use Rattle.octets.specs.Numbers.{to_le}
use Rattle.octets.proofs.Parts.{length_over, over_fits, over_next}
use Rattle.credentials.specs.Credentials.{plain_block}

-- what of the filler stands before the password
abbrev pub front : List ℕ → List ℕ → List ℕ
front filler password = take (512 - length password) filler

module _ (filler password : List ℕ) (full : length filler ≡ 512) (fits : length password ≤ 512) where
  pub front_length : length (front filler password) ≡ 512 - length password
  front_length = length-take-le (512 - length password) filler (omega arith)

  -- the 512 octets before the length
  pub body_length : length (front filler password ++ password) ≡ 512
  body_length = length-append (front filler password) password ∙ omega (arith, front_length)

  pub plain_parts : plain_block filler password ≡ (front filler password ++ password) ++ to_le 4 (length password)
  unfolding plain_block
  plain_parts = sym (append_assoc (front filler password) password (to_le 4 (length password)))

  pub length_plain : length (plain_block filler password) ≡ 516
  length_plain = ap length plain_parts ∙ length-append (front filler password ++ password) (to_le 4 (length password)) ∙ omega (arith, body_length)

  -- b₁, b₂ and b₃ are what the copies of the filler, the password and its length leave
  pub block_filled : {b₁ b₂ b₃ e : List ℕ} → b₁ ≡ over filler (replicate 516 0) → b₂ ≡ over_at (512 - length password) password b₁
      → e ≡ to_le 4 (length password) → b₃ ≡ over_at 512 e b₂ → b₃ ≡ plain_block filler password
  block_filled {b₁} {b₂} {b₃} {e} e₁ e₂ ee e₃ =
      let k : ℕ = 512 - length password in
      let size : length b₁ ≡ 516 = ap length e₁ ∙ length_over filler (replicate 516 0) in
      let begins : take k b₁ ≡ front filler password =
      ap (take k) (e₁ ∙ over_fits filler (replicate 516 0) (omega arith)) ∙ take-append-le k filler (drop (length filler) (replicate 516 0)) (omega arith) in
      let start : b₁ ≡ front filler password ++ drop (length (front filler password)) b₁ =
      sym (take-append-drop k b₁) ∙ ap₂ (λ (x : List ℕ) (n : ℕ). x ++ drop n b₁) begins (sym front_length) in
      let done : List ℕ = front filler password ++ password in
      let done-length : length done ≡ 512 = body_length in
      let four : length e ≡ 4 = ap length ee in
      let second : b₂ ≡ done ++ drop (length done) b₁ =
      e₂ ∙ ap (λ (n : ℕ). over_at n password b₁) (sym front_length) ∙ over_next b₁ (front filler password) password start (omega (arith, front_length)) in
      let all : length (done ++ e) ≡ 516 = length-append done e ∙ omega arith in
      e₃
      ∙ ap (λ (n : ℕ). over_at n e b₂) (sym done-length)
      ∙ over_next b₁ done e second (omega arith)
      ∙ ap (λ (x : List ℕ). (done ++ e) ++ x) (drop_of_length-le b₁ {i = length (done ++ e)} (omega arith))
      ∙ append-nil (done ++ e)
      ∙ ap (λ (x : List ℕ). done ++ x) ee ∙ sym plain_parts
