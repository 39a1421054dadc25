-- `octets::hex::digit_at` meets its contract.
-- Assumes nothing.
use mathlib.Core.Path.{◌≡◌, sym, ap, ◌∙◌}
use Prim.Native.Nat.{ℕ, ◌+◌, ◌*◌, ◌/◌}
use native.Mathlib.Omega.{arith}
use lib.ListN.{get_or}
use Rattle.octets.specs.Digits.{hex_text}
use Rattle.octets.proofs.HexText.{high_at, low_at}
use Rattle.octets.proofs.hex.digit_at.Goals as goal

pub returns-then-k-eq0 : goal.returns-then-k-eq0
returns-then-k-eq0 c =
    let a = c.args in
    let even : a.k ≡ 2 * (a.k / 2) = omega arith in
    c.hex_digit.ensures
    ∙ sym (ap (λ (k : ℕ). get_or (hex_text a.s.now) k 0) even ∙ high_at a.s.now (a.k / 2) (omega arith))

pub returns : goal.returns
returns c =
    let a = c.args in
    let odd : a.k ≡ 2 * (a.k / 2) + 1 = omega arith in
    c.hex_digit-2.ensures
    ∙ sym (ap (λ (k : ℕ). get_or (hex_text a.s.now) k 0) odd ∙ low_at a.s.now (a.k / 2) (omega arith))
