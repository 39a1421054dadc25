-- `octets::hex::octet_at` meets its contract.
-- Assumes nothing.
use mathlib.Core.Path.{◌≡◌, refl, sym, ap₂, ◌∙◌}
use mathlib.Core.Bool.{true}
use mathlib.Core.List.{List, [], ◌∷◌, map}
use Prim.Native.Nat.{ℕ, zero, suc, ◌+◌, ◌*◌, ◌<◌}
use native.Mathlib.Omega.{arith}
use lib.ListN.{length, get_or, length-map}
use Rattle.octets.specs.Digits.{digit_of, all_below}
use Rattle.octets.proofs.HexText.{pair_at, below_at}
use Rattle.octets.proofs.hex.octet_at.Goals as goal

-- the values of the digits
value : (s : List ℕ) (k : ℕ) → k < length s → digit_of (get_or s k 0) ≡ get_or (map digit_of s) k 0
value [] k h = absurd (omega arith)
value (x ∷ s) zero h = refl
value (x ∷ s) (suc k) h = value s k (omega arith)

small : (s : List ℕ) (k : ℕ) → all_below 16 (map digit_of s) ≡ true → k < length s → digit_of (get_or s k 0) < 16
small s k e h =
    let at : get_or (map digit_of s) k 0 < 16 = below_at 16 (map digit_of s) k e (omega (arith, length-map s digit_of)) in
    omega (arith, value s k h)

pub overflow_mul-result : goal.overflow_mul-result
overflow_mul-result c =
    let s = c in
    record { fits = omega (arith, c.digit_value.ensures, small s.args.s.now (2 * s.args.i) s.requires.1 (omega arith)) }

pub overflow_add-result : goal.overflow_add-result
overflow_add-result c =
    let s = c in
    record {
      fits = omega (
        arith,
        c.digit_value.ensures,
        c.digit_value-2.ensures,
        small s.args.s.now (2 * s.args.i) s.requires.1 (omega arith),
        small s.args.s.now (2 * s.args.i + 1) s.requires.1 s.requires.0,
      );
    }

pub returns : goal.returns
returns c =
    let p = c in
    let s = p.args.s.now in
    let i = p.args.i in
    ap₂ (λ (a b : ℕ). a * 16 + b)
    (c.digit_value.ensures ∙ value s (2 * i) (omega arith))
    (c.digit_value-2.ensures ∙ value s (2 * i + 1) p.requires.0)
    ∙ sym (pair_at (map digit_of s) i (omega (arith, p.requires.0, length-map s digit_of)))
