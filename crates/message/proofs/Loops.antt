-- The loops over a field's digits: what is left to read says the same as the whole.
-- Assumes nothing.
use mathlib.Core.Path.{◌≡◌, refl, sym, ap, ◌∙◌}
use mathlib.Core.Bool.{Bool, true, cond}
use mathlib.Core.List.{List, map}
use Prim.Native.Nat.{ℕ, suc, ◌+◌, ◌*◌, ◌^◌, ◌≤◌, ◌<◌}
use native.Mathlib.Nat.{pow-zero, pow-suc, pow-le-pow_right, lt_of_lt_of_le, le_trans}
use native.Mathlib.Numerals.{add-one}
use native.Mathlib.Omega.{arith}
use lib.Arith.{digits_lt}
use lib.Dec.{lit<}
use lib.ListN.{length, length-map, get_or, replicate}
use Rattle.octets.specs.Digits.{digit_of, all_below, number_from, pairs}
use Rattle.octets.specs.Parts.{over}
use Rattle.octets.proofs.DigitLoop.{left, left_cons, left_end, below_first}
use Rattle.octets.proofs.HexText.{length_pairs}
use Rattle.octets.proofs.Laid.{filled}
use Rattle.message.specs.Inner.{Small, Eight}

-- ---- their number

-- k digits are read, and v is their number
pub record Counted (base : ℕ) (ds : List ℕ) (v k : ℕ) : Type 0 where
  pub small : v < base ^ k
  pub value : number_from base v (left ds k) ≡ number_from base 0 (map digit_of ds)
  pub below : all_below base (left ds k) ≡ true

pub none_counted : (base : ℕ) (ds : List ℕ) → Small base (map digit_of ds) → Counted base ds 0 0
none_counted base ds s = record { small = rw (pow-zero base) (lit< tt); value = refl; below = s.below }

module _ {base : ℕ} {ds : List ℕ} {v k : ℕ} (inv : Counted base ds v k) {d : ℕ} (e : d ≡ digit_of (get_or ds k 0)) (h : k < length ds) where
  first_left : (d < base) × (all_below base (left ds (k + 1)) ≡ true)
  first_left = rw e (below_first base (digit_of (get_or ds k 0)) (left ds (k + 1)) (rw (left_cons ds k h) at inv.below))

  smaller : v * base + d < base ^ suc k
  smaller = rw pow-suc (digits_lt inv.small first_left.0)

  pub number_fits : 0 < base → Small base (map digit_of ds) → v * base + d < 2 ^ 64
  number_fits p s = lt_of_lt_of_le smaller (le_trans (pow-le-pow_right p (rw length-map h)) s.fits)

  pub one_counted : Counted base ds (v * base + d) (k + 1)
  one_counted = record {
    small = rw add-one smaller;
    value = rw e (rw (left_cons ds k h) at inv.value);
    below = first_left.1;
  }

pub all_counted : {base : ℕ} {ds : List ℕ} {v k : ℕ} → Counted base ds v k → length ds ≤ k → v ≡ number_from base 0 (map digit_of ds)
all_counted {base} {ds} {v} {k} inv h = rw (left_end ds k h) at inv.value

-- ---- two to an octet

pub eight_pairs : (ds : List ℕ) → Eight (map digit_of ds)
    → cond (all_below 16 (map digit_of ds)) (over (pairs (map digit_of ds)) (replicate 8 0)) (replicate 8 0)
    ≡ pairs (map digit_of ds)
eight_pairs ds s =
    let octets = pairs (map digit_of ds) in
    let eight : length octets ≡ 8 = omega (arith, length_pairs (map digit_of ds), s.long) in
    ap (λ (t : Bool). cond t (over octets (replicate 8 0)) (replicate 8 0)) s.below
    ∙ filled octets (replicate 8 0) (sym eight)
