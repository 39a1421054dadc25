-- The loop over digits: what is left to read says the same as the whole.
-- Assumes nothing.
use mathlib.Core.Path.{◌≡◌, sym, ap, ◌∙◌}
use mathlib.Core.Bool.{Bool, true, ◌&&◌, and-true, and_assoc, and-eq-true_iff}
use mathlib.Core.List.{List, [], ◌∷◌, map}
use Prim.Native.Nat.{ℕ, ◌+◌, ◌≤◌, ◌<◌}
use native.Mathlib.Numerals.{add-one}
use borrow.Author.Tests.{ltb-true}
use lib.Dec.{ltb}
use lib.ListN.{length, drop, get_or, drop_of_length-le}
use lib.Seq.{drop-cons}
use Rattle.std.specs.List.{fold}
use Rattle.octets.specs.Digits.{digit_of, all_below}

-- the values of the digits from the place k on
abbrev pub left : List ℕ → ℕ → List ℕ
left ds k = map digit_of (drop k ds)

pub left_cons : (ds : List ℕ) (k : ℕ) → k < length ds → left ds k ≡ digit_of (get_or ds k 0) ∷ left ds (k + 1)
left_cons ds k h = rw (add-one, drop-cons ds k 0)

pub left_end : (ds : List ℕ) (k : ℕ) → length ds ≤ k → left ds k ≡ []
left_end ds k h = ap (map digit_of) (drop_of_length-le ds h)

-- ---- whether they are digits

-- all were digits before them, and they are
pub all_fold : (base : ℕ) (ds : List ℕ) (all : Bool)
    → fold (λ all d. all && ltb (digit_of d) base) all ds ≡ (all && all_below base (map digit_of ds))
all_fold base [] all = sym (and-true all)
all_fold base (d ∷ ds) all =
    all_fold base ds (all && ltb (digit_of d) base)
    ∙ and_assoc all (ltb (digit_of d) base) (all_below base (map digit_of ds))

-- the first of values that are all below the base, and the others
pub below_first : (base d : ℕ) (ds : List ℕ) → all_below base (d ∷ ds) ≡ true → (d < base) × (all_below base ds ≡ true)
below_first base d ds e = let both = (and-eq-true_iff (ltb d base) (all_below base ds)).0 e in (ltb-true d base both.0, both.1)
