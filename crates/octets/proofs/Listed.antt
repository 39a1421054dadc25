-- A list or a part of a known length, written out by its elements.
-- Assumes nothing.
use mathlib.Core.Path.{◌≡◌, refl, sym, ap, ◌∙◌}
use mathlib.Core.List.{List, [], ◌∷◌}
use Prim.Native.Nat.{ℕ, zero, suc, ◌+◌, ◌≤◌}
use native.Mathlib.Omega.{arith}
use lib.ListN.{length, take, get_or}
use lib.Seq.{drop-cons, take_all}
use Rattle.octets.specs.Parts.{part}

-- n elements of l from the place i on
abbrev pub listed : List ℕ → ℕ → ℕ → List ℕ
listed l i zero = []
listed l i (suc n) = get_or l i 0 ∷ listed l (suc i) n

-- at a numeral n the right side computes to the n elements
pub part_written : (n i : ℕ) (l : List ℕ) → i + n ≤ length l → part i n l ≡ listed l i n
part_written zero i l h = refl
part_written (suc n) i l h =
    ap (take (suc n)) (drop-cons l i 0 (omega arith)) ∙ ap (λ (t : List ℕ). get_or l i 0 ∷ t) (part_written n (suc i) l (omega arith))

pub written : (n : ℕ) (l : List ℕ) → length l ≡ n → l ≡ listed l 0 n
written n l h = sym (take_all n l (omega arith)) ∙ part_written n 0 l (omega arith)
