-- Pieces that are laid over a buffer, one behind the other, as `copy_at` does.
-- Assumes nothing.
use mathlib.Core.Path.{◌≡◌, sym, ap, ap₂, ◌∙◌}
use mathlib.Core.List.{List, ◌++◌, append_assoc}
use Prim.Native.Nat.{ℕ, ◌+◌, ◌≤◌}
use native.Mathlib.Nat.{zero-add}
use native.Mathlib.Omega.{arith}
use lib.ListN.{length, take, drop, length-append, length-drop}
use lib.Seq.{take_all, length-take-le, take_at}
use Rattle.octets.specs.Parts.{over, over_at}
use Rattle.octets.proofs.Parts.{over_fits, over_fills, over_join}

-- two pieces, laid one behind the other from the place at on
pub join : (at : ℕ) (xs ys l : List ℕ) {b c : List ℕ} {k : ℕ} → length xs ≡ k → b ≡ over_at at xs l → c ≡ over_at (at + k) ys b
    → c ≡ over_at at (xs ++ ys) l
join at xs ys l e f g = g ∙ ap₂ (λ (n : ℕ) (m : List ℕ). over_at (at + n) ys m) (sym e) f ∙ over_join at xs ys l

-- xs, of n octets, lies over the front of l
pub record Laid (l xs : List ℕ) (n : ℕ) (b : List ℕ) : Type 0 where
  pub long : length xs ≡ n
  pub same : b ≡ over_at 0 xs l

pub first : {l xs b : List ℕ} (n : ℕ) → length xs ≡ n → b ≡ over_at 0 xs l → Laid l xs n b
first n e f = record { long = e; same = f }

pub next : {l xs b c : List ℕ} {n : ℕ} → Laid l xs n b → (ys : List ℕ) (k : ℕ) → length ys ≡ k → c ≡ over_at n ys b → Laid l (xs ++ ys) (n + k) c
next {l} {xs} {b} {c} {n} s ys k e f =
    record {
      long = length-append xs ys ∙ ap₂ (λ (i j : ℕ). i + j) s.long e;
      same = join 0 xs ys l s.long s.same (f ∙ ap (λ (i : ℕ). over_at i ys b) (sym (zero-add n)));
    }

-- what is laid over a buffer of its own size is all that is left there
pub filled : (xs l : List ℕ) → length l ≡ length xs → over xs l ≡ xs
filled xs l e = over_fills xs l (omega arith) ∙ take_all (length l) xs (omega arith)

pub laid_whole : {l xs b : List ℕ} {n : ℕ} → Laid l xs n b → length l ≡ n → b ≡ xs
laid_whole {l} {xs} s e = s.same ∙ filled xs l (e ∙ sym s.long)

-- up to the end of a piece: what lay before it, and the piece
pub take_laid : (k m : ℕ) (xs l : List ℕ) → k + length xs ≡ m → m ≤ length l → take m (over_at k xs l) ≡ take k l ++ xs
take_laid k m xs l e h =
    let front = length-take-le k l (omega arith) in
    ap (take m) (ap (λ (x : List ℕ). take k l ++ x) (over_fits xs (drop k l) (omega (arith, length-drop k l))) ∙ sym (append_assoc (take k l) xs (drop (length xs) (drop k l))))
    ∙ take_at (take k l ++ xs) (drop (length xs) (drop k l)) m (length-append (take k l) xs ∙ omega arith)
