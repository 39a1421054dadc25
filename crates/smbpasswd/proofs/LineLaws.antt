-- The lines of a file: the first one and the others, and where each starts.
-- Assumes nothing.
use mathlib.Core.Bool.{Bool, true, false, cond, not}
use mathlib.Core.List.{List, [], ◌∷◌}
use mathlib.Core.Path.{◌≡◌, refl, sym, ap, ◌∙◌, subst}
use Prim.Native.Nat.{ℕ, zero, suc, ◌+◌, ◌-◌, ◌≤◌, ◌<◌}
use native.Mathlib.Omega.{arith}
use borrow.Author.Tests.{ltb-true, ltb-false}
use lib.Dec.{eqb, ltb}
use lib.ListN.{length, drop, get_or, length-drop, drop_of_length-le}
use lib.Seq.{drop-cons, drop-drop}
use Rattle.octets.specs.Split.{before, behind, with_first}
use Rattle.octets.proofs.Split.{drop_place, place_le}
use Rattle.smbpasswd.specs.Line.{lf}
use Rattle.smbpasswd.specs.File.{lines, Placed, placed_from, select, line_at}
use Rattle.smbpasswd.specs.Inner.{placed_at}

-- ---- the first line, and the others

pub lines_first : (x : ℕ) (f : List ℕ) → lines (x ∷ f) ≡ before lf (x ∷ f) ∷ lines (behind lf (x ∷ f))
unfolding lines
lines_first x [] = which (eqb x lf)
  where
    which : (b : Bool) → cond b ([] ∷ []) ((x ∷ []) ∷ []) ≡ cond b [] (x ∷ []) ∷ lines (cond b [] [])
    which true = refl
    which false = refl
lines_first x (y ∷ f) = which (eqb x lf) (lines_first y f)
  where
    which : (b : Bool) → lines (y ∷ f) ≡ before lf (y ∷ f) ∷ lines (behind lf (y ∷ f))
        → cond b ([] ∷ lines (y ∷ f)) (with_first x (lines (y ∷ f)))
        ≡ cond b [] (x ∷ before lf (y ∷ f)) ∷ lines (cond b (y ∷ f) (behind lf (y ∷ f)))
    which true e = refl
    which false e = ap (with_first x) e

pub no_lines : (f : List ℕ) (at : ℕ) → length f ≤ at → lines (drop at f) ≡ []
unfolding lines
no_lines f at h = ap lines (drop_of_length-le f h)

-- where the line behind the one at an offset starts
abbrev pub next : ℕ → List ℕ → ℕ
next at f = at + length (line_at at f) + 1

pub lines_at : (f : List ℕ) (at : ℕ) → at < length f → lines (drop at f) ≡ line_at at f ∷ lines (drop (next at f) f)
lines_at f at h =
    let x = get_or f at 0 in
    let rest = drop (suc at) f in
    let there = drop-cons f at 0 h in
    let k = length (line_at at f) in
    let count : at + suc k ≡ next at f = omega arith in
    ap lines there ∙ lines_first x rest
    ∙ ap (λ (l : List ℕ). before lf l ∷ lines (behind lf l)) (sym there)
    ∙ ap (λ (l : List ℕ). line_at at f ∷ lines l)
    (sym (drop_place lf (drop at f)) ∙ drop-drop (suc k) at f ∙ ap (λ (i : ℕ). drop i f) count)

pub line_le : (f : List ℕ) (at : ℕ) → length (line_at at f) ≤ length f - at
line_le f at = omega (arith, place_le lf (drop at f), length-drop at f)

pub line_short : (f l : List ℕ) (at : ℕ) → l ≡ line_at at f → at < length f → at + length l ≤ length f
line_short f l at e h = omega (arith, line_le f at, ap length e)

-- ---- where each starts

pub placed_step : (f : List ℕ) (at : ℕ) → at < length f
    → placed_at at f ≡ record { offset = at; line = line_at at f } ∷ placed_at (next at f) f
placed_step f at h = ap (placed_from at) (lines_at f at h)

pub placed_end : (f : List ℕ) (at : ℕ) → length f ≤ at → placed_at at f ≡ []
placed_end f at h = ap (placed_from at) (no_lines f at h)

-- a file has no more lines than octets
lines_le : (f : List ℕ) → length (lines f) ≤ length f
unfolding lines
lines_le [] = omega arith
lines_le (x ∷ f) = which (eqb x lf) (lines f) (lines_le f)
  where
    which : (b : Bool) (ls : List (List ℕ)) → length ls ≤ length f
        → length (cond b ([] ∷ ls) (with_first x ls)) ≤ length (x ∷ f)
    which true ls h = omega arith
    which false [] h = omega arith
    which false (l ∷ ls) h = omega arith

placed_length : (at : ℕ) (ls : List (List ℕ)) → length (placed_from at ls) ≡ length ls
placed_length at [] = refl
placed_length at (l ∷ ls) = ap suc (placed_length (at + length l + 1) ls)

pub placed_le : (f : List ℕ) → length (placed_from 0 (lines f)) ≤ length f
placed_le f = omega (arith, placed_length 0 (lines f), lines_le f)

-- P holds of each
abbrev pub All : (Placed → Type 0) → List Placed → Type 0
All P [] = Unit {0}
All P (x ∷ xs) = P x × All P xs

-- a line starts within the file, at its offset
pub record Stands (f : List ℕ) (x : Placed) : Type 0 where
  pub within : x.offset < length f
  pub there : line_at x.offset f ≡ x.line

pub stand : (n : ℕ) (f : List ℕ) (at : ℕ) → length f ≤ at + n → All (Stands f) (placed_at at f)
stand zero f at h = rw (placed_end f at (omega arith)) tt
stand (suc n) f at h = which (ltb at (length f)) refl (stand n f (next at f) (omega arith))
  where
    which : (b : Bool) → ltb at (length f) ≡ b → All (Stands f) (placed_at (next at f) f) → All (Stands f) (placed_at at f)
    which true e rest =
        let k : at < length f = ltb-true at (length f) e in
        subst (All (Stands f)) (sym (placed_step f at k)) (record { within = k; there = refl }, rest)
    which false e rest = subst (All (Stands f)) (sym (placed_end f at (ltb-false at (length f) e))) tt

-- every line of the file
pub stands : (f : List ℕ) → All (Stands f) (placed_from 0 (lines f))
stands f = stand (length f) f 0 (omega arith)

-- ---- selected

module _ (test : List ℕ → Bool) where
  -- what holds of all holds of those selected, with the test
  pub selected : (P : Placed → Type 0) (xs : List Placed) → All P xs → All (λ x. P x × (test x.line ≡ true)) (select test xs)
  selected P [] h = tt
  selected P (x ∷ xs) h = which (test x.line) refl (selected P xs h.1)
    where
      Both : Placed → Type 0
      Both y = P y × (test y.line ≡ true)

      which : (b : Bool) → test x.line ≡ b → All Both (select test xs) → All Both (cond b (x ∷ select test xs) (select test xs))
      which true e rest = ((h.0, e), rest)
      which false e rest = rest

-- where none fails a test, all pass it
pub none_fails : (test : List ℕ → Bool) (xs : List Placed) → select (λ l. not (test l)) xs ≡ []
    → All (λ x. test x.line ≡ true) xs
none_fails test [] e = tt
none_fails test (x ∷ xs) e = which (test x.line) refl e (none_fails test xs)
  where
    which : (b : Bool) → test x.line ≡ b
        → cond (not b) (x ∷ select (λ l. not (test l)) xs) (select (λ l. not (test l)) xs) ≡ []
        → (select (λ l. not (test l)) xs ≡ [] → All (λ y. test y.line ≡ true) xs)
        → (test x.line ≡ true) × All (λ y. test y.line ≡ true) xs
    which true p q rest = (p, rest q)
    which false p q rest = absurd (omega (arith, ap length q))

-- two at once
pub all_both : (P Q : Placed → Type 0) (xs : List Placed) → All P xs → All Q xs → All (λ x. P x × Q x) xs
all_both P Q [] p q = tt
all_both P Q (x ∷ xs) p q = ((p.0, q.0), all_both P Q xs p.1 q.1)

pub all_first : (P Q : Placed → Type 0) (xs : List Placed) → All (λ x. P x × Q x) xs → All P xs
all_first P Q [] h = tt
all_first P Q (x ∷ xs) h = (h.0.0, all_first P Q xs h.1)
