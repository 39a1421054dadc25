-- A file in which one line gave way to another of the same length: its lines are the same but for
-- that one.
-- Assumes nothing.
use mathlib.Core.Bool.{Bool, true, false, cond, ◌||◌}
use mathlib.Core.List.{List, [], ◌∷◌, ◌++◌, map, append_assoc, append-nil}
use mathlib.Core.Logic.{◌⊎◌, inl, inr}
use mathlib.Core.Path.{◌≡◌, refl, sym, ap, ap₂, ◌∙◌, subst}
use Prim.Native.Nat.{ℕ, zero, suc, ◌+◌, ◌-◌, ◌≤◌, ◌<◌}
use native.Mathlib.Omega.{arith}
use borrow.Author.Tests.{eq-eqb, ne_eqb, eqb-true, eqb-false, ltb-true, ltb-false}
use lib.Dec.{eqb, ltb}
use lib.ListN.{length, take, drop, length-append, length-drop}
use lib.Seq.{take_at, drop_at, drop-drop, drop-append-le, length-take-le}
use Rattle.octets.specs.Split.{holds, before, behind}
use Rattle.octets.proofs.Parts.{drop_take}
use Rattle.octets.proofs.Split.{place, cut, whole}
use Rattle.smbpasswd.specs.Line.{lf}
use Rattle.smbpasswd.specs.File.{lines, Placed, placed_from, select, line_at}
use Rattle.smbpasswd.specs.Write.{with_line}
use Rattle.smbpasswd.specs.Inner.{placed_at}
use Rattle.smbpasswd.proofs.LineLaws.{next, placed_step, placed_end, All, Stands, line_le}

-- ---- offsets

-- a line of the list starts at an offset
abbrev pub Starts : ℕ → List Placed → Type 0
Starts at [] = ⊥
Starts at (x ∷ xs) = (x.offset ≡ at) ⊎ Starts at xs

pub selected_starts : (test : List ℕ → Bool) (at : ℕ) (xs : List Placed) → Starts at (select test xs) → Starts at xs
selected_starts test at [] h = h
selected_starts test at (x ∷ xs) h = which (test x.line) h (selected_starts test at xs)
  where
    which : (b : Bool) → Starts at (cond b (x ∷ select test xs) (select test xs)) → (Starts at (select test xs) → Starts at xs)
        → (x.offset ≡ at) ⊎ Starts at xs
    which true (inl e) rest = inl e
    which true (inr s) rest = inr (rest s)
    which false s rest = inr (rest s)

-- none is before the first
not_before : (at k : ℕ) (ls : List (List ℕ)) → Starts at (placed_from k ls) → k ≤ at
not_before at k [] h = absurd h
not_before at k (l ∷ ls) (inl e) = omega (arith, e)
not_before at k (l ∷ ls) (inr s) = omega (arith, not_before at (k + length l + 1) ls s)

-- ---- the first line of a list that goes on otherwise behind it

front_line : (c k : ℕ) (d r : List ℕ) → place c d < k → k ≤ length d → before c (take k d ++ r) ≡ before c d
front_line c zero d r h b = absurd (omega (arith, h))
front_line c (suc k) [] r h b = absurd (omega (arith, b))
front_line c (suc k) (x ∷ d) r h b = which (eqb x c) refl h (front_line c k d r)
  where
    which : (t : Bool) → eqb x c ≡ t → length (cond t [] (x ∷ before c d)) < suc k
        → (place c d < k → k ≤ length d → before c (take k d ++ r) ≡ before c d)
        → cond t [] (x ∷ before c (take k d ++ r)) ≡ cond t [] (x ∷ before c d)
    which true e g rest = refl
    which false e g rest = ap (λ (l : List ℕ). x ∷ l) (rest (omega (arith, g)) (omega (arith, b)))

-- ---- one line for another

module _ (f : List ℕ) (at : ℕ) (new : List ℕ) (within : at < length f) (long : length new ≡ length (line_at at f)) (one : holds lf new ≡ false) where
  abbrev pub file : List ℕ
  file = with_line at new f

  -- what stands behind the line
  abbrev rest : List ℕ
  rest = drop (at + length (line_at at f)) f

  front_long : length (take at f) ≡ at
  front_long = length-take-le at f (omega arith)

  pub file_length : length file ≡ length f
  file_length =
      length-append (take at f) (new ++ rest)
      ∙ ap₂ ◌+◌ front_long (length-append new rest ∙ ap₂ ◌+◌ long (length-drop (at + length (line_at at f)) f))
      ∙ omega (arith, line_le f at)

  -- before and behind the line all is as it was
  pub before_same : take at file ≡ take at f
  before_same = take_at (take at f) (new ++ rest) at front_long

  pub behind_same : (s : ℕ) → at + length (line_at at f) ≤ s → drop s file ≡ drop s f
  behind_same s h =
      let k = s - (at + length (line_at at f)) in
      let e : s ≡ at + length (line_at at f) + k = omega arith in
      let front : length (take at f ++ new) ≡ at + length (line_at at f) = length-append (take at f) new ∙ ap₂ ◌+◌ front_long long in
      ap (λ (i : ℕ). drop i file) e ∙ sym (drop-drop k (at + length (line_at at f)) file)
      ∙ ap (drop k) (ap (drop (at + length (line_at at f))) (sym (append_assoc (take at f) new rest))
      ∙ drop_at (take at f ++ new) rest (at + length (line_at at f)) front)
      ∙ drop-drop k (at + length (line_at at f)) f ∙ ap (λ (i : ℕ). drop i f) (sym e)

  -- the line itself
  there : drop at file ≡ new ++ rest
  there = drop_at (take at f) (new ++ rest) at front_long

  -- what follows a line is nothing, or begins with LF
  after_line : (d : List ℕ) → drop (place lf d) d ≡ cond (holds lf d) (lf ∷ behind lf d) []
  after_line [] = refl
  after_line (x ∷ d) = which (eqb x lf) refl (after_line d)
    where
      which : (t : Bool) → eqb x lf ≡ t → drop (place lf d) d ≡ cond (holds lf d) (lf ∷ behind lf d) []
          → drop (length (cond t [] (x ∷ before lf d))) (x ∷ d) ≡ cond (t || holds lf d) (lf ∷ cond t d (behind lf d)) []
      which true e g = ap (λ (y : ℕ). y ∷ d) (eqb-true x lf e)
      which false e g = g

  pub new_there : line_at at file ≡ new
  new_there = ap (before lf) there ∙ by (holds lf (drop at f)) (sym (drop-drop (length (line_at at f)) at f) ∙ after_line (drop at f))
    where
      by : (b : Bool) → rest ≡ cond b (lf ∷ behind lf (drop at f)) [] → before lf (new ++ rest) ≡ new
      by true e = ap (λ (r : List ℕ). before lf (new ++ r)) e ∙ (cut lf new (behind lf (drop at f)) one).before_it
      by false e = ap (λ (r : List ℕ). before lf (new ++ r)) e ∙ ap (before lf) (append-nil new) ∙ (whole lf new one).0

  -- a line before it
  pub other_there : (s : ℕ) → next s f ≤ at → line_at s file ≡ line_at s f
  other_there s h =
      let k = at - s in
      let d = drop s f in
      let e : drop s file ≡ take k d ++ (new ++ rest) =
      drop-append-le s (take at f) (new ++ rest) (omega (arith, front_long))
      ∙ ap (λ (x : List ℕ). x ++ (new ++ rest)) (drop_take s at f (omega (arith, front_long))) in
      ap (before lf) e ∙ front_line lf k d (new ++ rest) (omega arith) (omega (arith, length-drop s f))

  -- ---- all lines

  abbrev pub swap : Placed → Placed
  swap x = cond (eqb x.offset at) (record { offset = x.offset; line = new }) x

  pub swap_here : (x : Placed) → x.offset ≡ at → swap x ≡ record { offset = x.offset; line = new }
  swap_here x e = ap (λ (t : Bool). cond {A = Placed} t (record { offset = x.offset; line = new }) x) (eq-eqb x.offset at e)

  pub swap_other : (x : Placed) → (x.offset ≡ at → ⊥) → swap x ≡ x
  swap_other x n = ap (λ (t : Bool). cond {A = Placed} t (record { offset = x.offset; line = new }) x) (ne_eqb x.offset at n)

  swap_later : (k : ℕ) (ls : List (List ℕ)) → at < k → map swap (placed_from k ls) ≡ placed_from k ls
  swap_later k [] h = refl
  swap_later k (l ∷ ls) h =
      ap₂ (λ (x : Placed) (xs : List Placed). x ∷ xs) (swap_other (record { offset = k; line = l }) (λ e. omega (arith, h, e)))
      (swap_later (k + length l + 1) ls (omega arith))

  -- the lines behind it
  later : (s : ℕ) → next at f ≤ s → placed_at s file ≡ map swap (placed_at s f)
  later s h =
      ap (λ (d : List ℕ). placed_from s (lines d)) (behind_same s (omega arith)) ∙ sym (swap_later s (lines (drop s f)) (omega arith))

  swapped : (n s : ℕ) → length f ≤ s + n → Starts at (placed_at s f) → placed_at s file ≡ map swap (placed_at s f)
  swapped zero s h st = absurd (subst (Starts at) (placed_end f s (omega arith)) st)
  swapped (suc n) s h st = which (ltb s (length f)) refl (swapped n (next s f) (omega arith))
    where
      -- the line itself
      here : s < length f → s ≡ at → placed_at s file ≡ map swap (placed_at s f)
      here k e =
          let ends : next at file ≡ next at f = ap (λ (m : ℕ). at + m + 1) (ap length new_there ∙ long) in
          ap (λ (i : ℕ). placed_at i file) e ∙ placed_step file at (omega (arith, file_length))
          ∙ ap₂ (λ (l : List ℕ) (xs : List Placed). record { offset = at; line = l } ∷ xs) new_there
          (ap (λ (i : ℕ). placed_at i file) ends ∙ later (next at f) (omega arith))
          ∙ ap (λ (x : Placed). x ∷ map swap (placed_at (next at f) f)) (sym (swap_here (record { offset = at; line = line_at at f }) refl))
          ∙ sym (ap (map swap) (ap (λ (i : ℕ). placed_at i f) e ∙ placed_step f at within))

      -- a line before it
      other : s < length f → Starts at (placed_at (next s f) f) → placed_at (next s f) file ≡ map swap (placed_at (next s f) f)
          → placed_at s file ≡ map swap (placed_at s f)
      other k more rest-same =
          let past = not_before at (next s f) (lines (drop (next s f) f)) more in
          let line = other_there s past in
          let ends : next s file ≡ next s f = ap (λ (l : List ℕ). s + length l + 1) line in
          placed_step file s (omega (arith, file_length))
          ∙ ap₂ (λ (l : List ℕ) (xs : List Placed). record { offset = s; line = l } ∷ xs) line (ap (λ (i : ℕ). placed_at i file) ends ∙ rest-same)
          ∙ ap (λ (x : Placed). x ∷ map swap (placed_at (next s f) f))
          (sym (swap_other (record { offset = s; line = line_at s f }) (λ z. omega (arith, z, past))))
          ∙ sym (ap (map swap) (placed_step f s k))

      which : (b : Bool) → ltb s (length f) ≡ b → (Starts at (placed_at (next s f) f) → placed_at (next s f) file ≡ map swap (placed_at (next s f) f))
          → placed_at s file ≡ map swap (placed_at s f)
      which false e rest-same = absurd (subst (Starts at) (placed_end f s (ltb-false s (length f) e)) st)
      which true e rest-same = by (subst (Starts at) (placed_step f s (ltb-true s (length f) e)) st)
        where
          by : (s ≡ at) ⊎ Starts at (placed_at (next s f) f) → placed_at s file ≡ map swap (placed_at s f)
          by (inl z) = here (ltb-true s (length f) e) z
          by (inr more) = other (ltb-true s (length f) e) more (rest-same more)

  pub all_swapped : Starts at (placed_from 0 (lines f)) → placed_from 0 (lines file) ≡ map swap (placed_from 0 (lines f))
  all_swapped st = swapped (length f) 0 (omega arith) st

  -- ---- selected

  -- the test says the same of the new line as of the old
  pub select_swapped : (test : List ℕ → Bool) (xs : List Placed) → All (Stands f) xs → test (line_at at f) ≡ test new
      → select test (map swap xs) ≡ map swap (select test xs)
  select_swapped test [] st e = refl
  select_swapped test (x ∷ xs) st e = which (eqb x.offset at) refl (select_swapped test xs st.1 e)
    where
      rest_of : List Placed
      rest_of = select test xs

      tests : (swap x).offset ≡ x.offset → test (swap x).line ≡ test x.line → select test (map swap xs) ≡ map swap rest_of
          → cond (test (swap x).line) (swap x ∷ select test (map swap xs)) (select test (map swap xs))
          ≡ map swap (cond (test x.line) (x ∷ rest_of) rest_of)
      tests o t same = ap₂ (λ (b : Bool) (ys : List Placed). cond b (swap x ∷ ys) ys) t same ∙ by (test x.line)
        where
          by : (b : Bool) → cond b (swap x ∷ map swap rest_of) (map swap rest_of) ≡ map swap (cond b (x ∷ rest_of) rest_of)
          by true = refl
          by false = refl

      which : (b : Bool) → eqb x.offset at ≡ b → select test (map swap xs) ≡ map swap rest_of
          → select test (map swap (x ∷ xs)) ≡ map swap (select test (x ∷ xs))
      which true z same =
          let o = eqb-true x.offset at z in
          tests (ap (λ (y : Placed). y.offset) (swap_here x o))
          (ap (λ (y : Placed). test y.line) (swap_here x o) ∙ sym e ∙ ap test (ap (λ (i : ℕ). line_at i f) (sym o) ∙ st.0.there)) same
      which false z same =
          let o = swap_other x (eqb-false x.offset at z) in
          tests (ap (λ (y : Placed). y.offset) o) (ap (λ (y : Placed). test y.line) o) same
