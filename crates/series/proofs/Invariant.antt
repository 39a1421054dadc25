-- Courses: one law of a step carries a claim along a whole course, and one law of a step bounds a
-- sum over it.
-- Assumes nothing.
use mathlib.Core.List.{List, [], ◌∷◌, ◌++◌}
use mathlib.Core.Path.{◌≡◌, refl}
use Prim.Native.Nat.{ℕ, ◌+◌, ◌≤◌}
use native.Mathlib.Omega.{arith}
use lib.ListN.{length, length-append}
use Rattle.series.specs.Course.{collect, end, Along, total}

-- An invariant of box and peer: at a place that is ready for the packets that are due, an allowed
-- step does what is claimed of it, as many packets are judged as it takes of those, and the place
-- after it is ready for the rest.
pub record Invariant {S M K : Type 0} (next : S → M → S) (kinds : M → List K) (judged : S → M → ℕ)
    (Allowed Claimed : S → M → Type 0) : Type 1 where
  pub Ready : List K → S → Type 0
  pub law : (due : List K) (s : S) (m : M) → Ready (kinds m ++ due) s → Allowed s m
      → Claimed s m × (judged s m ≡ length (kinds m)) × Ready due (next s m)

module _ {S M K : Type 0} {next : S → M → S} {kinds : M → List K} {judged : S → M → ℕ}
    {Allowed Claimed : S → M → Type 0}
    (I : Invariant next kinds judged Allowed Claimed) where
  pub whole : (s : S) (ms : List M) → I.Ready (collect kinds ms) s → Along next Allowed s ms
      → Along next Claimed s ms × (total next judged s ms ≡ length (collect kinds ms))
      × I.Ready [] (end next s ms)
  whole s [] r h = (tt, refl, r)
  whole s (m ∷ ms) r h =
      let x = I.law (collect kinds ms) s m r h.0 in
      let y = whole (next s m) ms x.2 h.1 in
      ((x.0, y.0), omega (arith, x.1, y.1, length-append (kinds m) (collect kinds ms)), y.2)

-- what each step uses up of the rest, where something holds from the start and every step keeps it
pub within : {S M : Type 0} (next : S → M → S) (f : S → M → ℕ) (rest : S → ℕ) (I : S → Type 0)
    → ((s : S) (m : M) → I s → I (next s m))
    → ((s : S) (m : M) → I s → f s m + rest (next s m) ≤ rest s)
    → (s : S) → I s → (ms : List M) → total next f s ms ≤ rest s
within next f rest I keep h s i [] = omega arith
within next f rest I keep h s i (m ∷ ms) =
    let l = within next f rest I keep h (next s m) (keep s m i) ms in
    omega (arith, h s m i)

-- a course in two parts
pub end_behind : {S M : Type 0} (next : S → M → S) (s : S) (ms ns : List M)
    → end next s (ms ++ ns) ≡ end next (end next s ms) ns
end_behind next s [] ns = refl
end_behind next s (m ∷ ms) ns = end_behind next (next s m) ms ns

-- what holds along a course holds along its first steps
pub along_before : {S M : Type 0} (next : S → M → S) (P : S → M → Type 0) (s : S) (ms ns : List M)
    → Along next P s (ms ++ ns) → Along next P s ms
along_before next P s [] ns h = tt
along_before next P s (m ∷ ms) ns h = (h.0, along_before next P (next s m) ms ns h.1)

-- what holds along a course holds along what is behind some of its steps
pub along_behind : {S M : Type 0} (next : S → M → S) (P : S → M → Type 0) (s : S) (ms ns : List M)
    → Along next P s (ms ++ ns) → Along next P (end next s ms) ns
along_behind next P s [] ns h = h
along_behind next P s (m ∷ ms) ns h = along_behind next P (next s m) ms ns h.1

-- what then holds of any step holds along any course
pub along_any : {S M : Type 0} (next : S → M → S) (P : S → M → Type 0) (I : S → Type 0)
    → ((s : S) (m : M) → I s → I (next s m)) → ((s : S) (m : M) → I s → P s m)
    → (s : S) → I s → (ms : List M) → Along next P s ms
along_any next P I keep h s i [] = tt
along_any next P I keep h s i (m ∷ ms) =
    (h s m i, along_any next P I keep h (next s m) (keep s m i) ms)

-- and holds at its end
pub end_keeps : {S M : Type 0} (next : S → M → S) (I : S → Type 0)
    → ((s : S) (m : M) → I s → I (next s m)) → (s : S) → I s → (ms : List M) → I (end next s ms)
end_keeps next I keep s i [] = i
end_keeps next I keep s i (m ∷ ms) = end_keeps next I keep (next s m) (keep s m i) ms
