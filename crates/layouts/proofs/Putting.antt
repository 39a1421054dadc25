-- Pieces that are put into room for an encoding, one behind the other.
-- Assumes nothing.
use mathlib.Core.Path.{◌≡◌, refl, ap, ap₂, ◌∙◌}
use mathlib.Core.Bool.{Bool}
use mathlib.Core.List.{List, ◌++◌}
use Prim.Native.Nat.{ℕ, suc, ◌+◌, ◌≤◌}
use native.Mathlib.Omega.{arith}
use lib.ListN.{length, take, drop, replicate, length-append, length-replicate}
use lib.Seq.{take_at}
use Rattle.octets.specs.Parts.{part, over_at, agrees}
use Rattle.octets.proofs.Parts.{over_fits}
use Rattle.octets.proofs.Laid.{join}
use Rattle.layouts.specs.Call.{Fills, sized}
use Rattle.layouts.specs.Values.{tagged}
use Rattle.layouts.specs.Inner.{room_size, in_room}
use Rattle.layouts.proofs.Filling.{filled_with}

-- xs, of n bytes, lies over l from the place at on
pub record Put (at : ℕ) (l xs : List ℕ) (n : ℕ) (b : List ℕ) : Type 0 where
  pub long : length xs ≡ n
  pub same : b ≡ over_at at xs l

pub first : (at : ℕ) (l xs : List ℕ) (n : ℕ) {b : List ℕ} → length xs ≡ n → b ≡ over_at at xs l
    → Put at l xs n b
first at l xs n e f = record { long = e; same = f }

pub next : {at : ℕ} {l xs b c : List ℕ} {n : ℕ} → Put at l xs n b → (ys : List ℕ) (k : ℕ)
    → length ys ≡ k → c ≡ over_at (at + n) ys b → Put at l (xs ++ ys) (n + k) c
next {at} {l} {xs} {b} {c} {n} s ys k e f =
    record {
      long = length-append xs ys ∙ ap₂ (λ (i j : ℕ). i + j) s.long e;
      same = join at xs ys l s.long s.same f;
    }

pub last : {at : ℕ} {l xs b c : List ℕ} {n : ℕ} → Put at l xs n b → (ys : List ℕ)
    → c ≡ over_at (at + n) ys b → c ≡ over_at at (xs ++ ys) l
last {at} {l} {xs} s ys f = join at xs ys l s.long s.same f

-- a body of n bytes that was put into room, behind kind and version
pub front : (kind n : ℕ) (xs : List ℕ) {b : List ℕ} → length xs ≡ n → n ≤ room_size → b ≡ in_room xs
    → part 0 (suc (suc n)) (tagged kind b) ≡ tagged kind xs
front kind n xs e h f =
    let fits : length xs ≤ length (replicate {A = ℕ} room_size 0) =
    omega (arith, length-replicate {A = ℕ} room_size 0) in
    ap (tagged kind)
    (ap (take n) (f ∙ over_fits xs (replicate room_size 0) fits)
    ∙ take_at xs (drop (length xs) (replicate room_size 0)) n e)

-- ---- a value of a kind, whose body of n bytes was put into room

module _ (kind n : ℕ) (fits : n ≤ room_size) (body : List ℕ) (long : length body ≡ n) {b : List ℕ}
    (put : b ≡ in_room body) where
  -- bytes are compared with it
  pub compared : (bytes : List ℕ) {r : Bool}
      → r ≡ agrees (part 0 (suc (suc n)) (tagged kind b)) bytes
      → r ≡ agrees (tagged kind body) bytes
  compared bytes e = e ∙ ap (λ (l : List ℕ). agrees l bytes) (front kind n body long fits put)

  -- a buffer is filled with it
  pub filled : {k r : ℕ} {out after : List ℕ}
      → Fills (sized (length (part 0 (suc (suc n)) (tagged kind b))) out) k
      (part 0 (suc (suc n)) (tagged kind b)) out r after
      → Fills (sized (suc (suc n)) out) k (tagged kind body) out r after
  filled h =
      let value = front kind n body long fits put in
      filled_with (ap length value ∙ ap (λ (i : ℕ). suc (suc i)) long) value refl h
