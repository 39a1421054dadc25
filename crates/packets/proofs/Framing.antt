-- Laws of the frame. What is framed is found again, with any padding t behind it, and a good frame
-- is what it frames.
-- Assumes nothing.
use mathlib.Core.Path.{◌≡◌, refl, sym, ap, ◌∙◌}
use mathlib.Core.Bool.{Bool, true, false, ◌||◌, false≢true}
use mathlib.Core.List.{List, [], ◌∷◌, ◌++◌}
use Prim.Native.Nat.{ℕ, zero, suc, ◌+◌, ◌-◌, ◌≤◌, ◌<◌}
use native.Mathlib.Nat.{mod-eq_of_lt}
use native.Mathlib.Omega.{arith}
use borrow.Author.Tests.{le-ltb, ltb-false}
use lib.Dec.{ltb}
use lib.ListN.{length, take, drop, length-append}
use lib.Seq.{take_at, drop_at, drop-drop, drop-cons}
use Rattle.octets.specs.Parts.{part}
use Rattle.octets.specs.Numbers.{to_be}
use Rattle.octets.proofs.Parts.{length_part, part_join}
use Rattle.octets.proofs.Numbers.{from_be-to_be, to_be-from_be, Octets}
use Rattle.octets.proofs.Listed.{part_written}
use Rattle.packets.specs.Frame.{octet, length_of, framed, bad_frame, data_of}

-- ---- parts of a packet, one behind the other

-- a field x of k octets at the place a, and where the next begins
pub field : (p : List ℕ) (a k : ℕ) (x rest : List ℕ) → drop a p ≡ x ++ rest → length x ≡ k → (part a k p ≡ x) × (drop (a + k) p ≡ rest)
field p a k x rest e h =
    (ap (take k) e ∙ take_at x rest k h, sym (drop-drop k a p) ∙ ap (drop k) e ∙ drop_at x rest k h)

-- an octet and the part behind it
pub octet_join : (a j : ℕ) (p : List ℕ) → a < length p → octet a p ∷ part (suc a) j p ≡ part a (suc j) p
octet_join a j p h = ap (take (suc j)) (sym (drop-cons p a 0 h))

-- ---- what is framed

pub record Framed (k i : ℕ) (d p : List ℕ) : Type 0 where
  pub good : bad_frame p ≡ false
  pub code : octet 0 p ≡ k
  pub id : octet 1 p ≡ i
  pub long : length_of p ≡ 4 + length d
  pub body : data_of p ≡ d

pub frame_good : (code id : ℕ) (d t : List ℕ) → 4 + length d < 65536 → Framed code id d (framed code id d ++ t)
frame_good code id d t h =
    record {
      good = simp (le-ltb (length p) 4 (omega arith), le-ltb (length_of p) 4 (omega arith), le-ltb (length p) (length_of p) (omega (arith, length-append d t)));
      code = refl;
      id = refl;
      long = long;
      body = ap (λ (n : ℕ). take n (d ++ t)) rest ∙ take_at d t (length d) refl;
    }
  where
    p : List ℕ
    p = framed code id d ++ t

    long : length_of p ≡ 4 + length d
    long = from_be-to_be 2 (4 + length d) ∙ mod-eq_of_lt h

    rest : length_of p - 4 ≡ length d
    rest = omega (arith, long)

-- ---- a good frame

pub record Bounds (p : List ℕ) : Type 0 where
  pub four : 4 ≤ length p
  pub least : 4 ≤ length_of p
  pub most : length_of p ≤ length p

pub frame_bounds : (p : List ℕ) → bad_frame p ≡ false → Bounds p
frame_bounds p e = by (ltb (length p) 4) (ltb (length_of p) 4) (ltb (length p) (length_of p)) refl refl refl e
  where
    by : (a b c : Bool) → ltb (length p) 4 ≡ a → ltb (length_of p) 4 ≡ b → ltb (length p) (length_of p) ≡ c → (a || (b || c)) ≡ false → Bounds p
    by true b c e f g h = absurd (false≢true (sym h))
    by false true c e f g h = absurd (false≢true (sym h))
    by false false true e f g h = absurd (false≢true (sym h))
    by false false false e f g h =
        record { four = ltb-false (length p) 4 e; least = ltb-false (length_of p) 4 f; most = ltb-false (length p) (length_of p) g }

pub two : (p : List ℕ) → Octets p → (i j : ℕ) → Octets (octet i p ∷ octet j p ∷ [])
two p o i j zero = o i
two p o i j (suc zero) = o j
two p o i j (suc (suc k)) = omega arith

-- it frames its data
pub frame_back : (p : List ℕ) → bad_frame p ≡ false → Octets p → framed (octet 0 p) (octet 1 p) (data_of p) ≡ take (length_of p) p
frame_back p e o =
    ap (λ (n : ℕ). octet 0 p ∷ octet 1 p ∷ (to_be 2 n ++ data_of p)) long
    ∙ ap (λ (l : List ℕ). octet 0 p ∷ octet 1 p ∷ (l ++ data_of p)) (to_be-from_be (octet 2 p ∷ octet 3 p ∷ []) (two p o 2 3))
    ∙ ap (λ (l : List ℕ). l ++ data_of p) (sym (part_written 4 0 p four)) ∙ part_join 0 4 (length_of p - 4) p ∙ ap (λ (n : ℕ). take n p) all
  where
    b : Bounds p
    b = frame_bounds p e

    four : 0 + 4 ≤ length p
    four = omega (arith, b.four)

    long : 4 + length (data_of p) ≡ length_of p
    long = omega (arith, b.least, b.most, length_part 4 (length_of p - 4) p (omega (arith, b.least, b.most)))

    all : 4 + (length_of p - 4) ≡ length_of p
    all = omega (arith, b.least)
