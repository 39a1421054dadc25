-- What is read is what stands at those octets, and written again it is the packet up to its Length.
-- Assumes nothing.
use mathlib.Core.Path.{◌≡◌, refl, sym, ap, ap₂, ◌∙◌}
use mathlib.Core.Bool.{Bool, true, false, cond, not, ◌||◌}
use mathlib.Core.List.{List, [], ◌∷◌, ◌++◌}
use Prim.Native.Nat.{ℕ, suc, ◌+◌, ◌-◌, ◌≤◌}
use native.Mathlib.Omega.{arith}
use borrow.Author.Tests.{ltb-false, eqb-true}
use lib.Dec.{eqb, ltb}
use lib.ListN.{length, take}
use Rattle.octets.specs.Parts.{part}
use Rattle.octets.specs.Numbers.{to_be}
use Rattle.octets.proofs.Parts.{fixed_part, part_join}
use Rattle.octets.proofs.Numbers.{to_be-from_be, Octets}
use Rattle.octets.proofs.Listed.{part_written}
use Rattle.packets.specs.Frame.{octet, number_at, length_of, framed, bad_frame}
use Rattle.packets.specs.Response.{response_packet, read_response, read_name, response_refusal}
use Rattle.packets.specs.Change.{change_packet, read_change, change_refusal}
use Rattle.packets.specs.ChangeOne.{change_one_packet, read_change_one, change_one_refusal}
use Rattle.packets.proofs.Framing.{frame_bounds, frame_back, octet_join, two}

-- a number's two octets
number_stands : (p : List ℕ) → Octets p → (a : ℕ) → a + 2 ≤ length p → to_be 2 (number_at a p) ≡ part a 2 p
number_stands p o a h =
    let next : a + 1 ≡ suc a = omega arith in
    to_be-from_be (octet a p ∷ octet (a + 1) p ∷ []) (two p o a (a + 1)) ∙ ap (λ (i : ℕ). octet a p ∷ octet i p ∷ []) next ∙ sym (part_written 2 a p h)

-- ---- Response

pub record ResponseFit (p : List ℕ) : Type 0 where
  pub least : 55 ≤ length_of p
  pub most : length_of p ≤ 310
  pub size : octet 4 p ≡ 49
  pub flag : octet 53 p ≤ 1

pub response_fit : (p : List ℕ) → response_refusal p ≡ 0 → ResponseFit p
unfolding response_refusal
response_fit p e = by (ltb (length_of p) 55) (ltb 310 (length_of p)) (eqb (octet 4 p) 49) (ltb 1 (octet 53 p)) refl refl refl refl e
  where
    by : (a b c d : Bool) → ltb (length_of p) 55 ≡ a → ltb 310 (length_of p) ≡ b → eqb (octet 4 p) 49 ≡ c → ltb 1 (octet 53 p) ≡ d
        → ◌≡◌ {A = ℕ} (cond (a || (b || not c)) 6 (cond d 7 0)) 0 → ResponseFit p
    by true b c d e f g h k = absurd (omega (arith, k))
    by false true c d e f g h k = absurd (omega (arith, k))
    by false false false d e f g h k = absurd (omega (arith, k))
    by false false true true e f g h k = absurd (omega (arith, k))
    by false false true false e f g h k =
        record { least = ltb-false (length_of p) 55 e; most = ltb-false 310 (length_of p) f; size = eqb-true (octet 4 p) 49 g; flag = ltb-false 1 (octet 53 p) h }

module _ (p : List ℕ) (good : bad_frame p ≡ false) (fit : response_refusal p ≡ 0) where
  pub response_stands : ((read_response p).lm ≡ part 5 24 p) × ((read_response p).nt ≡ part 29 24 p)
  response_stands =
      let b = frame_bounds p good in
      let f = response_fit p fit in
      (fixed_part 5 24 p (omega arith), fixed_part 29 24 p (omega arith))

  pub response_again : octet 0 p ≡ 2 → Octets p → response_packet (octet 1 p) (read_response p) (read_name p) ≡ take (length_of p) p
  unfolding response_packet
  response_again code o =
      let b = frame_bounds p good in
      let f = response_fit p fit in
      let k = length_of p - 54 in
      let fields = ap₂ (λ (x y : List ℕ). framed 2 (octet 1 p) (49 ∷ (x ++ (y ++ (octet 53 p ∷ read_name p))))) response_stands.0 response_stands.1 in
      let name = octet_join 53 k p (omega arith) in
      let nt = ap (λ (x : List ℕ). part 29 24 p ++ x) name ∙ part_join 29 24 (suc k) p in
      let lm = ap (λ (x : List ℕ). part 5 24 p ++ x) nt ∙ part_join 5 24 (24 + suc k) p in
      let size = ap₂ (λ (n : ℕ) (x : List ℕ). n ∷ x) (sym f.size) lm ∙ octet_join 4 (24 + (24 + suc k)) p (omega arith) in
      let count : suc (24 + (24 + suc k)) ≡ length_of p - 4 = omega arith in
      fields ∙ ap₂ (λ (n : ℕ) (x : List ℕ). framed n (octet 1 p) x) (sym code) (size ∙ ap (λ (n : ℕ). part 4 n p) count) ∙ frame_back p good o

-- ---- Change Password

-- a change that draws neither 6 nor 7 has the Length of its version, and no flag over its highest
body_fit : (size most n flags : ℕ) → ◌≡◌ {A = ℕ} (cond (not (eqb n size)) 6 (cond (ltb most flags) 7 0)) 0
    → (n ≡ size) × (flags ≤ most)
body_fit size most n flags = by (eqb n size) (ltb most flags) refl refl
  where
    by : (a b : Bool) → eqb n size ≡ a → ltb most flags ≡ b → ◌≡◌ {A = ℕ} (cond (not a) 6 (cond b 7 0)) 0
        → (n ≡ size) × (flags ≤ most)
    by false b e f g = absurd (omega (arith, g))
    by true true e f g = absurd (omega (arith, g))
    by true false e f g = (eqb-true n size e, ltb-false most flags f)

pub change_fit : (p : List ℕ) → change_refusal p ≡ 0 → (length_of p ≡ 1118) × ((read_change p).flags ≤ 3)
unfolding change_refusal
change_fit p e = body_fit 1118 3 (length_of p) (read_change p).flags e

pub record ChangeStands (p : List ℕ) : Type 0 where
  pub block : (read_change p).block ≡ part 4 516 p
  pub verifier : (read_change p).verifier ≡ part 520 16 p
  pub lmblock : (read_change p).lmblock ≡ part 536 516 p
  pub lmverifier : (read_change p).lmverifier ≡ part 1052 16 p
  pub lm : (read_change p).lm ≡ part 1068 24 p
  pub nt : (read_change p).nt ≡ part 1092 24 p

module _ (p : List ℕ) (good : bad_frame p ≡ false) (fit : change_refusal p ≡ 0) where
  long : 1118 ≤ length p
  long = let b = frame_bounds p good in let f = change_fit p fit in omega arith

  pub change_stands : ChangeStands p
  change_stands =
      let h = long in
      record {
        block = fixed_part 4 516 p (omega arith);
        verifier = fixed_part 520 16 p (omega arith);
        lmblock = fixed_part 536 516 p (omega arith);
        lmverifier = fixed_part 1052 16 p (omega arith);
        lm = fixed_part 1068 24 p (omega arith);
        nt = fixed_part 1092 24 p (omega arith);
      }

  pub change_again : octet 0 p ≡ 6 → Octets p → change_packet (octet 1 p) (read_change p) ≡ take (length_of p) p
  unfolding change_packet
  change_again code o =
      let h = long in
      let s = change_stands in
      let x₇ = number_stands p o 1116 h in
      let x₆ = ap₂ (λ (x y : List ℕ). x ++ y) s.nt x₇ ∙ part_join 1092 24 2 p in
      let x₅ = ap₂ (λ (x y : List ℕ). x ++ y) s.lm x₆ ∙ part_join 1068 24 26 p in
      let x₄ = ap₂ (λ (x y : List ℕ). x ++ y) s.lmverifier x₅ ∙ part_join 1052 16 50 p in
      let x₃ = ap₂ (λ (x y : List ℕ). x ++ y) s.lmblock x₄ ∙ part_join 536 516 66 p in
      let x₂ = ap₂ (λ (x y : List ℕ). x ++ y) s.verifier x₃ ∙ part_join 520 16 582 p in
      let x₁ = ap₂ (λ (x y : List ℕ). x ++ y) s.block x₂ ∙ part_join 4 516 598 p in
      let count : 1114 ≡ length_of p - 4 = omega (arith, (change_fit p fit).0) in
      ap₂ (λ (n : ℕ) (x : List ℕ). framed n (octet 1 p) x) (sym code) (x₁ ∙ ap (λ (n : ℕ). part 4 n p) count) ∙ frame_back p good o

-- ---- Change Password, version 1

pub change_one_fit : (p : List ℕ) → change_one_refusal p ≡ 0 → (length_of p ≡ 72) × ((read_change_one p).flags ≤ 1)
unfolding change_one_refusal
change_one_fit p e = body_fit 72 1 (length_of p) (read_change_one p).flags e

pub record ChangeOneStands (p : List ℕ) : Type 0 where
  pub lmold : (read_change_one p).lmold ≡ part 4 16 p
  pub lmnew : (read_change_one p).lmnew ≡ part 20 16 p
  pub ntold : (read_change_one p).ntold ≡ part 36 16 p
  pub ntnew : (read_change_one p).ntnew ≡ part 52 16 p

module _ (p : List ℕ) (good : bad_frame p ≡ false) (fit : change_one_refusal p ≡ 0) where
  one_long : 72 ≤ length p
  one_long = let b = frame_bounds p good in let f = change_one_fit p fit in omega arith

  pub change_one_stands : ChangeOneStands p
  change_one_stands =
      let h = one_long in
      record {
        lmold = fixed_part 4 16 p (omega arith);
        lmnew = fixed_part 20 16 p (omega arith);
        ntold = fixed_part 36 16 p (omega arith);
        ntnew = fixed_part 52 16 p (omega arith);
      }

  pub change_one_again : octet 0 p ≡ 5 → Octets p → change_one_packet (octet 1 p) (read_change_one p) ≡ take (length_of p) p
  unfolding change_one_packet
  change_one_again code o =
      let h = one_long in
      let s = change_one_stands in
      let x₅ = ap₂ (λ (x y : List ℕ). x ++ y) (number_stands p o 68 (omega arith)) (number_stands p o 70 h) ∙ part_join 68 2 2 p in
      let x₄ = ap₂ (λ (x y : List ℕ). x ++ y) s.ntnew x₅ ∙ part_join 52 16 4 p in
      let x₃ = ap₂ (λ (x y : List ℕ). x ++ y) s.ntold x₄ ∙ part_join 36 16 20 p in
      let x₂ = ap₂ (λ (x y : List ℕ). x ++ y) s.lmnew x₃ ∙ part_join 20 16 36 p in
      let x₁ = ap₂ (λ (x y : List ℕ). x ++ y) s.lmold x₂ ∙ part_join 4 16 52 p in
      let count : 68 ≡ length_of p - 4 = omega (arith, (change_one_fit p fit).0) in
      ap₂ (λ (n : ℕ) (x : List ℕ). framed n (octet 1 p) x) (sym code) (x₁ ∙ ap (λ (n : ℕ). part 4 n p) count) ∙ frame_back p good o
