use mathlib.Core.Path.{◌≡◌, refl, sym, ap, ap₂, ◌∙◌}
use mathlib.Core.List.{List, [], ◌∷◌, ◌++◌, map}
use Prim.Native.Nat.{ℕ, suc, ◌+◌, ◌*◌, ◌^◌, ◌≤◌, ◌<◌}
use native.Mathlib.Nat.{mul-zero, mul-one, add-zero, zero-mul, zero-add, add-mul, mul_assoc}
use native.Mathlib.Nat.{mul_comm, add_assoc}
use native.Mathlib.Numerals.{add-one}
use native.Mathlib.Omega.{arith}
use lib.ListN.{length, take, drop, get_or, length-append}
use lib.Dec.{lit<}
use lib.Pow.{pow_mono}
use lib.Seq.{take-suc, take_all}
use Rattle.std.proofs.lemmas.List.{map-append}
use Rattle.octets.specs.Numbers.{from_digits, to_be}
use Rattle.octets.proofs.Numbers.{one_more}
use Rattle.octets.proofs.Parts.{fixed_part}
use Rattle.des.specs.Des.{half, drop_parity}
use borrow.Author.Rules.{rules}
use Rattle.des.proofs.drop_parity.Goals as goal

-- one more digit behind the others
one_behind : (w : ℕ) (l : List ℕ) (d : ℕ) → from_digits w (l ++ (d ∷ [])) ≡ from_digits w l * 2 ^ w + d
one_behind w [] d = simp (mul-zero, mul-one, add-zero, zero-mul, zero-add)
one_behind w (x ∷ l) d =
    let n = length l in
    let f = from_digits w l in
    let size : length (l ++ (d ∷ [])) ≡ suc n = length-append l (d ∷ []) ∙ omega arith in
    let moved : x * 2 ^ (w * suc n) ≡ x * 2 ^ (w * n) * 2 ^ w =
    ap (λ (p : ℕ). x * p) (sym (one_more w n) ∙ mul_comm (2 ^ w) (2 ^ (w * n))) ∙ sym (mul_assoc x (2 ^ (w * n)) (2 ^ w)) in
    ap₂ (λ (k v : ℕ). x * 2 ^ (w * k) + v) size (one_behind w l d)
    ∙ ap (λ (v : ℕ). v + (f * 2 ^ w + d)) moved
    ∙ sym (add_assoc (x * 2 ^ (w * n) * 2 ^ w) (f * 2 ^ w) d)
    ∙ ap (λ (v : ℕ). v + d) (sym (add-mul (x * 2 ^ (w * n)) f (2 ^ w)))

-- seven digits at most, with room for one more
room : (i x : ℕ) → i < 8 → x < 2 ^ (7 * i) → x < 2 ^ 49
room i x h l = let m : 2 ^ (7 * i) ≤ 2 ^ 49 = pow_mono {i = 7 * i} {j = 49} (omega arith) in omega arith

pub loop-octet-init : goal.loop-octet-init
loop-octet-init c = (lit< tt, refl)

pub overflow_mul-bits : goal.overflow_mul-bits
overflow_mul-bits c = omega (arith, room c.loop-octet.octet-index c.loop-octet.bits c.loop-octet-test.true c.loop-octet.invariant.0)

pub overflow_add-bits : goal.overflow_add-bits
overflow_add-bits c =
    omega (arith, room c.loop-octet.octet-index c.loop-octet.bits c.loop-octet-test.true c.loop-octet.invariant.0)

pub loop-octet-preserved : goal.loop-octet-preserved
loop-octet-preserved c =
    let i = c.loop-octet.octet-index in
    let key = c.args.key in
    let o = get_or key i 0 in
    let n : length key ≡ 8 = search rules in
    let top = c.top_seven.ensures in
    let h = c.loop-octet.invariant in
    rw (add-one i) (
      omega (arith, one_more 7 i, h.0, top.1),
      ap₂ (λ (u v : ℕ). u * 128 + v) h.1 top.0
          ∙ sym (one_behind 7 (map half (take i key)) (half o))
          ∙ ap (from_digits 7) (sym (ap (map half) (take-suc key i 0 (omega arith)) ∙ map-append half (take i key) (o ∷ []))),
    )

pub returns : goal.returns
unfolding drop_parity
returns c =
    let n : length c.args.key ≡ 8 = search rules in
    let b = c.u64_to_be.result in
    let m : length b ≡ 8 = ap length c.u64_to_be.ensures in
    c.array_at.ensures ∙ fixed_part 1 7 b (omega arith)
    ∙ ap (λ (l : List ℕ). take 7 (drop 1 l)) c.u64_to_be.ensures
    ∙ ap (to_be 7) (c.loop-octet.invariant.1
    ∙ ap (λ (l : List ℕ). from_digits 7 (map half l)) (take_all c.loop-octet.octet-index c.args.key (omega arith)))
