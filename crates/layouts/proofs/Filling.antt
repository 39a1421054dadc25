-- What calls that fill buffers return and leave.
-- Assumes nothing.
use mathlib.Core.Path.{◌≡◌, refl, sym, ap, ap₂, ◌∙◌}
use mathlib.Core.Bool.{Bool, true, false, ◌&&◌, cond, false≢true}
use mathlib.Core.List.{List}
use Prim.Native.Nat.{ℕ}
use native.Mathlib.Omega.{arith}
use borrow.Author.Tests.{eq-eqb, ne_eqb, eqb-true}
use lib.Dec.{eqb}
use lib.ListN.{length}
use Rattle.refusals.specs.Refusal.{number}
use Rattle.refusals.specs.declared.Refusal.{Refusal}
use Rattle.refusals.proofs.Numbers.{number_some}
use Rattle.octets.specs.Parts.{part, fixed}
use Rattle.octets.proofs.Parts.{fixed_whole}
use Rattle.layouts.specs.Call.{Fills, sized, both_sized, bad_argument, numbered, after_call}

-- both of two tests hold
pub both : (s t : Bool) → (s && t) ≡ true → (s ≡ true) × (t ≡ true)
both true t e = (refl, e)
both false t e = absurd (false≢true e)

module _ {out : List ℕ} {r : ℕ} {after : List ℕ} where
  -- the same call, by equal arguments
  pub fills_as : {valid valid' : Bool} {n n' : ℕ} {x x' : List ℕ} → valid ≡ valid' → n ≡ n' → x ≡ x'
      → Fills valid n x out r after → Fills valid' n' x' out r after
  fills_as e f g h =
      record {
        number = h.number ∙ ap₂ numbered e f;
        bytes = h.bytes ∙ ap (λ (v : List ℕ). after_call r v out) g;
      }

  -- what `fill` returns and leaves, by the size and the value of its bytes
  pub filled_with : {n k k' : ℕ} {bytes value : List ℕ} → length bytes ≡ n → bytes ≡ value → k ≡ k'
      → Fills (sized (length bytes) out) k bytes out r after
      → Fills (sized n out) k' value out r after
  filled_with e f g h = fills_as (ap (λ (i : ℕ). sized i out) e) g f h

  -- a buffer of the right size makes the number the refusal
  pub fills_number : {n k : ℕ} {x : List ℕ} → length out ≡ n → Fills (sized n out) k x out r after
      → r ≡ k
  fills_number {n} {k} e h = h.number ∙ ap (λ (t : Bool). numbered t k) (eq-eqb (length out) n e)

-- ---- a call that is refused leaves its buffer

pub refused_fills : {valid : Bool} (e : Refusal) {x out : List ℕ} {r : ℕ} → r ≡ numbered valid (number e)
    → Fills valid (number e) x out r out
refused_fills {valid} e {x} {out} {r} h =
    record { number = h; bytes = sym (by valid refl) }
  where
    by : (t : Bool) → valid ≡ t → after_call r x out ≡ out
    by true t =
        ap (λ (b : Bool). cond b x out)
        (ap (λ (k : ℕ). eqb k 0) (h ∙ ap (λ (b : Bool). numbered b (number e)) t)
        ∙ ne_eqb _ 0 (number_some e))
    by false t = ap (λ (k : ℕ). after_call k x out) (h ∙ ap (λ (b : Bool). numbered b (number e)) t)

-- ---- two inputs whose sizes were tested first

module _ (a : ℕ) (x : List ℕ) (b : ℕ) (y : List ℕ) (good : both_sized a x b y ≡ true) where
  -- they are taken whole
  pub taken_whole : (fixed a (part 0 a x) ≡ x) × (fixed b (part 0 b y) ≡ y)
  taken_whole =
      let sizes = both (sized a x) (sized b y) good in (
        fixed_whole a x (eqb-true (length x) a sizes.0),
        fixed_whole b y (eqb-true (length y) b sizes.1),
      )

  -- and what is made of them fills a buffer of the right size
  pub filled_behind : {n r : ℕ} {bytes value out after : List ℕ} → length bytes ≡ n → bytes ≡ value
      → Fills (sized (length bytes) out) 0 bytes out r after
      → Fills (both_sized a x b y && sized n out) 0 value out r after
  filled_behind {n} {r} {bytes} {value} {out} e f h =
      fills_as (ap (λ (t : Bool). t && sized n out) (sym good)) refl refl (filled_with e f refl h)

-- ---- a call whose arguments are valid or not, the size of its buffer among them

-- they are not
pub refused_argument : {valid : Bool} {n : ℕ} {x out : List ℕ} → valid ≡ false
    → Fills valid n x out bad_argument out
refused_argument {valid} {n} e =
    record { number = ap (λ (t : Bool). numbered t n) (sym e); bytes = refl }

-- they are
pub valid_argument : {valid : Bool} {n k r : ℕ} {x out after : List ℕ} → valid ≡ true
    → length out ≡ n → Fills (sized n out) k x out r after → Fills valid k x out r after
valid_argument {valid} {n} {k} {r} {x} {out} e f h =
    fills_as (eq-eqb (length out) n f ∙ sym e) refl refl h

-- and they were in a call that returned 0
pub valid_call : (valid : Bool) (n : ℕ) → 0 ≡ numbered valid n → valid ≡ true
valid_call true n e = refl
valid_call false n e = absurd (omega (arith, e))
