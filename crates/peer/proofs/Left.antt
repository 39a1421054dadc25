-- What our peer's writers leave in their output buffers: where a writer refuses nothing, the packet
-- stands at the front, and what was passed met the rules of its refusals.
-- Assumes nothing.
use mathlib.Core.Bool.{Bool, true, false, cond, ◌||◌}
use mathlib.Core.List.{List}
use mathlib.Core.Logic.{◌≢◌}
use mathlib.Core.Path.{◌≡◌, refl, sym, ap, ◌∙◌}
use Prim.Native.Nat.{ℕ, ◌+◌, ◌%◌, ◌≤◌}
use native.Mathlib.Omega.{arith}
use borrow.Author.Tests.{le-ltb, ltb-false, eqb-true, not-false}
use lib.Dec.{eqb, ltb}
use lib.ListN.{length, take}
use Rattle.refusals.proofs.Laws.{both_passed}
use Rattle.credentials.specs.Credentials.{bad_nt_password, bad_filler}
use Rattle.credentials.proofs.Laws.{good_password}
use Rattle.packets.specs.Response.{bad_name, response_write_refusal}
use Rattle.packets.specs.Change.{change_write_refusal}
use Rattle.packets.specs.ChangeOne.{change_one_write_refusal}
use Rattle.packets.proofs.Padding.{or_false_both}
use Rattle.packets.proofs.Writing.{taken, good_name}
use Rattle.peer.specs.Write.{response_for, change_for, change_one_for, write_response_refusal}
use Rattle.peer.specs.Write.{write_change_refusal, write_change_one_refusal, Wrote, wrote_by}
use Rattle.peer.specs.Write.{write_response, write_change, write_change_one}
use Rattle.peer.specs.declared.Turn.{Turn}
use Rattle.peer.proofs.Found.{response_length, change_length, change_one_length}

-- what was written, as a reader of the buffer takes it
abbrev pub left : Wrote → List ℕ
left w = take w.answer.length w.out

-- ---- by the refusal

pub left_good : (n : ℕ) (packet out : List ℕ) → n ≡ 0 → length packet ≤ length out → left (wrote_by n packet out) ≡ packet
left_good n packet out e h =
    ap (λ (k : ℕ). left (wrote_by k packet out)) e
    ∙ taken packet out h

-- ---- three tests in their order, with the numbers a, b, c

none_of : (t₁ t₂ t₃ : Bool) (a b c : ℕ) → t₁ ≡ false → t₂ ≡ false → t₃ ≡ false → cond t₁ a (cond t₂ b (cond t₃ c 0)) ≡ 0
none_of t₁ t₂ t₃ a b c x y z = rw (x, y, z)

all_false : (t₁ t₂ t₃ : Bool) (a b c : ℕ) → a ≢ 0 → b ≢ 0 → c ≢ 0 → cond t₁ a (cond t₂ b (cond t₃ c 0)) ≡ 0
    → (t₁ ≡ false) × (t₂ ≡ false) × (t₃ ≡ false)
all_false true t₂ t₃ a b c x y z e = absurd (x e)
all_false false true t₃ a b c x y z e = absurd (y e)
all_false false false true a b c x y z e = absurd (z e)
all_false false false false a b c x y z e = (refl, refl, refl)

positive : (n : ℕ) → 1 ≤ n → n ≢ 0
positive n h e = omega arith

-- ---- a Response

module _ (t : Turn) (password name out : List ℕ) where
  abbrev wrote : Wrote
  wrote = write_response t password name out

  response_number : wrote.answer.refusal ≡ write_response_refusal password name out
  unfolding write_response
  response_number = refl

  -- within the limits of 8, 10 and 9 its writer refuses nothing
  pub response_written_lem : bad_nt_password password ≡ false → bad_name name ≡ false → 54 + length name ≤ length out → wrote.answer.refusal ≡ 0
  unfolding write_response_refusal response_write_refusal
  response_written_lem x y z =
      response_number
      ∙ none_of (bad_nt_password password) (bad_name name) (ltb (length out) (54 + length name)) 8 10 9 x y (le-ltb (length out) (54 + length name) z)

  module _ (ok : wrote.answer.refusal ≡ 0) where
    tests : (bad_nt_password password ≡ false) × (bad_name name ≡ false) × (ltb (length out) (54 + length name) ≡ false)
    unfolding write_response_refusal response_write_refusal
    tests =
        all_false (bad_nt_password password) (bad_name name) (ltb (length out) (54 + length name)) 8 10 9
        (positive 8 (omega arith)) (positive 10 (omega arith)) (positive 9 (omega arith)) (sym response_number ∙ ok)

    pub name_fits : (1 ≤ length name) × (length name ≤ 256)
    name_fits = good_name name tests.1

    pub response_left : left wrote ≡ response_for t password name
    unfolding write_response
    response_left =
        left_good (write_response_refusal password name out) (response_for t password name) out (sym response_number ∙ ok)
        (omega (arith, response_length t password name, ltb-false (length out) (54 + length name) tests.2))

-- ---- a change

module _ (t : Turn) (old new filler out : List ℕ) where
  abbrev change_wrote : Wrote
  change_wrote = write_change t old new filler out

  change_number : change_wrote.answer.refusal ≡ write_change_refusal old new filler out
  unfolding write_change
  change_number = refl

  -- within the limits of 8, 12 and 9 its writer refuses nothing
  pub change_written_lem : bad_nt_password old ≡ false → bad_nt_password new ≡ false → bad_filler filler ≡ false → 1118 ≤ length out
      → change_wrote.answer.refusal ≡ 0
  unfolding write_change_refusal change_write_refusal
  change_written_lem x y z room =
      change_number
      ∙ none_of (bad_nt_password old || bad_nt_password new) (bad_filler filler) (ltb (length out) 1118) 8 12 9 (rw (x, y)) z (le-ltb (length out) 1118 room)

  module _ (ok : change_wrote.answer.refusal ≡ 0) where
    checks : ((bad_nt_password old || bad_nt_password new) ≡ false) × (bad_filler filler ≡ false) × (ltb (length out) 1118 ≡ false)
    unfolding write_change_refusal change_write_refusal
    checks =
        all_false (bad_nt_password old || bad_nt_password new) (bad_filler filler) (ltb (length out) 1118) 8 12 9
        (positive 8 (omega arith)) (positive 12 (omega arith)) (positive 9 (omega arith)) (sym change_number ∙ ok)

    pub new_fits : (length new ≤ 512) × (length new % 2 ≡ 0)
    new_fits = good_password new (or_false_both (bad_nt_password old) (bad_nt_password new) checks.0).1

    pub filler_full : length filler ≡ 512
    filler_full = eqb-true (length filler) 512 (not-false (eqb (length filler) 512) checks.1)

    pub change_left : left change_wrote ≡ change_for t old new filler
    unfolding write_change
    change_left =
        left_good (write_change_refusal old new filler out) (change_for t old new filler) out (sym change_number ∙ ok)
        (omega (arith, change_length t old new filler filler_full new_fits.0, ltb-false (length out) 1118 checks.2))

-- ---- a version 1 change

module _ (t : Turn) (old new out : List ℕ) where
  abbrev change_one_wrote : Wrote
  change_one_wrote = write_change_one t old new out

  change_one_number : change_one_wrote.answer.refusal ≡ write_change_one_refusal old new out
  unfolding write_change_one
  change_one_number = refl

  -- within the limits of 8 and 9 its writer refuses nothing
  pub change_one_written_lem : bad_nt_password old ≡ false → bad_nt_password new ≡ false → 72 ≤ length out → change_one_wrote.answer.refusal ≡ 0
  unfolding write_change_one_refusal change_one_write_refusal
  change_one_written_lem x y room = change_one_number ∙ rw (x, y, le-ltb (length out) 72 room)

  module _ (ok : change_one_wrote.answer.refusal ≡ 0) where
    checks_one : ((bad_nt_password old || bad_nt_password new) ≡ false) × (ltb (length out) 72 ≡ false)
    unfolding write_change_one_refusal change_one_write_refusal
    checks_one =
        both_passed (bad_nt_password old || bad_nt_password new) 8 (ltb (length out) 72) 9 (omega arith) (omega arith) (sym change_one_number ∙ ok)

    pub change_one_left : left change_one_wrote ≡ change_one_for t old new
    unfolding write_change_one
    change_one_left =
        left_good (write_change_one_refusal old new out) (change_one_for t old new) out (sym change_one_number ∙ ok)
        (omega (arith, change_one_length t old new, ltb-false (length out) 72 checks_one.1))
