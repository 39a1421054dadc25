-- Each call of the other function leaves less of the message. Inside a field the word there is new,
-- has octets, and ends within the message; inside text the word that is passed over ends within it.
-- Assumes nothing.
use mathlib.Core.Path.{◌≡◌, refl, sym, ap, ◌∙◌}
use mathlib.Core.Bool.{true, false}
use mathlib.Core.List.{List}
use Prim.Native.Nat.{ℕ, ◌+◌, ◌≤◌, ◌<◌}
use native.Mathlib.Omega.{arith}
use lib.ListN.{length}
use Rattle.message.specs.declared.Fields.{Fields}
use Rattle.message.specs.Inner.{word_at, is_new}
use Rattle.message.proofs.FirstFields.{new_within, new_field, skipped, no_words}
use Rattle.message.proofs.+in_field_in_text.Goals as goal

-- ---- inside a field

-- the field is new, has octets, and ends within the message
field_new : (m : List ℕ) (from : ℕ) (f : Fields) {w : List ℕ} → w ≡ word_at m from
    → is_new f (word_at m from) ≡ true
    → (is_new f w ≡ true) × (0 < length w) × (from + length w ≤ length m)
field_new m from f e new = let within = new_within m from f new in rw e (new, within.0, within.1)

pub in_field-note-noted-requires : goal.in_field-note-noted-requires
in_field-note-noted-requires t c =
    let a = c.args in
    let n = field_new a.message.now a.from a.f c.word_at-word.ensures c.requires.1 in
    (omega (arith, n), n.0)

pub in_field-in_text-requires : goal.in_field-in_text-requires
in_field-in_text-requires t c =
    let a = c.args in
    let n = field_new a.message.now a.from a.f c.word_at-word.ensures c.requires.1 in
    (omega (arith, n, ap length c.word_at-word.ensures), c.requires.0)

pub in_field-returns : goal.in_field-returns
in_field-returns t c =
    let a = c.args in
    c.in_text.ensures
    ∙ rw (c.note-noted.ensures.placed, c.word_at-word.ensures)
    (new_field a.message.now a.from a.f c.requires.1)

-- ---- inside text

pub in_text-loop-from-init : goal.in_text-loop-from-init
in_text-loop-from-init t c = (omega arith, refl)

pub in_text-in_field-requires : goal.in_text-in_field-requires
in_text-in_field-requires t c =
    let a = c.args in
    let m = a.message.now in
    let from = c.loop-from.from in
    let new : is_new a.f (word_at m from) ≡ true =
    rw (← c.word_at-word.ensures) (sym c.is_new.ensures ∙ c.if-is_new.true) in
    (omega (arith, new_within m from a.f new), (c.requires, new))

pub in_text-returns-then-is_new : goal.in_text-returns-then-is_new
in_text-returns-then-is_new t c = c.in_field.ensures ∙ c.loop-from.invariant.1

pub in_text-loop-from-preserved : goal.in_text-loop-from-preserved
in_text-loop-from-preserved t c =
    let a = c.args in
    let m = a.message.now in
    let from = c.loop-from.from in
    let old : is_new a.f (word_at m from) ≡ false =
    rw (← c.word_at-word.ensures) (sym c.is_new.ensures ∙ c.if-is_new.false) in
    (omega arith, rw c.word_at-word.ensures (skipped m from a.f old) ∙ c.loop-from.invariant.1)

pub in_text-returns : goal.in_text-returns
in_text-returns t c =
    no_words c.args.message.now c.loop-from.from c.args.f c.loop-from-test.false
    ∙ c.loop-from.invariant.1
