-- `message::is_field` meets its contract.
-- Assumes nothing.
use mathlib.Core.Path.{◌≡◌, sym, ap, ◌∙◌}
use mathlib.Core.List.{List, map}
use Prim.Native.Nat.{ℕ, ◌-◌, ◌≤◌, ◌<◌}
use native.Mathlib.Omega.{arith}
use borrow.Author.Tests.{eq-eqb, ne_eqb, le-leb, lt-leb}
use lib.ListN.{length, take, drop, length-drop}
use lib.Seq.{take_all}
use Rattle.octets.specs.Digits.{digit_of, all_below}
use Rattle.message.proofs.Formed.{short, long}
use Rattle.message.proofs.is_field.Goals as goal

-- what is behind the first two octets, as the code cuts it
behind : (w : List ℕ) → take (length w - 2) (drop 2 w) ≡ drop 2 w
behind w = take_all (length w - 2) (drop 2 w) (omega (arith, length-drop 2 w))

pub returns-then-word-lt2 : goal.returns-then-word-lt2
returns-then-word-lt2 c = sym (short _ _ _ _ _ c.if-word-lt2.true)

pub returns-then-word-letter : goal.returns-then-word-letter
returns-then-word-letter c =
    let a = c.args in
    sym (long a.letter a.base a.low a.high a.word.now c.if-word-lt2.false ∙ simp (ne_eqb _ _ c.if-word-letter.true))

pub returns-then-word-ne61 : goal.returns-then-word-ne61
returns-then-word-ne61 c =
    let a = c.args in
    sym (long a.letter a.base a.low a.high a.word.now c.if-word-lt2.false ∙ simp (eq-eqb _ _ c.if-word-letter.false, ne_eqb _ _ c.if-word-ne61.true))

pub returns-then-digits-low : goal.returns-then-digits-low
returns-then-digits-low c =
    let a = c.args in
    let w = a.word.now in
    let k : length (drop 2 w) < a.low = omega (arith, ap length (behind w)) in
    sym (long a.letter a.base a.low a.high a.word.now c.if-word-lt2.false ∙ simp (eq-eqb _ _ c.if-word-letter.false, eq-eqb _ _ c.if-word-ne61.false, lt-leb _ _ k))

pub returns-then-high-digits : goal.returns-then-high-digits
returns-then-high-digits c =
    let a = c.args in
    let w = a.word.now in
    let k : a.low ≤ length (drop 2 w) = omega (arith, ap length (behind w)) in
    let n : a.high < length (drop 2 w) = omega (arith, ap length (behind w)) in
    sym (
    long a.letter a.base a.low a.high a.word.now c.if-word-lt2.false
    ∙ simp (eq-eqb _ _ c.if-word-letter.false, eq-eqb _ _ c.if-word-ne61.false, le-leb _ _ k, lt-leb _ _ n)
    )

pub returns : goal.returns
returns c =
    let a = c.args in
    let w = a.word.now in
    let k : a.low ≤ length (drop 2 w) = omega (arith, ap length (behind w)) in
    let n : length (drop 2 w) ≤ a.high = omega (arith, ap length (behind w)) in
    c.are_digits.ensures
    ∙ ap (λ (l : List ℕ). all_below a.base (map digit_of l)) (behind w)
    ∙ sym (
    long a.letter a.base a.low a.high a.word.now c.if-word-lt2.false
    ∙ simp (eq-eqb _ _ c.if-word-letter.false, eq-eqb _ _ c.if-word-ne61.false, le-leb _ _ k, le-leb _ _ n)
    )
