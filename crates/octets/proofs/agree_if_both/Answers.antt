-- `octets::agree_if_both` meets its contract.
-- Assumes nothing.
use mathlib.Core.Path.{◌≡◌, refl, sym, ap, ◌∙◌}
use mathlib.Core.Bool.{Bool, true, false, cond, ◌&&◌, and-false}
use Prim.Native.Nat.{ℕ}
use borrow.Author.Rules.{rules}
use borrow.Author.Tests.{tests}
use lib.Bits.{bit_or, bit_xor}
use lib.Dec.{eqb}
use Rattle.std.proofs.lemmas.Iterator.{YieldsList-from_slice, YieldsList-from_zip}
use Rattle.std.proofs.lemmas.Iterator.Consumers.{fold_from_yields_List}
use Rattle.octets.specs.Parts.{agrees}
use Rattle.octets.proofs.Parts.{agrees_fold, agrees_lengths}
use Rattle.octets.proofs.agree_if_both.Goals as goal

none_yet : (t : Bool) → eqb (cond t 0 255) 0 ≡ t
none_yet true = refl
none_yet false = refl

pub returns-then-x-y : goal.returns-then-x-y
returns-then-x-y c =
    let s = c.args in
    let t = s.a && s.b in
    let not_equal = agrees_lengths s.x.now s.y.now c.if-x-y.true in
    sym (ap (λ (u : Bool). t && u) not_equal ∙ and-false t)

pub returns : goal.returns
returns c =
    let s = c.args in
    let x = s.x.now in
    let y = s.y.now in
    let all = fold_from_yields_List _ (λ d p. bit_or d (bit_xor p.0 p.1)) _ _ c.fold-differences.ensures.ran
    (YieldsList-from_zip (YieldsList-from_slice x cc) (YieldsList-from_slice y cc)) (λ b z r q k. search (rules, tests)) in
    ap (λ (d : ℕ). eqb d 0) all ∙ agrees_fold x y _ c.if-x-y.false
    ∙ ap (λ (t : Bool). t && agrees x y)
    (ap (λ (d : ℕ). eqb d 0) c.where_both-conditions.ensures ∙ none_yet (s.a && s.b))
