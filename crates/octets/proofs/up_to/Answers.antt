-- `octets::up_to` meets its contract.
-- Assumes nothing.
use mathlib.Core.Path.{◌≡◌, refl, sym, ap, ◌∙◌}
use Prim.Native.Nat.{ℕ}
use borrow.Author.Rules.{rules}
use borrow.Author.Tests.{tests}
use lib.ListN.{take}
use Rattle.std.proofs.lemmas.Iterator.{IsFirst-from_position, YieldsList-from_slice}
use Rattle.std.proofs.lemmas.Iterator.{index_from_first}
use Rattle.octets.proofs.Split.{place, found, passed, take_place}
use Rattle.octets.proofs.up_to.Goals as goal

pub returns : goal.returns
returns c =
    let a = c.args in
    let s = a.s.now in
    let first = IsFirst-from_position _ _ _ (λ x. x ≡ a.c) (λ x. x ≡ a.c → ⊥) c.position-found.ensures.ran
    (YieldsList-from_slice s cc) (λ x q k. search (rules, tests)) (λ x q k. search (rules, tests)) in
    let there = index_from_first (place a.c) (λ x. x ≡ a.c) (λ x. x ≡ a.c → ⊥) refl (found a.c) (passed a.c) s _ first in
    ap (λ (k : ℕ). take k s) (c.unwrap_or.ensures ∙ sym there) ∙ take_place a.c s
