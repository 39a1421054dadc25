-- `packets::changes::put_change` meets its contract. The pieces lie one behind the other, and are
-- the packet.
-- Assumes nothing.
use mathlib.Core.Path.{◌≡◌, refl, sym, ap, ◌∙◌}
use mathlib.Core.List.{List, ◌++◌}
use Prim.Native.Nat.{ℕ}
use native.Mathlib.Omega.{arith}
use borrow.Author.Rules.{rules}
use lib.ListN.{length, length-append}
use Rattle.octets.specs.Parts.{over_at}
use Rattle.octets.specs.Numbers.{to_be}
use Rattle.packets.specs.Change.{change_packet}
use Rattle.octets.proofs.Laid as laid
use Rattle.packets.proofs.Writing as writing
use Rattle.packets.proofs.changes.put_change.Goals as goal

pub returns : goal.returns
unfolding change_packet
returns c =
    let f = c.args.fields in
    let block : length f.block ≡ 516 = search rules in
    let verifier : length f.verifier ≡ 16 = search rules in
    let lmblock : length f.lmblock ≡ 516 = search rules in
    let lmverifier : length f.lmverifier ≡ 16 = search rules in
    let lm : length f.lm ≡ 24 = search rules in
    let nt : length f.nt ≡ 24 = search rules in
    let one : length (f.block ++ f.verifier) ≡ 532 = omega (arith, length-append f.block f.verifier) in
    let two : length (f.lmblock ++ f.lmverifier) ≡ 532 =
    omega (arith, length-append f.lmblock f.lmverifier) in
    let three : length (f.lm ++ f.nt) ≡ 48 = omega (arith, length-append f.lm f.nt) in
    let last = to_be 2 f.flags in
    let s₁ = laid.first 4 (ap length c.head.ensures) c.copy_at.ensures in
    let s₂ = laid.next s₁ (f.block ++ f.verifier) 532 one c.put_pair.ensures in
    let s₃ = laid.next s₂ (f.lmblock ++ f.lmverifier) 532 two c.put_pair-2.ensures in
    let s₄ = laid.next s₃ (f.lm ++ f.nt) 48 three c.put_pair-3.ensures in
    let s₅ = laid.next s₄ last 2 refl (c.copy_at-2.ensures ∙ ap (λ (x : List ℕ). over_at 1116 x c.put_pair-3.new.out) c.u16_to_be.ensures) in
    let order = writing.change_two_order c.head.result f.block f.verifier f.lmblock f.lmverifier f.lm f.nt last in
    let done = writing.framed_laid 6 c.args.id (f.block ++ (f.verifier ++ (f.lmblock ++ (f.lmverifier ++ (f.lm ++ (f.nt ++ last)))))) s₅ c.head.ensures order c.requires in
    (sym done.0, done.1.1)
