-- `packets::changes_one::put_change_one` meets its contract. The pieces lie one behind the other,
-- and are the packet.
-- Assumes nothing.
use mathlib.Core.Path.{◌≡◌, refl, sym, ap, ap₂, ◌∙◌}
use mathlib.Core.List.{List, ◌++◌}
use Prim.Native.Nat.{ℕ}
use native.Mathlib.Omega.{arith}
use borrow.Author.Rules.{rules}
use lib.ListN.{length, length-append}
use Rattle.octets.specs.Parts.{over_at}
use Rattle.octets.specs.Numbers.{to_be}
use Rattle.packets.specs.ChangeOne.{change_one_packet}
use Rattle.octets.proofs.Laid as laid
use Rattle.packets.proofs.Writing as writing
use Rattle.packets.proofs.changes_one.put_change_one.Goals as goal

pub returns : goal.returns
unfolding change_one_packet
returns c =
    let f = c.args.fields in
    let lmold : length f.lmold ≡ 16 = search rules in
    let lmnew : length f.lmnew ≡ 16 = search rules in
    let ntold : length f.ntold ≡ 16 = search rules in
    let ntnew : length f.ntnew ≡ 16 = search rules in
    let one : length (f.lmold ++ f.lmnew) ≡ 32 = omega (arith, length-append f.lmold f.lmnew) in
    let two : length (f.ntold ++ f.ntnew) ≡ 32 = omega (arith, length-append f.ntold f.ntnew) in
    let last = to_be 2 f.length ++ to_be 2 f.flags in
    let s₁ = laid.first 4 (ap length c.head.ensures) c.copy_at.ensures in
    let s₂ = laid.next s₁ (f.lmold ++ f.lmnew) 32 one c.put_pair.ensures in
    let s₃ = laid.next s₂ (f.ntold ++ f.ntnew) 32 two c.put_pair-2.ensures in
    let s₄ = laid.next s₃ last 4 refl (c.put_pair-3.ensures ∙ ap₂ (λ (x y : List ℕ). over_at 68 (x ++ y) c.put_pair-2.new.out) c.u16_to_be-length.ensures c.u16_to_be-flags.ensures) in
    let order = writing.change_order c.head.result f.lmold f.lmnew f.ntold f.ntnew last in
    let done = writing.framed_laid 5 c.args.id (f.lmold ++ (f.lmnew ++ (f.ntold ++ (f.ntnew ++ last)))) s₄ c.head.ensures order c.requires in
    (sym done.0, done.1.1)
