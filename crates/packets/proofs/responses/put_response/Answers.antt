-- `packets::responses::put_response` meets its contract. The pieces lie one behind the other, and
-- are the packet.
-- Assumes nothing.
use mathlib.Core.Path.{◌≡◌, refl, sym, ap}
use mathlib.Core.List.{[], ◌∷◌, ◌++◌}
use native.Mathlib.Omega.{arith}
use borrow.Author.Rules.{rules}
use lib.ListN.{length}
use Rattle.packets.specs.Response.{response_packet}
use Rattle.octets.proofs.Laid as laid
use Rattle.packets.proofs.Writing as writing
use Rattle.packets.proofs.responses.put_response.Goals as goal

pub overflow_cast-n : goal.overflow_cast-n
overflow_cast-n c = let short = c.requires.0 in omega arith

pub returns : goal.returns
unfolding response_packet
returns c =
    let f = c.args.fields in
    let name = c.args.name.now in
    let lm : length f.lm ≡ 24 = search rules in
    let nt : length f.nt ≡ 24 = search rules in
    let s₁ = laid.first 4 (ap length c.head.ensures) c.copy_at.ensures in
    let s₂ = laid.next s₁ (49 ∷ []) 1 refl c.copy_at-2.ensures in
    let s₃ = laid.next s₂ f.lm 24 lm c.copy_at-3.ensures in
    let s₄ = laid.next s₃ f.nt 24 nt c.copy_at-4.ensures in
    let s₅ = laid.next s₄ (f.flag ∷ []) 1 refl c.copy_at-5.ensures in
    let s₆ = laid.next s₅ name (length name) refl c.copy_at-6.ensures in
    let order = writing.response_order c.head.result f.lm f.nt name 49 f.flag in
    let done = writing.framed_laid 2 c.args.id (49 ∷ (f.lm ++ (f.nt ++ (f.flag ∷ name)))) s₆ c.head.ensures order c.requires.1 in
    (sym done.0, done.1.1)
