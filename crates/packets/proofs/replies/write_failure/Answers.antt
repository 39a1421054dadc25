-- `packets::replies::write_failure` meets its contract.
-- Assumes nothing.
use mathlib.Core.Path.{ap, ◌∙◌}
use mathlib.Core.List.{List, ◌++◌}
use Prim.Native.Nat.{ℕ, ◌+◌}
use native.Mathlib.Omega.{arith}
use lib.ListN.{length}
use Rattle.message.proofs.Laws.{length_text}
use Rattle.message.specs.Message.{text_of}
use Rattle.packets.specs.Reply.{failure_packet}
use Rattle.octets.proofs.Laid as laid
use Rattle.packets.proofs.Writing as writing
use Rattle.packets.proofs.replies.write_failure.Goals as goal

pub returns-then-out-lt-LONGEST_REPLY : goal.returns-then-out-lt-LONGEST_REPLY
returns-then-out-lt-LONGEST_REPLY c =
    let a = c.args in
    writing.too_long _ _ (writing.length_failure a.id (text_of a.e a.r a.v) ∙ ap (λ (n : ℕ). 4 + n) (length_text a.e a.r a.v))
    c.if-out-lt-LONGEST_REPLY.true

pub returns : goal.returns
unfolding failure_packet
returns c =
    let a = c.args in
    let h = c.head in
    let t = c.text in
    let s₁ = laid.first 4 (ap length h.ensures) c.copy_at.ensures in
    let s₂ = laid.next s₁ t.result 13 (ap length t.ensures ∙ length_text a.e a.r a.v) c.copy_at-2.ensures in
    (writing.framed_laid 4 a.id (text_of a.e a.r a.v) s₂ h.ensures (ap (λ (t : List ℕ). h.result ++ t) t.ensures) (omega arith)).1
