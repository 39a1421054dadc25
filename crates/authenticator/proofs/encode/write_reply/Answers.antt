-- `authenticator::encode::write_reply` meets its contract, by the kind of reply.
-- Assumes nothing.
use mathlib.Core.List.{List}
use mathlib.Core.Path.{◌≡◌, sym, ap, ap₂, ◌∙◌}
use Prim.Native.Nat.{ℕ}
use Rattle.message.specs.Message.{text_of}
use Rattle.packets.specs.Frame.{written_over, written_length}
use Rattle.packets.specs.Reply.{failure_packet}
use Rattle.authenticator.specs.Encode.{reply_packet}
use Rattle.authenticator.proofs.encode.write_reply.Goals as goal

-- what was written is the packet of the reply
same : (out : List ℕ) {n : ℕ} {packet reply after : List ℕ} → packet ≡ reply
    → (n ≡ written_length packet out) × (after ≡ written_over packet out)
    → (n ≡ written_length reply out) × (after ≡ written_over reply out)
same out e w =
    (w.0 ∙ ap (λ (x : List ℕ). written_length x out) e, w.1 ∙ ap (λ (x : List ℕ). written_over x out) e)

pub returns-in-Success : goal.returns-in-Success
returns-in-Success c =
    let a = c.args in
    same a.out.now (ap (reply_packet a.terms a.id) (sym c.in-Success.is)) c.write_success.ensures

pub returns-in-Failure : goal.returns-in-Failure
returns-in-Failure c =
    let a = c.args in
    same a.out.now
    (ap₂ (λ (r n : ℕ). failure_packet a.id (text_of c.in-Failure.reason r n))
    c.retry_digit.ensures c.version-v.ensures
    ∙ ap (reply_packet a.terms a.id) (sym c.in-Failure.is))
    c.write_failure.ensures
