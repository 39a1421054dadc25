-- `packets::replies::write_challenge` meets its contract.
-- Assumes nothing.
use mathlib.Core.Path.{◌≡◌, refl, sym, ap, ◌∙◌}
use mathlib.Core.List.{[], ◌∷◌, ◌++◌, append_assoc}
use Prim.Native.Nat.{ℕ, ◌+◌}
use native.Mathlib.Omega.{arith}
use borrow.Author.Rules.{rules}
use lib.ListN.{length}
use Rattle.packets.specs.Reply.{challenge_packet}
use Rattle.octets.proofs.Laid as laid
use Rattle.packets.proofs.Writing as writing
use Rattle.packets.proofs.replies.write_challenge.Goals as goal

pub returns-then-out-lt-CHALLENGE_LENGTH : goal.returns-then-out-lt-CHALLENGE_LENGTH
returns-then-out-lt-CHALLENGE_LENGTH c =
    let a = c.args in
    let eight : length a.challenge ≡ 8 = search rules in
    writing.too_long _ _ (writing.length_challenge a.id a.challenge ∙ ap (λ (n : ℕ). 5 + n) eight) c.if-out-lt-CHALLENGE_LENGTH.true

pub returns : goal.returns
unfolding challenge_packet
returns c =
    let h = c.head in
    let a = c.args in
    let eight : length a.challenge ≡ 8 = search rules in
    let s₁ = laid.first 4 (ap length h.ensures) c.copy_at.ensures in
    let s₂ = laid.next s₁ (8 ∷ []) 1 refl c.copy_at-2.ensures in
    let s₃ = laid.next s₂ a.challenge 8 eight c.copy_at-3.ensures in
    let order = append_assoc h.result (8 ∷ []) a.challenge ∙ ap (λ (n : ℕ). h.result ++ (n ∷ a.challenge)) (sym eight) in
    (writing.framed_laid 1 a.id (length a.challenge ∷ a.challenge) s₃ h.ensures order (omega arith)).1
