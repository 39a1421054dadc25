-- Our peer's turns: a reply, read again, reads the same and gives the same turn ("however often the
-- reply is read"), and a reply that is refused changes nothing, as every one is before the first
-- packet.
-- Assumes nothing.
use mathlib.Core.Bool.{Bool, true, false, cond}
use mathlib.Core.List.{List}
use mathlib.Core.Path.{◌≡◌, refl, ap}
use Prim.Native.Nat.{ℕ}
use Rattle.std.specs.Prelude.{Result, Ok, Err}
use Rattle.refusals.specs.declared.Refusal.{Refusal}
use Rattle.refusals.specs.declared.Refusal.TheVariants.{Frame, Identifier}
use Rattle.message.specs.declared.Verdict.{Verdict}
use Rattle.packets.specs.Frame.{bad_frame}
use Rattle.packets.specs.Reply.{ChallengeFields}
use Rattle.peer.specs.Turn.{turn_read, next_turn}
use Rattle.peer.specs.Peer.{after_challenge, peer_reads, after_reply}
use Rattle.peer.specs.declared.Peer.{Peer}
use Rattle.peer.specs.declared.Turn.{Turn}

abbrev turned : Peer → Turn → Peer
turned q t = record { sent = q.sent; turn = t }

turn_again : (v : Result Verdict Refusal) (q : Peer)
    → turn_read v (turned q (turn_read v q)) ≡ turn_read v q
turn_again (Ok v) q = refl
turn_again (Err r) q = refl

pub same_reading : (q : Peer) (earlier reply : List ℕ)
    → peer_reads (after_reply q earlier) reply ≡ peer_reads q reply
same_reading q earlier reply = refl

pub same_turn : (q : Peer) (reply : List ℕ)
    → after_reply (after_reply q reply) reply ≡ after_reply q reply
unfolding next_turn
same_turn q reply = ap (turned q) (turn_again (peer_reads q reply) q)

pub refused_same : (q : Peer) (reply : List ℕ) {r : Refusal}
    → peer_reads q reply ≡ Err r → after_reply q reply ≡ q
unfolding next_turn
refused_same q reply e = ap (λ (v : Result Verdict Refusal). turned q (turn_read v q)) e

-- before its first packet a peer takes no reply for its own
pub nothing_sent_same : (a : ChallengeFields) (reply : List ℕ)
    → after_reply (after_challenge a) reply ≡ after_challenge a
unfolding next_turn
nothing_sent_same a reply = which (bad_frame reply)
  where
    which : (b : Bool)
        → turned (after_challenge a)
        (turn_read (cond {A = Result Verdict Refusal} b (Err Frame) (Err Identifier))
        (after_challenge a)) ≡ after_challenge a
    which true = refl
    which false = refl
