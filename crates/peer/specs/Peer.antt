-- The peer in a series of packets: what it keeps from one packet to the next.
-- Assumes nothing: these are definitions.
use Rattle.std.specs.Prelude.{false, cond, List, [], ◌≡◌, ℕ, eqb, replicate, Result, Ok, Err, IfOk}
use Rattle.refusals.specs.Refusal.{told}
use Rattle.refusals.specs.declared.Refusal.{Refusal}
use Rattle.refusals.specs.declared.Refusal.TheVariants.{Frame, Identifier}
use Rattle.message.specs.Message.{verdict_values, values_of}
use Rattle.message.specs.declared.Verdict.{Verdict}
use Rattle.packets.specs.Frame.{bad_frame, Written}
use Rattle.packets.specs.Sizes.{challenge_size}
use Rattle.packets.specs.Reply.{ChallengeFields, read_reply, reply_refusal, reply_values}
use Rattle.peer.specs.Turn.{first_turn, sent_for, next_turn}
use Rattle.peer.specs.Write.{Wrote}
use Rattle.peer.specs.declared.Peer.{Peer}
use Rattle.peer.specs.declared.PacketWritten.{PacketWritten}
use Rattle.peer.specs.declared.ReplyRead.{ReplyRead}
use Rattle.peer.specs.declared.Sent.{Sent}

-- no packet was sent yet
abbrev pub nothing_sent : Sent
nothing_sent = record { present = false; id = 0; challenge = replicate challenge_size 0 }

-- A Challenge was read, and nothing is sent yet. Where it was refused, the turn has fixed values
-- (packets Reply `refused_challenge`).
abbrev pub after_challenge : ChallengeFields → Peer
after_challenge a = record { sent = nothing_sent; turn = first_turn a }

-- a writer answered w: a packet that was refused was not sent
abbrev pub sent_by : Peer → Peer
sent_by q = record { sent = sent_for q.turn; turn = q.turn }

abbrev pub after_writing : Peer → Written → Peer
after_writing q w =
    record { sent = cond (eqb w.refusal 0) (sent_for q.turn) q.sent; turn = q.turn }

-- What it reads in a reply. "A reply must carry the identifier of the last packet our peer sent":
-- before the first packet none does, and 5 is due where the frame is good.
abbrev pub reads_after : Sent → List ℕ → Result Verdict Refusal
reads_after s reply =
    cond s.present (read_reply s.id reply)
    (cond (bad_frame reply) (Err Frame) (Err Identifier))

abbrev pub peer_reads : Peer → List ℕ → Result Verdict Refusal
peer_reads q reply = reads_after q.sent reply

-- the number with which it refuses one (0 is none), and the values E, R and V of a Failure
abbrev pub peer_reads_refusal : Peer → List ℕ → ℕ
peer_reads_refusal q reply =
    cond q.sent.present (reply_refusal q.sent.id reply) (cond (bad_frame reply) 3 5)

abbrev pub peer_reads_values : Peer → List ℕ → List ℕ
peer_reads_values q reply = cond q.sent.present (reply_values q.sent.id reply) []

-- A reply was read: what was sent stays, so that the same reply, read again, gives the same turn.
-- A reply that is refused changes nothing.
abbrev pub after_reply : Peer → List ℕ → Peer
after_reply q reply = record { sent = q.sent; turn = next_turn q (peer_reads q reply) }

-- ---- what the methods promise

-- a packet was written as w says: the number of the refusal (0 is none) or what is answered (r),
-- and what is left in the buffer
pub record Writes (q : Peer) (w : Wrote) (r : Result PacketWritten Refusal)
    (out_after : List ℕ) : Type 0 where
  pub number : told r ≡ w.answer.refusal
  pub answer : IfOk r
      (λ p. p ≡ record { length = w.answer.length; peer = after_writing q w.answer })
  pub out : out_after ≡ w.out

-- a reply was read: what is answered (r), with the number of its refusal and the values of its
-- verdict
abbrev pub read_as : Peer → List ℕ → Result Verdict Refusal → Result ReplyRead Refusal
read_as q reply (Ok v) = Ok (record { verdict = v; peer = after_reply q reply })
read_as q reply (Err r) = Err r

abbrev pub read_values : ReplyRead → List ℕ
read_values r = verdict_values r.verdict

pub record Reads (q : Peer) (reply : List ℕ) (r : Result ReplyRead Refusal) : Type 0 where
  pub answer : r ≡ read_as q reply (peer_reads q reply)
  pub number : told r ≡ peer_reads_refusal q reply
  pub values : values_of read_values r ≡ peer_reads_values q reply
