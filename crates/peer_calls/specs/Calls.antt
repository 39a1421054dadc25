-- The peer from C: what it reads and writes, over encodings.
-- Assumes nothing: these are definitions.
use Rattle.std.specs.Prelude.{Bool, ◌&&◌, List, ◌≡◌, ℕ}
use Rattle.refusals.specs.Refusal.{told}
use Rattle.packets.specs.Reply.{read_challenge}
use Rattle.peer.specs.Peer.{after_challenge, after_writing, peer_reads, after_reply}
use Rattle.peer.specs.Write.{Wrote, write_response, write_change, write_change_one}
use Rattle.layouts.specs.Call.{Fills, sized, numbered, after_call}
use Rattle.layouts.specs.Passwords.{decode_password, is_encoded_password}
use Rattle.layouts.specs.Peers.{peer_size, encode_peer, decode_peer, is_encoded_peer}
use Rattle.numbers.specs.Results.{call_in, failure_reason, number_in}

-- ---- the Challenge

-- what reading a Challenge returns (r) and leaves in the peer
abbrev pub ChallengeCall : List ℕ → List ℕ → ℕ → List ℕ → Type 0
ChallengeCall packet peer r peer_after =
    Fills (sized peer_size peer) (read_challenge packet).refusal
    (encode_peer (after_challenge (read_challenge packet))) peer r peer_after

-- ---- a reply

-- what reading a reply returns (r) and leaves in the peer and in the two numbers
pub record ReplyCall (peer packet : List ℕ) (call reason r : ℕ) (peer_after : List ℕ)
    (call_after reason_after : ℕ) : Type 0 where
  pub number : r
      ≡ numbered (is_encoded_peer peer)
      (told (peer_reads (decode_peer peer) packet))
  pub next : peer_after ≡ after_call r (encode_peer (after_reply (decode_peer peer) packet)) peer
  pub calls : call_after
      ≡ after_call r (number_in call_in (peer_reads (decode_peer peer) packet)) call
  pub says : reason_after
      ≡ after_call r (number_in failure_reason (peer_reads (decode_peer peer) packet)) reason

-- ---- the packets of the peer that is encoded, by passwords that are encoded

abbrev pub response_from : List ℕ → List ℕ → List ℕ → List ℕ → Wrote
response_from peer password name out =
    write_response (decode_peer peer).turn (decode_password password) name out

abbrev pub change_from : List ℕ → List ℕ → List ℕ → List ℕ → List ℕ → Wrote
change_from peer old new filler out =
    write_change (decode_peer peer).turn (decode_password old) (decode_password new) filler out

abbrev pub change_one_from : List ℕ → List ℕ → List ℕ → List ℕ → Wrote
change_one_from peer old new out =
    write_change_one (decode_peer peer).turn (decode_password old) (decode_password new) out

unfoldable pub response_arguments : List ℕ → List ℕ → Bool
response_arguments peer password = is_encoded_peer peer && is_encoded_password password

unfoldable pub change_arguments : List ℕ → List ℕ → List ℕ → Bool
change_arguments peer old new =
    is_encoded_peer peer && (is_encoded_password old && is_encoded_password new)

-- what writing the packet w returns (r) and leaves in the peer and in the packet's buffer
pub record WriteCall (valid : Bool) (w : Wrote) (peer out : List ℕ) (r : ℕ)
    (peer_after out_after : List ℕ) : Type 0 where
  pub number : r ≡ numbered valid w.answer.refusal
  pub next : peer_after
      ≡ after_call r (encode_peer (after_writing (decode_peer peer) w.answer)) peer
  pub packet : out_after ≡ after_call r w.out out
