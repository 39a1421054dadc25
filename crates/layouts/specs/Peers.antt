-- The layout of a peer.
-- Assumes nothing: these are definitions.
use Rattle.std.specs.Prelude.{Bool, List, ◌∷◌, ◌++◌, ℕ}
use Rattle.octets.specs.Parts.{part, fixed}
use Rattle.packets.specs.Sizes.{challenge_size}
use Rattle.packets.specs.Frame.{octet}
use Rattle.peer.specs.declared.Peer.{Peer}
use Rattle.layouts.specs.Values.{peer_kind, tagged, body_in, is_encoding}
use Rattle.layouts.specs.Records.{flag, is_flag}

-- the sizes, in bytes
abbrev pub turns_size : ℕ
turns_size = 19

abbrev pub peer_size : ℕ
peer_size = 21

abbrev pub sent_at : ℕ
sent_at = 0

abbrev pub sent_identifier_at : ℕ
sent_identifier_at = 1

abbrev pub sent_challenge_at : ℕ
sent_challenge_at = 2

abbrev pub next_identifier_at : ℕ
next_identifier_at = 10

abbrev pub next_challenge_at : ℕ
next_challenge_at = 11

-- whether a packet was sent, its identifier and challenge, and those of the next one
unfoldable pub encode_turns : Peer → List ℕ
encode_turns q =
    flag q.sent.present ∷ q.sent.id
    ∷ (q.sent.challenge ++ (q.turn.id ∷ q.turn.challenge))

unfoldable pub decode_turns : List ℕ → Peer
decode_turns bytes =
    record {
      sent =
          record {
            present = is_flag (octet sent_at bytes);
            id = octet sent_identifier_at bytes;
            challenge = fixed challenge_size (part sent_challenge_at challenge_size bytes);
          };
      turn =
          record {
            id = octet next_identifier_at bytes;
            challenge = fixed challenge_size (part next_challenge_at challenge_size bytes);
          };
    }

abbrev pub encode_peer : Peer → List ℕ
encode_peer q = tagged peer_kind (encode_turns q)

abbrev pub decode_peer : List ℕ → Peer
decode_peer bytes = decode_turns (body_in turns_size bytes)

unfoldable pub is_encoded_peer : List ℕ → Bool
is_encoded_peer bytes = is_encoding encode_peer decode_peer bytes
