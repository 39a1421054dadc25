-- The layout of a peer, field by field: a value is its fields, and what is decoded from the
-- encoding of a value is the value.
-- Assumes nothing.
use mathlib.Core.Path.{◌≡◌, refl, sym, ap, ◌∙◌}
use mathlib.Core.Bool.{Bool, true}
use mathlib.Core.List.{List, [], ◌∷◌, ◌++◌, append_assoc}
use Prim.Native.Nat.{ℕ, suc}
use lib.ListN.{length, take, drop, get_or, length-append}
use lib.Seq.{get_or-drop, drop-drop}
use Rattle.octets.specs.Parts.{part, fixed}
use Rattle.octets.proofs.Parts.{fixed_same, fixed_whole, length_fixed}
use Rattle.packets.proofs.Framing.{field}
use Rattle.peer.specs.declared.Peer.{Peer}
use Rattle.packets.specs.Sizes.{challenge_size}
use Rattle.layouts.specs.Values.{peer_kind, body_in}
use Rattle.layouts.specs.Records.{flag}
use Rattle.layouts.specs.Peers as layout
use Rattle.layouts.proofs.Encodings.{encoding_fits, encoding_length, tagged_back}
use Rattle.layouts.proofs.RecordLaws.{flag_back}

pub peer_same : {b b' : Bool} {l l' n n' : ℕ} {c c' t t' : List ℕ} → b ≡ b' → l ≡ l'
    → c ≡ c' → n ≡ n' → t ≡ t'
    → ◌≡◌ {A = Peer}
    (record {
      sent = record { present = b; id = l; challenge = c };
      turn = record { id = n; challenge = t };
    })
    (record {
      sent = record { present = b'; id = l'; challenge = c' };
      turn = record { id = n'; challenge = t' };
    })
peer_same e₁ e₂ e₃ e₄ e₅ = cc

pub turns_pieces : (q : Peer)
    → (((flag q.sent.present ∷ q.sent.id ∷ []) ++ q.sent.challenge)
    ++ (q.turn.id ∷ []))
    ++ q.turn.challenge
    ≡ layout.encode_turns q
unfolding layout.encode_turns
turns_pieces q =
    ap (λ (l : List ℕ). flag q.sent.present ∷ q.sent.id ∷ l)
    (append_assoc q.sent.challenge (q.turn.id ∷ []) q.turn.challenge)

-- ---- the sizes of a value's arrays, which the code's types fix

pub record SizedPeer (q : Peer) : Type 0 where
  pub sent : length q.sent.challenge ≡ challenge_size
  pub turn : length q.turn.challenge ≡ challenge_size

pub decoded_turns_sized : (bytes : List ℕ) → SizedPeer (layout.decode_turns bytes)
unfolding layout.decode_turns
decoded_turns_sized bytes =
    record {
      sent = length_fixed 8 (part layout.sent_challenge_at 8 bytes);
      turn = length_fixed 8 (part layout.next_challenge_at 8 bytes);
    }

pub length_turns : (q : Peer) → SizedPeer q → length (layout.encode_turns q) ≡ layout.turns_size
unfolding layout.encode_turns
length_turns q s = simp (length-append, s.sent, s.turn)

pub decoded_peer_sized : (bytes : List ℕ) → SizedPeer (layout.decode_peer bytes)
decoded_peer_sized bytes = decoded_turns_sized (body_in layout.turns_size bytes)

-- what is taken for a peer has the size of one
pub length_encoded_peer : (bytes : List ℕ) → layout.is_encoded_peer bytes ≡ true
    → length bytes ≡ layout.peer_size
unfolding layout.is_encoded_peer
length_encoded_peer =
    encoding_length layout.encode_peer layout.decode_peer 21
    (λ (bytes : List ℕ). ap (λ (n : ℕ). suc (suc n))
    (length_turns (layout.decode_peer bytes) (decoded_peer_sized bytes)))

-- ---- round trip

pub turns_back : (q : Peer) → SizedPeer q → layout.decode_turns (layout.encode_turns q) ≡ q
unfolding layout.encode_turns layout.decode_turns
turns_back q s =
    peer_same (flag_back q.sent.present) refl
    (ap (fixed 8) sent.0 ∙ fixed_same 8 q.sent.challenge s.sent)
    (sym (get_or-drop 10 bytes 0 0) ∙ ap (λ (l : List ℕ). get_or l 0 0) sent.1)
    (ap (λ (l : List ℕ). fixed 8 (take 8 l)) (sym (drop-drop 1 10 bytes) ∙ ap (drop 1) sent.1)
    ∙ fixed_whole 8 q.turn.challenge s.turn)
  where
    turn : List ℕ
    turn = q.turn.id ∷ q.turn.challenge

    bytes : List ℕ
    bytes = flag q.sent.present ∷ q.sent.id ∷ (q.sent.challenge ++ turn)

    sent : (part 2 8 bytes ≡ q.sent.challenge) × (drop 10 bytes ≡ turn)
    sent = field bytes 2 8 q.sent.challenge turn refl s.sent

pub peer_back : (q : Peer) → SizedPeer q → layout.decode_peer (layout.encode_peer q) ≡ q
peer_back q s =
    tagged_back layout.encode_turns layout.decode_turns peer_kind 19 q (length_turns q s)
    (turns_back q s)

-- the encoding of a peer is taken for one
pub peer_fits : (q : Peer) → SizedPeer q → layout.is_encoded_peer (layout.encode_peer q) ≡ true
unfolding layout.is_encoded_peer
peer_fits q s = encoding_fits layout.encode_peer layout.decode_peer q (peer_back q s)
