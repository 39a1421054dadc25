-- What the peer's functions write is valid for the next of them: the library never refuses an
-- encoding of its own as a bad argument.
-- Assumes nothing.
use mathlib.Core.Bool.{Bool, true, false, cond}
use mathlib.Core.List.{List, [], ◌∷◌}
use Rattle.std.specs.Prelude.{Option, Some, None, Result, Ok, Err, unwrap_or}
use Rattle.refusals.specs.declared.Refusal.{Refusal}
use Rattle.refusals.specs.declared.Refusal.TheVariants.{Kind}
use mathlib.Core.Path.{◌≡◌, refl, ap}
use Prim.Native.Nat.{ℕ, zero, suc, ◌+◌}
use native.Mathlib.Omega.{arith}
use lib.Dec.{eqb, ltb}
use lib.ListN.{length}
use Rattle.octets.specs.Parts.{part, fixed}
use Rattle.octets.proofs.Parts.{length_fixed}
use Rattle.octets.specs.Digits.{pairs}
use Rattle.message.specs.Message.{words, first_field, field_e, field_c, new_challenge_from}
use Rattle.message.specs.Message.{read_fields, read_message}
use Rattle.message.specs.Inner.{IfSome, Eight}
use Rattle.message.specs.declared.Call.{Call}
use Rattle.message.specs.declared.Call.TheVariants.{Retry, ChangeTwo, ChangeOne, End}
use Rattle.message.specs.declared.Verdict.{Verdict}
use Rattle.message.specs.declared.Verdict.TheVariants.{Success, Failure}
use Rattle.message.proofs.Formed.{first_eight}
use Rattle.packets.specs.Frame.{octet, bad_frame, bad_id, data_of, Written}
use Rattle.challenges.specs.Challenges.{incremented}
use Rattle.packets.specs.Reply.{failure_in, ChallengeFields, refused_challenge, bad_challenge}
use Rattle.packets.specs.Reply.{read_challenge, read_reply}
use Rattle.authenticator.proofs.Spends.{length_incremented}
use Rattle.peer.specs.Turn.{sent_for, turn_for, turn_read, next_turn}
use Rattle.peer.specs.Peer.{after_challenge, after_writing, peer_reads, after_reply}
use Rattle.peer.specs.declared.Peer.{Peer}
use Rattle.peer.specs.declared.Sent.{Sent}
use Rattle.layouts.specs.Peers.{encode_peer, decode_peer, is_encoded_peer}
use Rattle.layouts.proofs.PeerLaws.{SizedPeer, decoded_peer_sized, peer_fits}

-- ---- the challenge that a reply may give

-- digits in pairs are half as many bytes
half : (n : ℕ) (ds : List ℕ) → length ds ≡ n + n → length (pairs ds) ≡ n
half zero [] h = refl
half zero (x ∷ ds) h = absurd (omega arith)
half (suc n) [] h = absurd (omega arith)
half (suc n) (x ∷ []) h = absurd (omega arith)
half (suc n) (x ∷ y ∷ ds) h = ap suc (half n ds (omega arith))

-- a challenge C has eight bytes, where it is given
abbrev pub IfEight : Option (List ℕ) → Type 0
IfEight None = Unit {0}
IfEight (Some c) = length c ≡ 8

given_eight : (o : Option (List ℕ)) → IfSome Eight o → IfEight (new_challenge_from o)
given_eight None h = tt
given_eight (Some ds) h = half 8 ds h.long

-- and so it has in whatever was read
abbrev GivenIn : Result Verdict Refusal → Type 0
GivenIn (Ok Success) = Unit {0}
GivenIn (Ok (Failure f)) = IfEight f.c
GivenIn (Err r) = Unit {0}

record EightGiven (r : Result Verdict Refusal) : Type 0 where
  eight : GivenIn r

choice_given : (b : Bool) {x y : Result Verdict Refusal} → EightGiven x → EightGiven y
    → EightGiven (cond b x y)
choice_given true s t = s
choice_given false s t = t

fields_given : (ws : List (List ℕ)) (e : Option (List ℕ))
    → EightGiven (failure_in (read_fields ws e))
fields_given ws None = record { eight = tt }
fields_given ws (Some e) =
    record { eight = given_eight (first_field field_c ws) (first_eight ws) }

message_given : (over : Bool) (ws : List (List ℕ))
    → EightGiven (failure_in (cond over (Err Kind) (read_fields ws (first_field field_e ws))))
message_given true ws = record { eight = tt }
message_given false ws = fields_given ws (first_field field_e ws)

reply_given : (last : ℕ) (p : List ℕ) → EightGiven (read_reply last p)
unfolding read_reply read_message
reply_given last p =
    choice_given (bad_frame p) (record { eight = tt })
    (choice_given (bad_id last p) (record { eight = tt })
    (choice_given (eqb (octet 0 p) 3) (record { eight = tt })
    (choice_given (eqb (octet 0 p) 4)
    (message_given (ltb 256 (length (data_of p))) (words (data_of p)))
    (record { eight = tt }))))

-- before the first packet none is given
peer_reads_given : (q : Peer) (p : List ℕ) → EightGiven (peer_reads q p)
peer_reads_given q p =
    choice_given q.sent.present (reply_given q.sent.id p)
    (choice_given (bad_frame p) (record { eight = tt }) (record { eight = tt }))

-- ---- the peer's next turn

module _ (q : Peer) (s : SizedPeer q) where
  retry_eight : (c : Option (List ℕ)) → IfEight c
      → length (unwrap_or c (incremented q.sent.challenge)) ≡ 8
  retry_eight (Some c) e = e
  retry_eight None e = rw length_incremented s.sent

  call_eight : (k : Call) (c : Option (List ℕ)) → IfEight c
      → length (turn_for k q.sent c).challenge ≡ 8
  call_eight Retry c e = retry_eight c e
  call_eight ChangeTwo c e = s.sent
  call_eight ChangeOne c e = s.sent
  call_eight End c e = s.sent

  turn_eight : (v : Result Verdict Refusal) → GivenIn v → length (turn_read v q).challenge ≡ 8
  turn_eight (Ok Success) e = s.sent
  turn_eight (Ok (Failure f)) e = call_eight f.call f.c e
  turn_eight (Err r) e = s.turn

-- ---- the peer after each call

after_challenge_sized : (packet : List ℕ) → SizedPeer (after_challenge (read_challenge packet))
unfolding read_challenge
after_challenge_sized packet =
    record { sent = refl; turn = by (bad_frame packet) (bad_challenge packet) }
  where
    read : ChallengeFields
    read = record { refusal = 0; id = octet 1 packet; challenge = fixed 8 (part 5 8 packet) }

    by : (b d : Bool)
        → length (cond {A = ChallengeFields} b (refused_challenge 3)
        (cond d (refused_challenge 11) read)).challenge ≡ 8
    by true d = refl
    by false true = refl
    by false false = length_fixed 8 (part 5 8 packet)

after_writing_sized : (q : Peer) (w : Written) → SizedPeer q → SizedPeer (after_writing q w)
after_writing_sized q w s = record { sent = by (eqb w.refusal 0); turn = s.turn }
  where
    by : (b : Bool) → length (cond {A = Sent} b (sent_for q.turn) q.sent).challenge ≡ 8
    by true = s.turn
    by false = s.sent

after_reply_sized : (q : Peer) (packet : List ℕ) → SizedPeer q → SizedPeer (after_reply q packet)
unfolding next_turn
after_reply_sized q packet s =
    record {
      sent = s.sent;
      turn = turn_eight q s (peer_reads q packet) (peer_reads_given q packet).eight;
    }

-- the encoding of a peer is valid for the next call
abbrev pub Fits : Peer → Type 0
Fits q = is_encoded_peer (encode_peer q) ≡ true

pub challenge_fits : (packet : List ℕ) → Fits (after_challenge (read_challenge packet))
challenge_fits packet =
    peer_fits (after_challenge (read_challenge packet)) (after_challenge_sized packet)

pub writing_fits : (peer : List ℕ) (w : Written) → Fits (after_writing (decode_peer peer) w)
writing_fits peer w =
    let q = decode_peer peer in
    peer_fits (after_writing q w) (after_writing_sized q w (decoded_peer_sized peer))

pub reply_fits : (peer packet : List ℕ) → Fits (after_reply (decode_peer peer) packet)
reply_fits peer packet =
    let q = decode_peer peer in
    peer_fits (after_reply q packet) (after_reply_sized q packet (decoded_peer_sized peer))
