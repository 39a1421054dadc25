-- The peer's turns (document 01, "What the peer reads", and document 02, request 2026-07: a version
-- 1 change is sent too). A Challenge and a reply are read by `packets`.
-- Assumes nothing: these are definitions.
use Rattle.std.specs.Prelude.{true, List, ℕ, Option, Result, Ok, Err, unwrap_or}
use Rattle.refusals.specs.declared.Refusal.{Refusal}
use Rattle.message.specs.declared.Verdict.{Verdict}
use Rattle.message.specs.declared.Verdict.TheVariants.{Success, Failure}
use Rattle.message.specs.declared.Call.{Call}
use Rattle.message.specs.declared.Call.TheVariants.{Retry, ChangeTwo, ChangeOne, End}
use Rattle.challenges.specs.Challenges.{next_id, incremented}
use Rattle.packets.specs.Reply.{ChallengeFields}
use Rattle.peer.specs.declared.Peer.{Peer}
use Rattle.peer.specs.declared.Turn.{Turn}
use Rattle.peer.specs.declared.Sent.{Sent}

-- the turn that a Challenge asks for: the first Response has its identifier (RFC 1994, section 4.1)
abbrev pub first_turn : ChallengeFields → Turn
first_turn a = record { id = a.id; challenge = a.challenge }

-- what was sent, once the packet of a turn is written
abbrev pub sent_for : Turn → Sent
sent_for t = record { present = true; id = t.id; challenge = t.challenge }

-- nothing is to be sent: the turn of the last packet
abbrev pub same_turn : Sent → Turn
same_turn s = record { id = s.id; challenge = s.challenge }

-- a retry takes C where given, else the 23 rule
abbrev pub retry_turn : Sent → Option (List ℕ) → Turn
retry_turn s c =
    record {
      id = next_id s.id;
      challenge = unwrap_or c (incremented s.challenge);
    }

-- a change of either version uses the last Response's challenge, whatever C says
abbrev pub change_turn : Sent → Turn
change_turn s = record { id = next_id s.id; challenge = s.challenge }

abbrev pub turn_for : Call → Sent → Option (List ℕ) → Turn
turn_for Retry s c = retry_turn s c
turn_for ChangeTwo s c = change_turn s
turn_for ChangeOne s c = change_turn s
turn_for End s c = same_turn s

-- by what was sent
abbrev pub turn_after : Verdict → Sent → Turn
turn_after Success s = same_turn s
turn_after (Failure f) s = turn_for f.call s f.c

-- a packet that is refused leaves the turn as it was
abbrev pub turn_read : Result Verdict Refusal → Peer → Turn
turn_read (Ok v) q = turn_after v q.sent
turn_read (Err r) q = q.turn

unfoldable pub next_turn : Peer → Result Verdict Refusal → Turn
next_turn q r = turn_read r q
