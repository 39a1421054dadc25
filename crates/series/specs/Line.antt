-- A line that loses packets (document 02, request 2026-08): a model of the line, and one claim
-- above demand 3. Words in quotes are that request's. The peer is a stop-and-wait sender: it writes
-- its next packet when it has read a reply to the one before, and retransmits that one until then.
-- The claim is stated here and not proved yet.
-- Assumes nothing: these are definitions.
use Rattle.std.specs.Prelude.{Bool, true, false, cond, ◌&&◌, ◌||◌, List, [], ◌∷◌, ◌++◌, ◌≢◌, ◌≡◌, ℕ}
use Rattle.std.specs.Prelude.{zero, suc, ◌+◌, ◌≤◌, ◌<◌, eqb, length, replicate}
use Rattle.std.proofs.Math.Option.{Option, none, some}
use Rattle.std.proofs.Math.ListN.{get_elem?}
use Rattle.message.specs.Reasons.{authentication_failure, password_expired}
use Rattle.std.specs.Prelude.{None, Ok, Err}
use Rattle.refusals.specs.declared.Refusal.TheVariants.{Identifier}
use Rattle.message.specs.Message.{text_of, failed_with}
use Rattle.message.specs.declared.Verdict.TheVariants.{Success, Failure}
use Rattle.packets.specs.Reply.{success_packet, failure_packet, longest_reply}
use Rattle.accounts.specs.Account.{Rightful, Agree}
use Rattle.accounts.specs.declared.Account.{Account}
use Rattle.verify.specs.declared.ChangeVersion.{ChangeVersion}
use Rattle.authenticator.specs.Opening.{Opening, retries_of, change_of, opened}
use Rattle.authenticator.specs.Encode.{version}
use Rattle.authenticator.specs.Steps.{StepInput, Box, reply_of, BoxState, unanswered, next_after}
use Rattle.authenticator.specs.Steps.{judged, next_state, NotJudged}
use Rattle.authenticator.specs.declared.Phase.TheVariants.{Ended}
use Rattle.peer.specs.Peer.{after_challenge}
use Rattle.peer.specs.Turn.{next_turn}
use Rattle.peer.specs.declared.Peer.{Peer}
use Rattle.series.specs.Course.{end, Along, total}
use Rattle.series.specs.LinePeers.{Copy, after_sending, Retransmission, LinePeer}
use Rattle.series.specs.Series as series
use Rattle.series.specs.Series.{
  Packet,
  Reading,
  invalid,
  right,
  password_change,
  Passed,
  own,
  ExchangeInput,
  ours,
  PacketKind,
  packet_kind,
  plan,
  SeriesState,
  challenge_read,
  Exchange,
  exchange,
  judged_at,
  Within,
  Meant,
  Draws,
}

-- ---- what travels

-- a packet that our peer is to write, and its output buffer
pub record Outgoing : Type 0 where
  pub packet : Packet
  pub out : List ℕ

abbrev pub outgoing_kinds : List Outgoing → List PacketKind
outgoing_kinds [] = []
outgoing_kinds (o ∷ os) = packet_kind o.packet ∷ outgoing_kinds os

-- What a step of the box sends back: which packet of our peer's it answers, none for a packet of
-- another's; and the reply's octets, none where the box gave no reply. The line may lose it even
-- so, or deliver it, which is then nothing: "a reply to it does too" is said of the line, and a box
-- that says nothing to a copy does not get out of the claim by that.
pub record LineReply : Type 0 where
  pub answers : Option ℕ
  pub octets : List ℕ

-- what is passed to a step that takes a copy: padding behind it, the record, the reply buffer
pub record Delivery : Type 0 where
  pub padding : List ℕ
  pub account : Passed
  pub buffer : List ℕ

-- as demand 3 has it
abbrev pub passing : List ℕ → Delivery → ExchangeInput
passing out l =
    record {
      out = out;
      packet_padding = l.padding;
      account = l.account;
      buffer = l.buffer;
      reply_padding = [];
    }

-- ---- the line

-- What happens: our peer retransmits its last packet; a packet on its way to the box is lost, or is
-- delivered; a reply on its way to our peer is lost, or is delivered, with padding behind it; or a
-- packet of another's reaches the box. The number says which one in its queue, 0 the first.
pub data LineEvent : Type 0 where
  retransmits : LineEvent
  packet_lost : ℕ → LineEvent
  packet_delivered : ℕ → Delivery → LineEvent
  reply_lost : ℕ → LineEvent
  reply_delivered : ℕ → List ℕ → LineEvent
  foreign : StepInput → LineEvent

-- "never reordered": what is delivered is the first in its queue (any may be lost)
abbrev pub IsFirst : ℕ → Type 0
IsFirst zero = Unit {0}
IsFirst (suc i) = ⊥

abbrev pub InOrder : LineEvent → Type 0
InOrder retransmits = Unit {0}
InOrder (packet_lost i) = Unit {0}
InOrder (packet_delivered i l) = IsFirst i
InOrder (reply_lost i) = Unit {0}
InOrder (reply_delivered i padding) = IsFirst i
InOrder (foreign s) = Unit {0}

-- The box, as it is seen from outside, our peer, and the record last handed out for the account;
-- the packets that our peer has still to write, its last one, and whether a reply to that is still
-- awaited; both queues; and the line's own book: the numbers of the packets of which a copy was
-- delivered, and of those to which a reply was.
pub record LineState : Type 0 where
  pub box : BoxState
  pub peer : Peer
  pub account : Account
  pub due : List Outgoing
  pub last : Copy
  pub awaits : Bool
  pub to_box : List Copy
  pub to_peer : List LineReply
  pub delivered : List ℕ
  pub replied : List ℕ

-- is n among these?
abbrev pub among : ℕ → List ℕ → Bool
among n [] = false
among n (m ∷ ms) = eqb n m || among n ms

-- a queue without its i-th
abbrev pub without : {A : Type 0} → ℕ → List A → List A
without i [] = []
without zero (x ∷ xs) = xs
without (suc i) (x ∷ xs) = x ∷ without i xs

-- a state with other queues, and with another peer
abbrev pub with_to_box : List Copy → LineState → LineState
with_to_box cs s =
    record {
      box = s.box;
      peer = s.peer;
      account = s.account;
      due = s.due;
      last = s.last;
      awaits = s.awaits;
      to_box = cs;
      to_peer = s.to_peer;
      delivered = s.delivered;
      replied = s.replied;
    }

abbrev pub with_to_peer : List LineReply → List ℕ → LineState → LineState
with_to_peer rs replied s =
    record {
      box = s.box;
      peer = s.peer;
      account = s.account;
      due = s.due;
      last = s.last;
      awaits = s.awaits;
      to_box = s.to_box;
      to_peer = rs;
      delivered = s.delivered;
      replied = replied;
    }

abbrev pub with_peer : Peer → LineState → LineState
with_peer q s =
    record {
      box = s.box;
      peer = q;
      account = s.account;
      due = s.due;
      last = s.last;
      awaits = s.awaits;
      to_box = s.to_box;
      to_peer = s.to_peer;
      delivered = s.delivered;
      replied = s.replied;
    }

-- demand 3's place of a copy: the box and the record as they are, our peer as it was when it wrote
abbrev pub place_of : LineState → Copy → SeriesState
place_of s c = record { box = s.box; peer = c.writing; account = s.account }

-- ---- what our peer does

-- it sends a packet: the one with this number, written from here
abbrev pub copy_of : ℕ → Peer → Outgoing → Copy
copy_of n q o = record { number = n; packet = o.packet; out = o.out; writing = q }

-- a reply is taken by a peer that does not refuse it
abbrev pub is_taken : Reading → Bool
is_taken (Ok v) = true
is_taken (Err r) = false

-- our peer once it has read so
abbrev pub after_reading : Peer → Reading → Peer
after_reading q r = record { sent = q.sent; turn = next_turn q r }

abbrev pub noted : Option ℕ → List ℕ → List ℕ
noted none ns = ns
noted (some n) ns = n ∷ ns

abbrev pub is_empty : List ℕ → Bool
is_empty [] = true
is_empty (x ∷ xs) = false

-- a copy is demand 3's step of its packet, but that our peer has still to read the reply
abbrev pub step_of : Copy → Delivery → series.Step
step_of c l = ours c.packet (passing c.out l)

-- ---- the premises

-- the other limits of demand 3: our peer's calls meet none of 8, 9, 10 and 12. (With a reply
-- buffer that has room, which is the step's matter.)
abbrev pub roomy : Delivery
roomy = record { padding = []; account = own; buffer = replicate longest_reply 0 }

abbrev pub Writable : List Outgoing → Type 0
Writable [] = Unit {0}
Writable (o ∷ os) = Within o.packet (passing o.out roomy) × Writable os

-- "If each packet sent repeatedly gets through at some repeat, and a reply to it does too": of
-- each packet that our peer sent, up to its last one, some copy was delivered, and some reply.
-- This speaks of the line alone: not of what the box made of a copy, nor our peer of a reply.
abbrev pub GotThrough : LineState → Type 0
GotThrough s = (n : ℕ) → n ≤ s.last.number
    → (among n s.delivered ≡ true) × (among n s.replied ≡ true)

-- ---- what is due

-- what is due to a packet: demand 3's reply, and what our peer reads of it
abbrev pub reply_due : Account → ChangeVersion → ℕ → Packet → List ℕ
reply_due a v id (invalid w n) = failure_packet id (text_of authentication_failure 1 (version v))
reply_due a v id (right w n) =
    cond a.expired (failure_packet id (text_of password_expired 0 (version v)))
    (success_packet id)
reply_due a v id (password_change u o n f) = success_packet id

abbrev pub reading_due : Account → ChangeVersion → Packet → Reading
reading_due a v (invalid w n) = Ok (Failure (failed_with authentication_failure 1 (version v) None))
reading_due a v (right w n) =
    cond a.expired (Ok (Failure (failed_with password_expired 0 (version v) None))) (Ok Success)
reading_due a v (password_change u o n f) = Ok Success

abbrev pub is_change_packet : Packet → Bool
is_change_packet (invalid w n) = false
is_change_packet (right w n) = false
is_change_packet (password_change v o n f) = true

-- ---- a run with a box and a peer

module _ (box : Box) (us : LinePeer) where
  -- "Our peer reads the Challenge", which is not lost, and sends its first packet.
  abbrev pub line_start : Opening → List ℕ → Account → Outgoing → List Outgoing → LineState
  line_start o behind a first rest =
      let c = copy_of 0 (after_challenge (challenge_read o behind)) first in
      record {
        box = unanswered (opened o).conversation;
        peer = after_sending us.writer c;
        account = a;
        due = rest;
        last = c;
        awaits = true;
        to_box = c ∷ [];
        to_peer = [];
        delivered = [];
        replied = [];
      }

  -- A reply came: our peer sends the next packet or, with none left, is done.
  abbrev pub moves_on : LineState → Peer → List Outgoing → LineState
  moves_on s q [] =
      record {
        box = s.box;
        peer = q;
        account = s.account;
        due = [];
        last = s.last;
        awaits = false;
        to_box = s.to_box;
        to_peer = s.to_peer;
        delivered = s.delivered;
        replied = s.replied;
      }
  moves_on s q (o ∷ os) =
      let c = copy_of (suc s.last.number) q o in
      record {
        box = s.box;
        peer = after_sending us.writer c;
        account = s.account;
        due = os;
        last = c;
        awaits = true;
        to_box = s.to_box ++ (c ∷ []);
        to_peer = s.to_peer;
        delivered = s.delivered;
        replied = s.replied;
      }

  -- "until a reply comes": one that our peer takes, while it awaits one
  abbrev pub has_read : LineState → Reading → LineState
  has_read s r =
      cond (s.awaits && is_taken r) (moves_on s (after_reading s.peer r) s.due)
      (with_peer (after_reading s.peer r) s)

  abbrev pub on_reply : LineState → ℕ → Option LineReply → List ℕ → LineState
  on_reply s i none padding = s
  on_reply s i (some r) padding =
      let t = with_to_peer (without i s.to_peer) (noted r.answers s.replied) s in
      cond (is_empty r.octets) t (has_read t (us.reads s.peer (r.octets ++ padding)))

  -- "send its last packet again"
  abbrev pub on_retransmission : LineState → Retransmission → LineState
  on_retransmission s r =
      record {
        box = s.box;
        peer = r.peer;
        account = s.account;
        due = s.due;
        last = r.copy;
        awaits = s.awaits;
        to_box = s.to_box ++ (r.copy ∷ []);
        to_peer = s.to_peer;
        delivered = s.delivered;
        replied = s.replied;
      }

  abbrev pub exchange_of : LineState → Copy → Delivery → Exchange
  exchange_of s c l = exchange box us.writer (place_of s c) c.packet (passing c.out l)

  abbrev pub on_delivery : LineState → ℕ → Option Copy → Delivery → LineState
  on_delivery s i none l = s
  on_delivery s i (some c) l =
      let p = series.next box us.writer (place_of s c) (step_of c l) in
      record {
        box = p.box;
        peer = s.peer;
        account = p.account;
        due = s.due;
        last = s.last;
        awaits = s.awaits;
        to_box = without i s.to_box;
        to_peer = s.to_peer ++ (record {
          answers = some c.number;
          octets = reply_of (exchange_of s c l).outcome;
        } ∷ []);
        delivered = c.number ∷ s.delivered;
        replied = s.replied;
      }

  -- what a packet of another's draws goes the same way
  abbrev pub on_foreign : LineState → StepInput → LineState
  on_foreign s i =
      record {
        box = next_state box s.box i;
        peer = s.peer;
        account = s.account;
        due = s.due;
        last = s.last;
        awaits = s.awaits;
        to_box = s.to_box;
        to_peer = s.to_peer ++ (record {
          answers = none;
          octets = reply_of (box s.box.conversation i);
        } ∷ []);
        delivered = s.delivered;
        replied = s.replied;
      }

  -- where an event leads; one that finds nothing in its place of the queue changes nothing
  abbrev pub line_next : LineState → LineEvent → LineState
  line_next s retransmits = cond s.awaits (on_retransmission s (us.again s.peer s.last)) s
  line_next s (packet_lost i) = with_to_box (without i s.to_box) s
  line_next s (packet_delivered i l) = on_delivery s i (get_elem? s.to_box i) l
  line_next s (reply_lost i) = with_to_peer (without i s.to_peer) s.replied s
  line_next s (reply_delivered i padding) = on_reply s i (get_elem? s.to_peer i) padding
  line_next s (foreign i) = on_foreign s i

  -- ---- the premises

  -- Each copy that is delivered finds room for a reply (2); the first of them comes with the record
  -- that demand 3 asks for, as one that is no repeat does: the right password's with the record
  -- last handed out. What is passed with the others is any.
  abbrev pub CopyAllowed : Account → LineState → Option Copy → Delivery → Type 0
  CopyAllowed a s none l = Unit {0}
  CopyAllowed a s (some c) l =
      (longest_reply ≤ length l.buffer)
      × (among c.number s.delivered ≡ false
      → Meant box us.writer a (place_of s c) c.packet (passing c.out l))

  -- a packet of another's is refused or a repeat, as in demand 3
  abbrev pub LineAllowed : Account → LineState → LineEvent → Type 0
  LineAllowed a s retransmits = Unit {0}
  LineAllowed a s (packet_lost i) = Unit {0}
  LineAllowed a s (packet_delivered i l) = CopyAllowed a s (get_elem? s.to_box i) l
  LineAllowed a s (reply_lost i) = Unit {0}
  LineAllowed a s (reply_delivered i padding) = Unit {0}
  LineAllowed a s (foreign i) = NotJudged box s.box i

  -- ---- the claim

  -- the first copy that is delivered: demand 3's claim, word for word, and it is judged
  abbrev pub FirstClaim : Account → ChangeVersion → LineState → Copy → Delivery → Type 0
  FirstClaim a v s c l =
      series.Claimed box us.writer a v (place_of s c) (step_of c l)
      × (judged_at box us.writer (place_of s c) (step_of c l) ≡ 1)

  -- each later one: the same reply, and nothing is judged, changed or handed out
  pub record LaterClaim (a : Account) (v : ChangeVersion) (s : LineState) (c : Copy)
      (l : Delivery) : Type 0 where
    pub draws : Draws (exchange_of s c l) (reply_due a v c.writing.turn.id c.packet)
        (reading_due a v c.packet)
    pub not_judged : judged_at box us.writer (place_of s c) (step_of c l) ≡ 0
    pub leaves : next_after box s.box.conversation (exchange_of s c l).input
        ≡ s.box.conversation
    pub no_record : (exchange_of s c l).outcome.answer.updated.found ≡ false

  abbrev pub CopyClaim : Account → ChangeVersion → LineState → Option Copy → Delivery → Type 0
  CopyClaim a v s none l = Unit {0}
  CopyClaim a v s (some c) l =
      cond (among c.number s.delivered) (LaterClaim a v s c l) (FirstClaim a v s c l)

  -- a reply to our peer's last packet: it reads what is due, and so moves on if it awaits one; a
  -- reply to an earlier one: it refuses it with 5, and nothing of it changes
  pub record ReplyClaim (a : Account) (v : ChangeVersion) (s : LineState) (r : LineReply)
      (padding : List ℕ) : Type 0 where
    pub takes : r.answers ≡ some s.last.number
        → us.reads s.peer (r.octets ++ padding) ≡ reading_due a v s.last.packet
    pub refuses : (n : ℕ) → r.answers ≡ some n → n ≢ s.last.number
        → (us.reads s.peer (r.octets ++ padding) ≡ Err Identifier)
        × (after_reading s.peer (us.reads s.peer (r.octets ++ padding)) ≡ s.peer)

  abbrev pub HeardClaim : Account → ChangeVersion → LineState → Option LineReply → List ℕ → Type 0
  HeardClaim a v s none padding = Unit {0}
  HeardClaim a v s (some r) padding = ReplyClaim a v s r padding

  abbrev pub LineClaimed : Account → ChangeVersion → LineState → LineEvent → Type 0
  LineClaimed a v s retransmits = Unit {0}
  LineClaimed a v s (packet_lost i) = Unit {0}
  LineClaimed a v s (packet_delivered i l) = CopyClaim a v s (get_elem? s.to_box i) l
  LineClaimed a v s (reply_lost i) = Unit {0}
  LineClaimed a v s (reply_delivered i padding) = HeardClaim a v s (get_elem? s.to_peer i) padding
  LineClaimed a v s (foreign i) = Unit {0}

  -- how many packets an event has judged
  abbrev pub judged_of : LineState → Option Copy → Delivery → ℕ
  judged_of s none l = 0
  judged_of s (some c) l = judged_at box us.writer (place_of s c) (step_of c l)

  abbrev pub judged_on : LineState → LineEvent → ℕ
  judged_on s retransmits = 0
  judged_on s (packet_lost i) = 0
  judged_on s (packet_delivered i l) = judged_of s (get_elem? s.to_box i) l
  judged_on s (reply_lost i) = 0
  judged_on s (reply_delivered i padding) = 0
  judged_on s (foreign i) = judged box s.box i

  -- how many records an event has handed out for a change
  abbrev pub records_of : LineState → Option Copy → Delivery → ℕ
  records_of s none l = 0
  records_of s (some c) l =
      cond (is_change_packet c.packet && (exchange_of s c l).outcome.answer.updated.found) 1 0

  abbrev pub records_on : LineState → LineEvent → ℕ
  records_on s retransmits = 0
  records_on s (packet_lost i) = 0
  records_on s (packet_delivered i l) = records_of s (get_elem? s.to_box i) l
  records_on s (reply_lost i) = 0
  records_on s (reply_delivered i padding) = 0
  records_on s (foreign i) = 0

  -- Whatever the line loses, each copy and each reply that it delivers is met as said above. Where
  -- each packet got through and a reply to it did, "demand 3 holds with the same number of judged
  -- packets, and exactly one record is handed out for a change": our peer has written all its
  -- packets and awaits no reply, so it has read what was due to each of them; k + 1 packets were
  -- judged, or k + 2 with the record expired, whatever the number of copies; and the conversation
  -- has ended. Order and Through are the line's: see LossyLine.
  abbrev pub LossyLineWith : (LineEvent → Type 0) → (LineState → Type 0) → Type 0
  LossyLineWith Order Through =
      (o : Opening) → (opened o).refusal ≡ 0 → length o.challenge ≡ 8
      → (a : Account) (k : ℕ) (behind : List ℕ) (first : Outgoing) (rest : List Outgoing)
      (es : List LineEvent)
      → Rightful a → Agree a → k ≤ retries_of o.retries → a.failures + k < o.limit
      → outgoing_kinds (first ∷ rest) ≡ plan k (change_of o.change) a.expired
      → Writable (first ∷ rest)
      → Along line_next (λ (s : LineState) (e : LineEvent). Order e)
      (line_start o behind a first rest) es
      → Along line_next (LineAllowed a) (line_start o behind a first rest) es
      → Along line_next (LineClaimed a (change_of o.change)) (line_start o behind a first rest) es
      × (Through (end line_next (line_start o behind a first rest) es)
      → ((end line_next (line_start o behind a first rest) es).awaits ≡ false)
      × ((end line_next (line_start o behind a first rest) es).due ≡ [])
      × (total line_next judged_on (line_start o behind a first rest) es ≡ k + cond a.expired 2 1)
      × (total line_next records_on (line_start o behind a first rest) es ≡ cond a.expired 1 0)
      × ((end line_next (line_start o behind a first rest) es).box.conversation.phase ≡ Ended))

  -- the request's line: it loses packets and replies, and reorders none
  abbrev pub LossyLine : Type 0
  LossyLine = LossyLineWith InOrder GotThrough
