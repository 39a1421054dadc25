-- Demand 3. Words in quotes are document 01's, "The series in demand 3", and document 02's,
-- requests 2026-01, 2026-07, 2026-09 and 2026-10.
-- Assumes nothing: these are definitions.
use Rattle.std.specs.Prelude.{None, Result, Ok}
use Rattle.std.specs.Prelude.{Bool, true, false, cond, List, [], ◌∷◌, ◌++◌, ◌≡◌, ℕ, ◌+◌, ◌≤◌, ◌<◌}
use Rattle.std.specs.Prelude.{length, take, replicate}
use Rattle.credentials.specs.Credentials.{nt_hash_of, bad_nt_password, bad_filler}
use Rattle.message.specs.Reasons.{authentication_failure, password_expired}
use Rattle.refusals.specs.declared.Refusal.{Refusal}
use Rattle.message.specs.Message.{text_of, failed_with}
use Rattle.message.specs.declared.Verdict.{Verdict}
use Rattle.message.specs.declared.Verdict.TheVariants.{Success, Failure}
use Rattle.packets.specs.Response.{bad_name, read_response}
use Rattle.packets.specs.Reply.{ChallengeFields, success_packet, failure_packet, read_challenge}
use Rattle.packets.specs.Reply.{longest_reply}
use Rattle.packets.specs.Sizes.{name_offset, change_size, change_one_size}
use Rattle.accounts.specs.Account.{found, Rightful, Agree}
use Rattle.verify.specs.Response.{found_valid}
use Rattle.verify.specs.declared.ChangeVersion.{ChangeVersion}
use Rattle.verify.specs.declared.ChangeVersion.TheVariants.{One, Two}
use Rattle.authenticator.specs.Opening.{Opening, retries_of, change_of, opened, opened_buffer}
use Rattle.authenticator.specs.Encode.{version}
use Rattle.authenticator.specs.Step.{Outcome}
use Rattle.authenticator.specs.Steps.{StepInput, Box, reply_of, BoxState, unanswered, judged}
use Rattle.authenticator.specs.Steps.{next_state, NotJudged, StepClaim}
use Rattle.accounts.specs.declared.Account.{Account}
use Rattle.accounts.specs.declared.Lookup.{Lookup}
use Rattle.authenticator.specs.declared.Phase.TheVariants.{Ended}
use Rattle.peer.specs.Write.{Wrote}
use Rattle.peer.specs.Peer.{after_challenge, after_writing, peer_reads, after_reply}
use Rattle.peer.specs.declared.Peer.{Peer}
use Rattle.peer.specs.declared.Turn.{Turn}
use Rattle.series.specs.Course.{collect, end, Along, total}
use Rattle.series.specs.Writers.{Writer}

-- ---- our peer's packets

-- A packet that our peer writes: a "try" from a password, invalid or with the "right password", or
-- the change, of either version. (Version 1's has no filler: what stands there has no effect.)
pub data Packet : Type 0 where
  invalid : (password name : List ℕ) → Packet
  right : (password name : List ℕ) → Packet
  password_change : (version : ChangeVersion) (old new filler : List ℕ) → Packet

-- The record that is passed with a packet: the rightful account's, which is "the record last handed
-- out" for it, or another account's or none.
pub data Passed : Type 0 where
  own : Passed
  another : Lookup → Passed

-- What is passed with it: our peer's output buffer and padding behind the packet; the step's record
-- and its reply buffer; padding behind the reply.
pub record ExchangeInput : Type 0 where
  pub out : List ℕ
  pub packet_padding : List ℕ
  pub account : Passed
  pub buffer : List ℕ
  pub reply_padding : List ℕ

-- A step of the "series": it takes our peer's next packet, or it is "any other step".
pub data Step : Type 0 where
  ours : Packet → ExchangeInput → Step
  other : StepInput → Step

pub data PacketKind : Type 0 where
  Invalid Right : PacketKind
  PasswordChange : ChangeVersion → PacketKind

abbrev pub packet_kind : Packet → PacketKind
packet_kind (invalid w n) = Invalid
packet_kind (right w n) = Right
packet_kind (password_change v o n f) = PasswordChange v

abbrev pub packet_kinds : Step → List PacketKind
packet_kinds (ours t l) = packet_kind t ∷ []
packet_kinds (other s) = []

-- our peer's packets in their order: "k invalid tries", the right password and, "after 648", the
-- change, of the version that the box was opened for: "For such a box demand 3 reads "version 1
-- change"" (request 2026-07)
abbrev pub plan : ℕ → ChangeVersion → Bool → List PacketKind
plan k v expired = replicate k Invalid ++ (Right ∷ cond expired (PasswordChange v ∷ []) [])

-- ---- a packet on its way

-- the box, as it is seen from outside, our peer, and the rightful account's record: "the record
-- last handed out", by a step that was passed it, and before that the first one
pub record SeriesState : Type 0 where
  pub box : BoxState
  pub peer : Peer
  pub account : Account

abbrev pub passed_with : Account → Passed → Lookup
passed_with a own = found a
passed_with a (another l) = l

-- the account's record afterwards, by what the box handed out
abbrev pub stored_after : Account → Passed → Outcome → Account
stored_after a own o = cond o.answer.updated.found o.answer.updated.account a
stored_after a (another l) o = a

-- "Our peer reads the Challenge .. as the box wrote" it, with padding behind it
abbrev pub challenge_read : Opening → List ℕ → ChallengeFields
challenge_read o behind = read_challenge (take (opened o).written (opened_buffer o) ++ behind)

abbrev pub start : Opening → List ℕ → Account → SeriesState
start o behind a = record {
  box = unanswered (opened o).conversation;
  peer = after_challenge (challenge_read o behind);
  account = a;
}

-- our peer "writes its next packet from" its turn
abbrev pub writes : Writer → Turn → Packet → List ℕ → Wrote
writes w t (invalid p n) out = w.response t p n out
writes w t (right p n) out = w.response t p n out
writes w t (password_change v o n f) out = w.change v t o n f out

-- "it reaches the box as written": what the writer left in its output buffer, with padding behind
-- it
abbrev pub reaching : Account → Wrote → ExchangeInput → StepInput
reaching a w l = record {
  packet = take w.answer.length w.out ++ l.packet_padding;
  account = passed_with a l.account;
  buffer = l.buffer;
}

-- A packet with what comes of it: what the writer left, the step that takes it, our peer once it
-- wrote, and what reaches our peer.
pub record Exchange : Type 0 where
  pub wrote : Wrote
  pub input : StepInput
  pub outcome : Outcome
  pub peer : Peer
  pub reply : List ℕ

-- ---- the premises

-- "The limits are kept when our peer's calls and the steps that take its packets meet none of 2, 8,
-- 9, 10 and 12." They are said of what is passed, by the rules of these refusals, and not of what
-- box or writer answers: so neither gets out of the claim by refusing.
pub record TryWithin (password name : List ℕ) (l : ExchangeInput) : Type 0 where
  pub not8 : bad_nt_password password ≡ false
  pub not10 : bad_name name ≡ false
  pub not9 : name_offset + length name ≤ length l.out
  pub not2 : longest_reply ≤ length l.buffer

-- how long a change is, and whether its filler draws 12: version 1's has none
abbrev pub change_size_of : ChangeVersion → ℕ
change_size_of One = change_one_size
change_size_of Two = change_size

abbrev pub bad_filler_of : ChangeVersion → List ℕ → Bool
bad_filler_of One filler = false
bad_filler_of Two filler = bad_filler filler

pub record ChangeWithin (v : ChangeVersion) (old new filler : List ℕ)
    (l : ExchangeInput) : Type 0 where
  pub old_not_8 : bad_nt_password old ≡ false
  pub new_not_8 : bad_nt_password new ≡ false
  pub not12 : bad_filler_of v filler ≡ false
  pub not9 : change_size_of v ≤ length l.out
  pub not2 : longest_reply ≤ length l.buffer

abbrev pub Within : Packet → ExchangeInput → Type 0
Within (invalid w n) l = TryWithin w n l
Within (right w n) l = TryWithin w n l
Within (password_change v o n f) l = ChangeWithin v o n f l

-- ---- the claim

-- what our peer reads in a reply, or the refusal
abbrev pub Reading : Type 0
Reading = Result Verdict Refusal

-- what a packet draws, octet for octet, and what our peer reads of it
abbrev pub Draws : Exchange → List ℕ → Reading → Type 0
Draws x reply reading = (reply_of x.outcome ≡ reply) × (peer_reads x.peer x.reply ≡ reading)

-- a Failure that a box writes that was opened for a version's change: V tells it
abbrev pub DrawsFailure : Exchange → ChangeVersion → ℕ → ℕ → ℕ → Type 0
DrawsFailure x v id e r = Draws x (failure_packet id (text_of e r (version v)))
    (Ok (Failure (failed_with e r (version v) None)))

abbrev pub DrawsSuccess : Exchange → ℕ → Type 0
DrawsSuccess x id = Draws x (success_packet id) (Ok Success)

-- ---- a series with a box and a writer

abbrev pub carried : Box → SeriesState → Wrote → ExchangeInput → Exchange
carried box p w l =
    let s = reaching p.account w l in
    record {
      wrote = w;
      input = s;
      outcome = box p.box.conversation s;
      peer = after_writing p.peer w.answer;
      reply = reply_of (box p.box.conversation s) ++ l.reply_padding;
    }

module _ (box : Box) (writer : Writer) where
  abbrev pub exchange : SeriesState → Packet → ExchangeInput → Exchange
  exchange p t l = carried box p (writes writer p.peer.turn t l.out) l

  -- where a step leads
  abbrev pub next : SeriesState → Step → SeriesState
  next p (ours t l) =
      record {
        box = next_state box p.box (exchange p t l).input;
        peer = after_reply (exchange p t l).peer (exchange p t l).reply;
        account = stored_after p.account l.account (exchange p t l).outcome;
      }
  next p (other s) =
      record { box = next_state box p.box s; peer = p.peer; account = p.account }

  -- a step's input, and whether its packet is judged
  abbrev pub input_at : SeriesState → Step → StepInput
  input_at p (ours t l) = (exchange p t l).input
  input_at p (other s) = s

  abbrev pub judged_at : SeriesState → Step → ℕ
  judged_at p m = judged box p.box (input_at p m)

  -- An invalid try comes with a record for which it is judged invalid, the rightful account's or
  -- another's, or none. "The right password is one whose NT hash is the record's", that of the
  -- first record (a), and the record last handed out is passed: so a box that hands out another one
  -- is held to the claim too. The change is "written with the right password as the old one", and
  -- passed with any record or none.
  abbrev pub Meant : Account → SeriesState → Packet → ExchangeInput → Type 0
  Meant a p (invalid w n) l =
      found_valid p.box.conversation.terms p.box.conversation.challenge
      (passed_with p.account l.account)
      (read_response (exchange p (invalid w n) l).input.packet) ≡ false
  Meant a p (right w n) l = (nt_hash_of w ≡ a.nt.octets) × (l.account ≡ own)
  Meant a p (password_change v o n f) l = nt_hash_of o ≡ a.nt.octets

  -- "Any other step may have any packet, record and buffer with which the box refuses it"; "its
  -- others may be repeats too".
  abbrev pub Allowed : Account → SeriesState → Step → Type 0
  Allowed a p (ours t l) = Within t l × Meant a p t l
  Allowed a p (other s) = NotJudged box p.box s

  -- "after any opening not refused and any refused steps"
  abbrev pub later : Opening → List ℕ → Account → List StepInput → SeriesState
  later o behind a ss = record {
    box = end (next_state box) (unanswered (opened o).conversation) ss;
    peer = (start o behind a).peer;
    account = a;
  }

  -- A record "lets a password in at the first Response of a later conversation", "under the same
  -- limits".
  abbrev pub LetsIn : Account → List ℕ → Type 0
  LetsIn a password =
      (o : Opening) (behind name : List ℕ) (ss : List StepInput) (l : ExchangeInput)
      → (opened o).refusal ≡ 0 → length o.challenge ≡ 8
      → Along (next_state box) (NotJudged box) (unanswered (opened o).conversation) ss
      → l.account ≡ own
      → TryWithin password name l
      → DrawsSuccess (exchange (later o behind a ss) (right password name) l) o.id

  -- An invalid try draws 691 with R=1; the right password Success or, expired, 648; the change
  -- Success, and a record is handed out that lets the new password in. (What a reading calls for is
  -- part of it: a retry, a change of the version that the box was opened for, v.)
  abbrev pub Answered : Account → ChangeVersion → ℕ → Packet → Exchange → Type 0
  Answered a v id (invalid w n) x = DrawsFailure x v id authentication_failure 1
  Answered a v id (right w n) x = cond a.expired (DrawsFailure x v id password_expired 0)
      (DrawsSuccess x id)
  Answered a v id (password_change u o n f) x =
      DrawsSuccess x id × (x.outcome.answer.updated.found ≡ true)
      × LetsIn x.outcome.answer.updated.account n

  -- each packet of our peer is written, not refused, and is answered
  abbrev pub Claimed : Account → ChangeVersion → SeriesState → Step → Type 0
  Claimed a v p (ours t l) = Answered a v p.peer.turn.id t (exchange p t l)
      × ((exchange p t l).wrote.answer.refusal ≡ 0)
  Claimed a v p (other s) = Unit {0}

  -- "A single claim about the series from opening to end": the Challenge is read; where the round
  -- keys agree with the hashes and "the count before plus the invalid tries is below the limit",
  -- each packet of our peer is written and draws what it should, the change being the one that the
  -- opening names; "with k invalid tries the box judges exactly k + 1 packets, or k + 2 with the
  -- record expired", whatever refused packets and repeats come between them, and the conversation
  -- has ended; of any steps at all, with records of any round keys, it judges at most r + 2, and
  -- each does what StepClaim says: a repeat draws the same reply, what is not judged leaves all as
  -- it was, and a judged Response hands its record out, counted by the round keys that it carries.
  -- It holds of our box and writer (proofs/Demand3), and of none of the wrong ones in specs/Boxes
  -- and specs/Writers (proofs/Wrong, WrongRefusals, WrongRepeats, WrongCounts, WrongSchedules,
  -- WrongChanges, WrongWriters).
  abbrev pub Demand3 : Type 0
  Demand3 =
      (o : Opening) → (opened o).refusal ≡ 0 → length o.challenge ≡ 8
      → ((behind : List ℕ) → challenge_read o behind
      ≡ record { refusal = 0; id = o.id; challenge = o.challenge })
      × ((a : Account) (k : ℕ) (behind : List ℕ) (ms : List Step)
      → Rightful a → Agree a → k ≤ retries_of o.retries → a.failures + k < o.limit
      → collect packet_kinds ms ≡ plan k (change_of o.change) a.expired
      → Along next (Allowed a) (start o behind a) ms
      → Along next (Claimed a (change_of o.change)) (start o behind a) ms
      × (total next judged_at (start o behind a) ms ≡ k + cond a.expired 2 1)
      × ((end next (start o behind a) ms).box.conversation.phase ≡ Ended))
      × ((ss : List StepInput)
      → (total (next_state box) (judged box) (unanswered (opened o).conversation) ss
      ≤ retries_of o.retries + 2)
      × Along (next_state box) (StepClaim box) (unanswered (opened o).conversation) ss)
