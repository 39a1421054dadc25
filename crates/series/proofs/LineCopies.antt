-- The copies of our peer's packets on a line that loses packets: what each carries, and that our box
-- repeats its reply to every copy of the packet that it answered last. And what a packet draws that
-- is not judged.
-- Assumes nothing.
use mathlib.Core.Bool.{Bool, true, false, cond, not, ◌&&◌, and-false, false≢true}
use mathlib.Core.List.{List, [], ◌∷◌, ◌++◌}
use mathlib.Core.Logic.{◌⊎◌, inl, inr}
use mathlib.Core.Path.{◌≡◌, sym, ap, ◌∙◌}
use Prim.Native.Nat.{ℕ, ◌≤◌}
use borrow.Author.Tests.{eq-eqb}
use lib.Dec.{eqb}
use lib.ListN.{length}
use Rattle.packets.specs.Codes.{response_code}
use Rattle.packets.specs.Frame.{octet, bad_frame}
use Rattle.packets.specs.Reply.{longest_reply, read_reply}
use Rattle.accounts.specs.Account.{not_found}
use Rattle.accounts.specs.declared.Account.{Account}
use Rattle.verify.specs.declared.ChangeVersion.{ChangeVersion}
use Rattle.verify.specs.declared.ChangeVersion.TheVariants.{One, Two}
use Rattle.authenticator.specs.Admit.{is_repeat}
use Rattle.authenticator.specs.Conversation.{change_code_of}
use Rattle.authenticator.specs.Encode.{reply_packet}
use Rattle.authenticator.specs.Repeats.{Again, Drawn}
use Rattle.authenticator.specs.Step.{Outcome, is_repeated}
use Rattle.authenticator.specs.Steps.{StepInput, step_on, reply_of, drew_reply, BoxState}
use Rattle.authenticator.specs.Steps.{judged, NotJudged}
use Rattle.authenticator.specs.declared.Conversation.{Conversation}
use Rattle.authenticator.proofs.Admitted.{passes, readable_by}
use Rattle.authenticator.proofs.Repeats.{Keeps, all_three, repeats_again, drawn_again}
use Rattle.authenticator.proofs.Seen.{Tracks, judged_exactly, not_judged_lem, step_claim}
use Rattle.authenticator.proofs.Steps as steps
use Rattle.authenticator.proofs.Steps.{Case, case_of, repeated_reply}
use Rattle.peer.specs.Peer.{peer_reads}
use Rattle.peer.specs.Turn.{sent_for}
use Rattle.peer.specs.declared.Peer.{Peer}
use Rattle.peer.specs.declared.Sent.{Sent}
use Rattle.peer.specs.declared.Turn.{Turn}
use Rattle.peer.proofs.Left.{left, response_written_lem}
use Rattle.series.specs.Series.{
  Packet,
  invalid,
  right,
  password_change,
  Within,
  writes,
}
use Rattle.series.specs.Writers.{our_writer}
use Rattle.series.specs.LinePeers.{Copy, wrote_of, after_sending, our_line_peer}
use Rattle.series.specs.Line.{Delivery, passing, roomy, LineState, exchange_of, reply_due}
use Rattle.series.specs.Line.{LaterClaim}
use Rattle.series.proofs.Demand3.{our_change_written}
use Rattle.series.proofs.LineReplies.{due_read}
use Rattle.series.proofs.RoundTrips.{response_round_trip, change_round_trip}
use Rattle.series.proofs.RoundTrips.{change_one_round_trip}

-- ---- the limits

-- of a packet that can be written, and a reply buffer with room
pub within_room : (t : Packet) (out : List ℕ) (l : Delivery) → Within t (passing out roomy)
    → longest_reply ≤ length l.buffer → Within t (passing out l)
within_room (invalid w n) out l h room =
    record { not8 = h.not8; not10 = h.not10; not9 = h.not9; not2 = room }
within_room (right w n) out l h room =
    record { not8 = h.not8; not10 = h.not10; not9 = h.not9; not2 = room }
within_room (password_change v o n f) out l h room =
    record {
      old_not_8 = h.old_not_8;
      new_not_8 = h.new_not_8;
      not12 = h.not12;
      not9 = h.not9;
      not2 = room;
    }

-- it is written
pub is_written : (turn : Turn) (t : Packet) (out : List ℕ) → Within t (passing out roomy)
    → (writes our_writer turn t out).answer.refusal ≡ 0
is_written turn (invalid w n) out h = response_written_lem turn w n out h.not8 h.not10 h.not9
is_written turn (right w n) out h = response_written_lem turn w n out h.not8 h.not10 h.not9
is_written turn (password_change v o n f) out h =
    our_change_written v turn o n f (passing out roomy) h

-- ---- what a copy carries

abbrev pub code_of : Packet → ℕ
code_of (invalid w n) = response_code
code_of (right w n) = response_code
code_of (password_change v o n f) = change_code_of v

pub record Carries (k i : ℕ) (p : List ℕ) : Type 0 where
  pub frame : bad_frame p ≡ false
  pub code : octet 0 p ≡ k
  pub id : octet 1 p ≡ i

carried_by : (turn : Turn) (t : Packet) (out padding : List ℕ)
    → (writes our_writer turn t out).answer.refusal ≡ 0
    → Carries (code_of t) turn.id (left (writes our_writer turn t out) ++ padding)
carried_by turn (invalid w n) out padding ok =
    let back = response_round_trip turn w n out padding ok in
    record { frame = back.frame; code = back.code; id = back.id }
carried_by turn (right w n) out padding ok =
    let back = response_round_trip turn w n out padding ok in
    record { frame = back.frame; code = back.code; id = back.id }
carried_by turn (password_change One o n f) out padding ok =
    let back = change_one_round_trip turn o n out padding ok in
    record { frame = back.frame; code = back.code; id = back.id }
carried_by turn (password_change Two o n f) out padding ok =
    let back = change_round_trip turn o n f out padding ok in
    record { frame = back.frame; code = back.code; id = back.id }

module _ (c : Copy) (ok : (wrote_of our_writer c).answer.refusal ≡ 0) where
  pub copy_carries : (padding : List ℕ)
      → Carries (code_of c.packet) c.writing.turn.id
      (left (wrote_of our_writer c) ++ padding)
  copy_carries padding = carried_by c.writing.turn c.packet c.out padding ok

  -- our peer has sent it
  pub copy_sent : (after_sending our_writer c).sent ≡ sent_for c.writing.turn
  copy_sent = ap (λ (b : Bool). cond b (sent_for c.writing.turn) c.writing.sent) (eq-eqb _ 0 ok)

-- what a peer reads that has sent the packet of a turn
pub reads_sent : (q : Peer) (t : Turn) (reply : List ℕ) → q.sent ≡ sent_for t
    → peer_reads q reply ≡ read_reply t.id reply
reads_sent q t reply e =
    ap (λ (x : Sent). peer_reads (record { sent = x; turn = q.turn }) reply) e

-- ---- a copy of the packet that was answered last

-- code and identifier of a copy
abbrev pub head_of : Copy → List ℕ
head_of c = code_of c.packet ∷ c.writing.turn.id ∷ []

-- it was written, and the last answer of the conversation is the reply that is due to it
pub record Done (a : Account) (v : ChangeVersion) (x : Conversation) (c : Copy) : Type 0 where
  pub written : (wrote_of our_writer c).answer.refusal ≡ 0
  pub keeps : Keeps x (head_of c) (reply_due a v c.writing.turn.id c.packet)

module _ (a : Account) (v : ChangeVersion) (s : LineState) (c : Copy) (l : Delivery)
    (d : Done a v s.box.conversation c) (room : longest_reply ≤ length l.buffer)
    (kept : Tracks s.box) where
  abbrev conversation : Conversation
  conversation = s.box.conversation

  abbrev input : StepInput
  input = (exchange_of step_on our_line_peer s c l).input

  abbrev reply : List ℕ
  reply = reply_due a v c.writing.turn.id c.packet

  -- a packet of this code and identifier
  abbrev before : StepInput
  before = record { packet = head_of c; account = not_found; buffer = [] }

  again : Again before input
  again =
      let h = copy_carries c d.written l.padding in
      record { code = h.code; id = h.id; room = room; frame = h.frame }

  drawn : Drawn reply conversation input
  drawn = drawn_again conversation reply before input d.keeps again

  pub done_judged : judged step_on s.box input ≡ 0
  done_judged =
      let repeat = sym (step_claim s.box input kept).says_repeated
      ∙ ap (λ (o : Outcome). is_repeated o.answer.kind)
      (repeats_again conversation before input d.keeps again) in
      let drew = drew_reply (step_on conversation input) input.buffer in
      ap (λ (x : Bool). cond {A = ℕ} (drew && not x) 1 0) repeat
      ∙ ap (λ (x : Bool). cond {A = ℕ} x 1 0) (and-false drew)

  pub done_later : LaterClaim step_on our_line_peer a v s c l
  done_later =
      record {
        draws = (
          drawn.0,
          reads_sent (after_sending our_writer c) c.writing.turn _ (copy_sent c d.written)
              ∙ ap (λ (x : List ℕ). read_reply c.writing.turn.id (x ++ [])) drawn.0
              ∙ due_read a v c.writing.turn.id c.packet [],
        );
        not_judged = done_judged;
        leaves = drawn.1;
        no_record = drawn.2;
      }

-- ---- a packet that is not judged

-- it draws nothing, or the last answer again
module _ (p : BoxState) (s : StepInput) (kept : Tracks p) where
  abbrev c : Conversation
  c = p.conversation

  abbrev DrawsLast : Type 0
  DrawsLast =
      (reply_of (step_on c s) ≡ [])
      ⊎ ((c.last.present ≡ true)
      × (reply_of (step_on c s) ≡ reply_packet c.terms c.last.id c.last.reply))

  pub unjudged_reply : NotJudged step_on p s → DrawsLast
  unjudged_reply none = which (case_of c s.packet s.account s.buffer)
    where
      which : Case c s.packet s.account s.buffer → DrawsLast
      which (steps.refused n e) = inl (ap reply_of e)
      which (steps.repeated z r e) =
          let b = readable_by c s.packet s.buffer (is_repeat c.last s.packet) z in
          inr (
            (all_three c.last.present (eqb (octet 0 s.packet) c.last.code)
                (eqb (octet 1 s.packet) c.last.id) r).0,
            ap reply_of e ∙ repeated_reply c s.buffer b.room,
          )
      which (steps.judged h e) =
          absurd (false≢true (sym (not_judged_lem p s kept none) ∙ judged_exactly p s kept
          ∙ rw (passes c s.packet s.buffer h, h.fresh)))
