-- A packet of our peer that draws a reply: what our peer reads, and where box and peer stand
-- afterwards.
-- Assumes nothing.
use mathlib.Core.Bool.{Bool, true, false, cond, not, ◌&&◌}
use mathlib.Core.List.{List, ◌++◌}
use mathlib.Core.Path.{◌≡◌, sym, ap, ap₂, ◌∙◌}
use Prim.Native.Nat.{ℕ, ◌≤◌, ◌<◌}
use lib.ListN.{length}
use Rattle.packets.specs.Reply.{longest_reply, read_reply}
use Rattle.authenticator.specs.Conversation.{answer_with, with_last}
use Rattle.authenticator.specs.Judge.{reason_of}
use Rattle.authenticator.specs.Encode.{reply_packet}
use Rattle.authenticator.specs.Step.{Outcome, is_repeated, judged_as}
use Rattle.authenticator.specs.Steps.{StepInput, step_on, reply_of, drew_reply, is_repeat_at}
use Rattle.authenticator.specs.Steps.{next_after, judged}
use Rattle.authenticator.specs.declared.Conversation.{Conversation}
use Rattle.authenticator.specs.Judge.{Judgement}
use Rattle.authenticator.proofs.Replies.{reading_for, read_reply_lem}
use Rattle.authenticator.proofs.Seen.{Tracks, step_claim}
use Rattle.authenticator.proofs.Steps.{reply_of_lem, drew_judged}
use Rattle.peer.specs.Turn.{sent_for, next_turn}
use Rattle.peer.specs.Write.{Wrote}
use Rattle.peer.specs.Peer.{after_writing, peer_reads, after_reply}
use Rattle.peer.specs.declared.Peer.{Peer}
use Rattle.peer.specs.declared.Turn.{Turn}
use Rattle.series.specs.Series.{Reading, ExchangeInput, SeriesState, reaching, carried, Draws}

-- our peer once the packet of a turn was sent
abbrev pub sent_by : Turn → Peer
sent_by t = record { sent = sent_for t; turn = t }

-- the judgement d is drawn, and our peer reads its reply
pub record Exchanged (p : SeriesState) (w : Wrote) (l : ExchangeInput)
    (d : Judgement) : Type 0 where
  pub draws : Draws (carried step_on p w l)
      (reply_packet p.box.conversation.terms p.box.conversation.id d.reply)
      (reading_for p.box.conversation.terms d.reply)
  pub judges : judged step_on p.box (reaching p.account w l) ≡ 1
  -- where box and peer stand then, and the record that is handed out
  pub handed : (carried step_on p w l).outcome.answer.updated ≡ d.updated
  pub conversation : next_after step_on p.box.conversation (reaching p.account w l)
      ≡ with_last (answer_with p.box.conversation d.reply) d.next
  pub turn : (after_reply (carried step_on p w l).peer (carried step_on p w l).reply).turn
      ≡ next_turn (sent_by p.peer.turn) (reading_for p.box.conversation.terms d.reply)

module _ (p : SeriesState) (w : Wrote) (l : ExchangeInput) (d : Judgement) (kept : Tracks p.box)
    (same_id : p.box.conversation.id ≡ p.peer.turn.id)
    (zero : w.answer.refusal ≡ 0) (room : longest_reply ≤ length l.buffer)
    (small : reason_of d.reply < 1000)
    (took : step_on p.box.conversation (reaching p.account w l)
    ≡ judged_as p.box.conversation d l.buffer)
  where
    abbrev c : Conversation
    c = p.box.conversation

    abbrev s : StepInput
    s = reaching p.account w l

    heard : read_reply p.peer.turn.id (reply_packet c.terms c.id
        d.reply ++ l.reply_padding)
        ≡ reading_for c.terms d.reply
    heard =
        ap (λ (i : ℕ). read_reply i (reply_packet c.terms c.id d.reply ++ l.reply_padding))
        (sym same_id)
        ∙ read_reply_lem c.terms c.id d.reply l.reply_padding small

    sent_same : after_writing p.peer w.answer ≡ sent_by p.peer.turn
    sent_same = rw zero

    reply_same : reply_of (step_on c s) ≡ reply_packet c.terms c.id d.reply
    reply_same = ap reply_of took ∙ reply_of_lem c d l.buffer room

    read_same : peer_reads (after_writing p.peer w.answer)
        (reply_of (step_on c s) ++ l.reply_padding) ≡ reading_for c.terms d.reply
    read_same = ap₂ (λ (q : Peer) (r : List ℕ). peer_reads q (r ++ l.reply_padding)) sent_same
        reply_same ∙ heard

    -- a reply is drawn, and it is no repeat
    no_repeat : is_repeat_at p.box s ≡ false
    no_repeat =
        sym (step_claim p.box s kept).says_repeated
        ∙ ap (λ (o : Outcome). is_repeated o.answer.kind) took

    drawn : drew_reply (step_on c s) l.buffer ≡ true
    drawn = ap (λ (o : Outcome). drew_reply o l.buffer) took ∙ drew_judged c s d

    pub exchanged : Exchanged p w l d
    exchanged =
        record {
          draws = (reply_same, read_same);
          judges = ap₂ (λ (t u : Bool). cond {A = ℕ} (t && not u) 1 0) drawn no_repeat;
          handed = ap (λ (o : Outcome). o.answer.updated) took;
          conversation = ap (λ (o : Outcome). o.answer.next) took;
          turn = ap₂ (λ (q : Peer) (r : Reading). next_turn q r) sent_same read_same;
        }
