-- The authenticator's steps, one after the other. Words in quotes are document 01's, "The series in
-- demand 3", and document 02's, requests 2026-01 and 2026-09.
-- Assumes nothing: these are definitions.
use Rattle.std.specs.Prelude.{Bool, true, false, cond, not, ◌&&◌, ◌||◌, List, ◌≢◌, ◌⊎◌, ◌≡◌, ℕ, eqb}
use Rattle.std.specs.Prelude.{ltb, length, take}
use Rattle.std.proofs.Math.Option.{Option, none, some}
use Rattle.octets.specs.Parts.{agrees}
use Rattle.packets.specs.Frame.{octet, bad_frame, written_over}
use Rattle.packets.specs.Codes.{response_code}
use Rattle.packets.specs.Reply.{bad_reply_buffer}
use Rattle.packets.specs.Response.{read_response}
use Rattle.verify.specs.Response.{counted}
use Rattle.authenticator.specs.Admit.{carries, refusal_for}
use Rattle.authenticator.specs.Step.{Outcome, step, refusal_in, is_repeated}
use Rattle.accounts.specs.Account.{found}
use Rattle.accounts.specs.declared.Lookup.{Lookup}
use Rattle.authenticator.specs.declared.Conversation.{Conversation}

-- "Each step is lent a packet, a record or none, and a reply buffer."
pub record StepInput : Type 0 where
  pub packet : List ℕ
  pub account : Lookup
  pub buffer : List ℕ

-- What a box makes of a conversation and of a step's input; ours is `step_on`. What follows is
-- said of any box, so that it can be shown which boxes demand 3 shuts out.
abbrev pub Box : Type 0
Box = Conversation → StepInput → Outcome

abbrev pub step_on : Box
step_on c s = step c s.packet s.account s.buffer

-- the reply of a step
abbrev pub reply_of : Outcome → List ℕ
reply_of o = take o.answer.written o.buffer

-- What is seen of a reply: octets were written, or the buffer is not as it was. A box that lays a
-- reply into the buffer and calls the packet refused, with nothing written, drew one all the same.
abbrev pub drew_reply : Outcome → List ℕ → Bool
drew_reply o before = ltb 0 o.answer.written || not (agrees o.buffer before)

-- ---- what is seen of a series from outside

-- a packet that drew a reply: its code, its identifier and the reply's octets
pub record AnsweredPacket : Type 0 where
  pub code : ℕ
  pub id : ℕ
  pub reply : List ℕ

-- Where a series stands: "the conversation that the opening or the step before gave back", and the
-- packet that last drew a reply that was no repeat, or none. The latter goes by the packets and
-- replies of the series; what the box keeps, or calls a repeat, counts for nothing.
pub record BoxState : Type 0 where
  pub conversation : Conversation
  pub answered : Option AnsweredPacket

-- after the opening
abbrev pub unanswered : Conversation → BoxState
unanswered c = record { conversation = c; answered = none }

-- "A packet with the identifier and code last answered, whatever its other contents"
abbrev pub repeats_answered : Option AnsweredPacket → List ℕ → Bool
repeats_answered none p = false
repeats_answered (some a) p = carries a.code a.id p

-- and with room for a reply and a good frame: "2 and 3 first, then the repeat"
abbrev pub is_repeat_at : BoxState → StepInput → Bool
is_repeat_at p s = not (bad_reply_buffer s.buffer)
    && (not (bad_frame s.packet) && repeats_answered p.answered s.packet)

-- the refusal that the rules give
abbrev pub ruled_refusal : BoxState → StepInput → ℕ
ruled_refusal p s =
    refusal_for (repeats_answered p.answered s.packet) p.conversation s.packet s.buffer

module _ (box : Box) where
  -- "the conversation that .. the step before gave back"
  abbrev pub next_after : Conversation → StepInput → Conversation
  next_after c s = (box c s).answer.next

  -- the number that the box itself gives
  abbrev pub refusal_at : Conversation → StepInput → ℕ
  refusal_at c s = refusal_in (box c s).answer.kind

  -- "judged packets only, whose reply is no repeat"
  abbrev pub is_judged : BoxState → StepInput → Bool
  is_judged p s = drew_reply (box p.conversation s) s.buffer && not (is_repeat_at p s)

  -- 1 for a packet that is judged
  abbrev pub judged : BoxState → StepInput → ℕ
  judged p s = cond (is_judged p s) 1 0

  -- where a step leads
  abbrev pub next_state : BoxState → StepInput → BoxState
  next_state p s =
      record {
        conversation = next_after p.conversation s;
        answered = cond (is_judged p s)
            (some (record {
              code = octet 0 s.packet;
              id = octet 1 s.packet;
              reply = reply_of (box p.conversation s);
            }))
            p.answered;
      }

  -- A packet "with which the box refuses it", or a repeat ("its others may be repeats too"): it
  -- draws no reply but a repeat's, or the rules refuse it. So the box's own word for what it did
  -- counts for nothing, and a box that judges what it should refuse or repeat is held to the claim
  -- too.
  abbrev pub NotJudged : BoxState → StepInput → Type 0
  NotJudged p s = (judged p s ≡ 0) ⊎ (ruled_refusal p s ≢ 0)

  -- What is claimed of any step at all. "A refused packet leaves conversation, account record and
  -- reply buffer as they were" (demand 1): a step that draws no reply, which leaves the buffer,
  -- leaves the conversation too and hands out no record. So does a repeat: "the conversation stays
  -- as it was, and no record is handed out". A repeat "draws the same reply octets", whatever else
  -- is in it, and the octets of the buffer behind them stay. The box calls a step what it is:
  -- refused exactly where no reply is drawn, and repeated exactly where it is a repeat. What the
  -- rules neither refuse nor take for a repeat is judged: a refusal is "given exactly when" its
  -- rule says. "The box hands out the record after every judged Response where there is one", as it
  -- was passed but for its count, and that by the rule; where there was none it hands out none. And
  -- what the opening fixed stays.
  pub record StepClaim (p : BoxState) (s : StepInput) : Type 0 where
    pub leaves : judged p s ≡ 0
        → (next_after p.conversation s ≡ p.conversation)
        × ((box p.conversation s).answer.updated.found ≡ false)
    pub same_reply : (a : AnsweredPacket) → p.answered ≡ some a → is_repeat_at p s ≡ true
        → ((box p.conversation s).answer.written ≡ length a.reply)
        × ((box p.conversation s).buffer ≡ written_over a.reply s.buffer)
    pub says_refused : eqb (refusal_at p.conversation s) 0
        ≡ drew_reply (box p.conversation s) s.buffer
    pub says_repeated : is_repeated (box p.conversation s).answer.kind ≡ is_repeat_at p s
    pub takes : ruled_refusal p s ≡ 0 → is_repeat_at p s ≡ false → is_judged p s ≡ true
    pub hands_out : is_judged p s ≡ true → octet 0 s.packet ≡ response_code
        → (s.account.found ≡ true → (box p.conversation s).answer.updated
        ≡ found (counted p.conversation.terms p.conversation.challenge s.account.account
        (read_response s.packet)))
        × (s.account.found ≡ false
        → (box p.conversation s).answer.updated.found ≡ false)
    pub keeps_terms : (next_after p.conversation s).terms ≡ p.conversation.terms
