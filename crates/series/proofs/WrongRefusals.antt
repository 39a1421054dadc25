-- Demand 3 holds of no box that judges as ours does and answers otherwise what ours refuses: lays
-- the reply into the buffer and says that it refused, hands out the record that was passed, changes
-- the conversation, ends it unseen, or judges the packet after all.
-- Assumes nothing.
use Rattle.std.specs.Prelude.{Some}
use mathlib.Core.Bool.{Bool, true, false, cond, not, ◌&&◌, and-false, true≢false}
use mathlib.Core.Option.{Option, none, some}
use mathlib.Core.List.{List, [], ◌∷◌}
use mathlib.Core.Logic.{inr}
use mathlib.Core.Path.{◌≡◌, refl, sym, ap, ap₂, ◌∙◌, subst}
use Prim.Native.Nat.{ℕ, zero, suc}
use native.Mathlib.Omega.{arith}
use borrow.Author.Tests.{lt-ltb, ne_eqb}
use lib.Dec.{eqb}
use lib.ListN.{take, replicate}
use Rattle.octets.specs.Parts.{agrees}
use Rattle.message.specs.Message.{text_of}
use Rattle.packets.specs.Frame.{octet, written_over}
use Rattle.packets.specs.Response.{response_refusal}
use Rattle.packets.specs.Reply.{success_packet, failure_packet}
use Rattle.accounts.specs.Account.{found}
use Rattle.authenticator.specs.Conversation.{is_ended}
use Rattle.authenticator.specs.Opening.{first_conversation, opened}
use Rattle.authenticator.specs.Admit.{refusal_for}
use Rattle.verify.specs.Response.{first_reason, response_reason}
use Rattle.authenticator.specs.Judge.{judge_response, judge}
use Rattle.authenticator.specs.Step.{Outcome, step}
use Rattle.authenticator.specs.Steps.{
  StepInput,
  Box,
  reply_of,
  drew_reply,
  AnsweredPacket,
  unanswered,
  repeats_answered,
}
use Rattle.authenticator.specs.Steps.{
  ruled_refusal,
  next_after,
  is_judged,
  judged,
  next_state,
  StepClaim,
}
use Rattle.authenticator.specs.declared.Conversation.{Conversation}
use Rattle.authenticator.proofs.Openings.{opened_first}
use Rattle.series.specs.Course.{total}
use Rattle.series.specs.Series.{own, right, other, start, exchange, next, Demand3}
use Rattle.series.specs.Boxes.{
  answering_refused,
  lays_reply,
  hands_out_record,
  allows_lm,
  ends_unseen,
  judges_strays,
}
use Rattle.series.specs.Writers.{our_writer}
use Rattle.series.proofs.Sample.{
  opening,
  opens_once,
  old,
  user,
  account,
  rightful,
  agreeing,
  line,
  right_try,
  right_allowed,
}
use Rattle.series.proofs.Sent.{first_id, sent_carries, seen_new}
use Rattle.series.proofs.Wrong.{success_code_lem, try}

abbrev pub first : Conversation
first = first_conversation (opening (Some 1))

pub first_once : (opened (opening (Some 1))).conversation ≡ first
first_once = opened_first (opening (Some 1)) opens_once

-- a Response under another identifier than 255, which the first conversation awaits: our box
-- refuses it with 5
abbrev stray : StepInput
stray = try 9

-- ---- lays the reply into the buffer

-- with r = 1, four of them draw a reply, each under an identifier of its own
abbrev many_strays : List StepInput
many_strays = try 9 ∷ try 10 ∷ try 11 ∷ try 12 ∷ []

abbrev strays : Box → Conversation → ℕ
strays box c = total (next_state box) (judged box) (unanswered c) many_strays

four_laid : strays (answering_refused lays_reply) first ≡ 4
unfolding refusal_for response_refusal step judge judge_response response_reason first_reason
    failure_packet text_of written_over agrees
four_laid = refl

pub not_laying_replies : Demand3 (answering_refused lays_reply) our_writer → ⊥
not_laying_replies h =
    let most = ((h (opening (Some 1)) opens_once refl).2 many_strays).0 in
    omega (arith, ap (strays (answering_refused lays_reply)) first_once ∙ four_laid)

-- ---- a step that draws no reply leaves all as it was

-- what a box is held to, of one step of the first conversation
left_by : (box : Box) → Demand3 box our_writer → (s : StepInput) → judged box (unanswered first) s
    ≡ 0
    → (next_after box first s ≡ first) × ((box first s).answer.updated.found ≡ false)
left_by box h s =
    (subst (λ (c : Conversation). StepClaim box (unanswered c) s) first_once
    ((h (opening (Some 1)) opens_once refl).2 (s ∷ [])).1.0).leaves

-- a stray packet with a record
abbrev lent_record : StepInput
lent_record = record {
  packet = stray.packet;
  account = found
      (account true);
  buffer = stray.buffer;
}

pub not_handing_out : Demand3 (answering_refused hands_out_record) our_writer → ⊥
unfolding refusal_for step agrees
not_handing_out h = true≢false (left_by (answering_refused hands_out_record) h lent_record refl).1

pub not_allowing_lm : Demand3 (answering_refused allows_lm) our_writer → ⊥
unfolding refusal_for step agrees
not_allowing_lm h =
    true≢false (ap (λ (c : Conversation). c.terms.lm)
    (left_by (answering_refused allows_lm) h stray refl).0)

pub not_ending_unseen : Demand3 (answering_refused ends_unseen) our_writer → ⊥
unfolding refusal_for step agrees
not_ending_unseen h =
    true≢false (ap (λ (c : Conversation). is_ended c.phase)
    (left_by (answering_refused ends_unseen) h stray refl).0)

-- ---- judges strays

abbrev box : Box
box = answering_refused judges_strays

-- document 01's table refuses the packet, and this box draws a reply to it
stray_refused : ruled_refusal (unanswered first) stray ≡ 5
unfolding refusal_for
stray_refused = refl

stray_is_judged : is_judged box (unanswered first) stray ≡ true
unfolding refusal_for response_refusal step judge judge_response response_reason first_reason
    failure_packet text_of
stray_is_judged = refl

stray_judged : judged box (unanswered first) stray ≡ 1
stray_judged = ap (λ (t : Bool). cond {A = ℕ} t 1 0) stray_is_judged

-- a Success was drawn
pub success_drew : (o : Outcome) (before : List ℕ) (id : ℕ) → reply_of o ≡ success_packet id
    → drew_reply o before ≡ true
success_drew o before id e = which o.answer.written refl
  where
    which : (n : ℕ) → o.answer.written ≡ n → drew_reply o before ≡ true
    which zero z =
        let code = ap (octet 0) (ap (λ (n : ℕ). take n o.buffer) (sym z) ∙ e)
        ∙ success_code_lem id in
        absurd (omega arith)
    which (suc n) z = rw (lt-ltb 0 o.answer.written (omega (arith, z)))

-- what is seen of the stray packet
stray_seen : (c : Conversation) → c ≡ first → (next_state box (unanswered c) stray).answered
    ≡ some (record { code = 2; id = 9; reply = reply_of (box c stray) })
stray_seen c e =
    ap (λ (n : Bool). cond n (some (record { code = 2; id = 9; reply = reply_of (box c stray) }))
    none)
    (ap (λ (x : Conversation). is_judged box (unanswered x) stray) e ∙ stray_is_judged)

-- so with the right password behind it two packets are judged, where it should be one
pub not_judging_strays : Demand3 box our_writer → ⊥
not_judging_strays h =
    let p = start (opening (Some 1)) [] (account false) in
    let q = next box our_writer p (other stray) in
    let five = ap (λ (c : Conversation). ruled_refusal (unanswered c) stray) first_once
    ∙ stray_refused in
    let all = (h (opening (Some 1)) opens_once refl).1 (account false) 0 []
    (other stray ∷ right_try ∷ []) (rightful false) (agreeing false) (omega arith) (omega arith) refl
    (inr (λ z. omega (arith, five, z)), (right_allowed box our_writer q false, tt)) in
    let l = line 55 own in
    let x = exchange box our_writer q (right old user) l in
    let id = (sent_carries box q l (right old user) all.0.1.0.1).1
    ∙ first_id (opening (Some 1)) opens_once refl [] (account false) in
    let new = seen_new q.box x.input
    (ap (λ (a : Option AnsweredPacket). repeats_answered a x.input.packet)
    (stray_seen p.box.conversation first_once)
    ∙ ap (λ (t : Bool). eqb (octet 0 x.input.packet) 2 && t)
    (ne_eqb (octet 1 x.input.packet) 9 (λ e. omega (arith, id, e)))
    ∙ and-false (eqb (octet 0 x.input.packet) 2)) in
    let one = ap₂ (λ (t u : Bool). cond {A = ℕ} (t && not u) 1 0)
    (success_drew x.outcome (replicate 17 0) q.peer.turn.id all.0.1.0.0.0) new in
    omega (
      arith,
      all.1,
      one,
      ap (λ (c : Conversation). judged box (unanswered c) stray) first_once
          ∙ stray_judged,
    )
