-- What our peer's packets carry, with any box: the code of their kind and the identifier of its
-- turn; and its turn after a Failure that calls for a retry. And which packets our box takes for a
-- repeat, and which are seen to be one.
-- Assumes nothing.
use mathlib.Core.Bool.{Bool, true, false, cond, not, ◌&&◌, and-false}
use mathlib.Core.List.{List, ◌++◌}
use mathlib.Core.Logic.{◌≢◌}
use mathlib.Core.Path.{◌≡◌, ap, ◌∙◌}
use Prim.Native.Nat.{ℕ}
use borrow.Author.Tests.{le-ltb, eq-eqb, ne_eqb}
use lib.Dec.{eqb}
use lib.ListN.{length}
use Rattle.challenges.specs.Challenges.{next_id}
use Rattle.std.specs.Prelude.{None, Ok}
use Rattle.message.specs.Message.{called_for, failed_with}
use Rattle.message.specs.declared.Verdict.TheVariants.{Failure}
use Rattle.message.specs.Reasons.{authentication_failure}
use Rattle.packets.specs.Codes.{response_code}
use Rattle.packets.specs.Frame.{octet, bad_frame}
use Rattle.packets.specs.Reply.{ChallengeFields, longest_reply, bad_reply_buffer}
use Rattle.authenticator.specs.Admit.{is_repeat, step_refusal}
use Rattle.verify.specs.declared.ChangeVersion.{ChangeVersion}
use Rattle.verify.specs.declared.ChangeVersion.TheVariants.{One, Two}
use Rattle.authenticator.specs.Conversation.{change_code_of}
use Rattle.authenticator.specs.Encode.{version}
use Rattle.authenticator.specs.Opening.{Opening, opened}
use Rattle.authenticator.specs.Steps.{StepInput, Box, BoxState, repeats_answered, is_repeat_at}
use Rattle.authenticator.specs.declared.Conversation.{Conversation}
use Rattle.authenticator.proofs.Admitted.{Readable}
use Rattle.authenticator.proofs.Steps.{repeats_step}
use Rattle.peer.specs.Peer.{peer_reads}
use Rattle.peer.specs.Write.{write_response}
use Rattle.peer.proofs.Left.{left}
use Rattle.peer.specs.Turn.{sent_for, next_turn}
use Rattle.series.specs.Boxes.{repeats_here}
use Rattle.accounts.specs.declared.Account.{Account}
use Rattle.series.specs.Series.{
  Packet,
  Reading,
  invalid,
  right,
  password_change,
  ExchangeInput,
  ours,
  SeriesState,
  start,
  exchange,
  next,
}
use Rattle.series.specs.Writers.{our_writer}
use Rattle.series.proofs.RoundTrips.{challenge_read_lem, response_round_trip}
use Rattle.series.proofs.RoundTrips.{change_round_trip, change_one_round_trip}

pub first_id : (o : Opening) → (opened o).refusal ≡ 0 → length o.challenge ≡ 8 → (behind : List ℕ)
    (a : Account) → (start o behind a).peer.turn.id ≡ o.id
first_id o ok eight behind a = ap (λ (f : ChallengeFields). f.id) (challenge_read_lem o ok eight behind)

module _ (box : Box) (p : SeriesState) (l : ExchangeInput) where
  abbrev Written : Packet → Type 0
  Written t = (exchange box our_writer p t l).wrote.answer.refusal ≡ 0

  abbrev sent : Packet → List ℕ
  sent t = (exchange box our_writer p t l).input.packet

  abbrev code_of : Packet → ℕ
  code_of (invalid w n) = response_code
  code_of (right w n) = response_code
  code_of (password_change v o n f) = change_code_of v

  abbrev Carries : ℕ → List ℕ → Type 0
  Carries code packet = (octet 0 packet ≡ code) × (octet 1 packet ≡ p.peer.turn.id)

  try_carries : (w n : List ℕ) → (write_response p.peer.turn w n l.out).answer.refusal ≡ 0
      → Carries response_code
      (left (write_response p.peer.turn w n l.out) ++ l.packet_padding)
  try_carries w n ok =
      let back = response_round_trip p.peer.turn w n l.out l.packet_padding ok in
      (back.code, back.id)

  pub sent_carries : (t : Packet) → Written t → Carries (code_of t) (sent t)
  sent_carries (invalid w n) ok = try_carries w n ok
  sent_carries (right w n) ok = try_carries w n ok
  sent_carries (password_change One o n f) ok =
      let back = change_one_round_trip p.peer.turn o n l.out l.packet_padding ok in
      (back.code, back.id)
  sent_carries (password_change Two o n f) ok =
      let back = change_round_trip p.peer.turn o n f l.out l.packet_padding ok in
      (back.code, back.id)

  pub retry_id : (v : ChangeVersion) (t : Packet) → Written t
      → peer_reads (exchange box our_writer p t l).peer (exchange box our_writer p t l).reply
      ≡ Ok (Failure (failed_with authentication_failure 1 (version v) None))
      → (next box our_writer p (ours t l)).peer.turn.id ≡ next_id p.peer.turn.id
  unfolding next_turn called_for
  retry_id v t ok e =
      ap (λ (r : Reading). (next_turn (exchange box our_writer p t l).peer r).id) e
      ∙ ap (λ (b : Bool). next_id (cond b (sent_for p.peer.turn) p.peer.sent).id)
      (eq-eqb _ 0 ok)

-- ---- what our box does not take for a repeat

module _ (c : Conversation) (s : StepInput) where
  not_here : is_repeat c.last s.packet ≡ false → repeats_here c s ≡ false
  not_here e =
      repeats_step c s.packet s.account s.buffer
      ∙ ap (λ (t : Bool). eqb (step_refusal c s.packet s.buffer) 0 && t) e
      ∙ and-false (eqb (step_refusal c s.packet s.buffer) 0)

  pub none_answered : c.last.present ≡ false → repeats_here c s ≡ false
  none_answered e =
      not_here (ap (λ (t : Bool). t && (eqb (octet 0 s.packet) c.last.code && eqb
      (octet 1 s.packet) c.last.id)) e)

  pub other_code : octet 0 s.packet ≢ c.last.code → repeats_here c s ≡ false
  other_code n =
      not_here (ap (λ (t : Bool). c.last.present &&
      (t && eqb (octet 1 s.packet) c.last.id))
      (ne_eqb (octet 0 s.packet) c.last.code n)
      ∙ and-false c.last.present)

  pub other_id : octet 1 s.packet ≢ c.last.id → repeats_here c s ≡ false
  other_id n =
      let code = eqb (octet 0 s.packet) c.last.code in
      not_here (ap (λ (t : Bool). c.last.present && (code && t))
      (ne_eqb (octet 1 s.packet) c.last.id n)
      ∙ ap (λ (t : Bool). c.last.present && t) (and-false code) ∙ and-false c.last.present)

-- ---- what is seen to be a repeat, and what is not

module _ (p : BoxState) (s : StepInput) where
  pub seen_repeat : Readable s.packet s.buffer
      → repeats_answered p.answered s.packet ≡ true → is_repeat_at p s ≡ true
  seen_repeat r e = rw (le-ltb (length s.buffer) longest_reply r.room, r.frame, e)

  pub seen_new : repeats_answered p.answered s.packet ≡ false → is_repeat_at p s ≡ false
  seen_new e =
      let room = not (bad_reply_buffer s.buffer) in
      let frame = not (bad_frame s.packet) in
      ap (λ (x : Bool). room && (frame && x)) e
      ∙ ap (λ (x : Bool). room && x) (and-false frame) ∙ and-false room
