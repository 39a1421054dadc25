-- Demand 3 holds of none of these boxes: one that refuses a repeat between tries, one that refuses
-- it after the end, one that judges it anew, one that hands a record out with a repeated change,
-- one that takes another packet for a repeat; and one that calls its judgements repeats, whether it
-- judges as ours does or without end.
-- Assumes nothing.
use Rattle.std.specs.Prelude.{Some}
use mathlib.Core.Bool.{Bool, true, false, cond, not, ◌&&◌, and-false, true≢false}
use mathlib.Core.List.{List, [], ◌∷◌, ◌++◌}
use mathlib.Core.Logic.{◌≢◌}
use mathlib.Core.Option.{Option, none, some}
use mathlib.Core.Path.{◌≡◌, refl, sym, ap, ap₂, ◌∙◌, subst}
use Prim.Native.Nat.{ℕ}
use native.Mathlib.Omega.{arith}
use borrow.Author.Tests.{eq-eqb, ne_eqb}
use lib.Dec.{eqb}
use lib.ListN.{length, replicate}
use Rattle.octets.specs.Parts.{agrees}
use Rattle.octets.specs.Digits.{hex_of}
use Rattle.message.specs.Message.{text_of}
use Rattle.packets.specs.Codes.{response_code, change_code}
use Rattle.packets.specs.Frame.{octet, written_over}
use Rattle.packets.specs.Response.{response_refusal}
use Rattle.packets.specs.Reply.{failure_packet}
use Rattle.packets.proofs.ReadBack.{ResponseBack}
use Rattle.packets.proofs.Writing.{length_success}
use Rattle.verify.specs.declared.ChangeVersion.TheVariants.{Two}
use Rattle.authenticator.specs.Encode.{reply_packet}
use Rattle.series.proofs.Repeats.{again_itself}
use Rattle.accounts.specs.Account.{not_found, found}
use Rattle.verify.specs.Response.{first_reason, response_reason}
use Rattle.authenticator.specs.Admit.{refusal_for}
use Rattle.authenticator.specs.Conversation.{retried, answer_with, with_last}
use Rattle.authenticator.specs.Judge.{judge_response, judge}
use Rattle.authenticator.specs.Opening.{first_conversation, opened}
use Rattle.authenticator.specs.Step.{Outcome, is_repeated, step}
use Rattle.authenticator.specs.Steps.{
  StepInput,
  Box,
  step_on,
  reply_of,
  drew_reply,
  AnsweredPacket,
  BoxState,
}
use Rattle.authenticator.specs.Steps.{unanswered, repeats_answered, is_repeat_at, refusal_at}
use Rattle.authenticator.specs.Steps.{is_judged}
use Rattle.authenticator.specs.Steps.{judged, next_state, StepClaim}
use Rattle.authenticator.specs.declared.Conversation.{Conversation}
use Rattle.authenticator.specs.Step.{Kind}
use Rattle.authenticator.specs.declared.Reply.TheVariants.{Failure}
use Rattle.authenticator.proofs.Admitted.{Readable}
use Rattle.authenticator.proofs.Openings.{opened_first, may_open_empty}
use Rattle.authenticator.specs.Repeats.{Again}
use Rattle.authenticator.proofs.Repeats.{Keeps, answered, repeats_again}
use Rattle.authenticator.proofs.Steps.{drew_answered}
use Rattle.peer.specs.Write.{response_fields, response_for}
use Rattle.peer.specs.declared.Turn.{Turn}
use Rattle.peer.proofs.Found.{response_found}
use Rattle.series.specs.Course.{Along, total}
use Rattle.series.specs.Series.{own, another, right, SeriesState, start, exchange, next, Claimed}
use Rattle.series.specs.Series.{Demand3}
use Rattle.series.specs.Boxes.{
  repeats_here,
  judging,
  never_counts,
  answering_repeats,
  refusing,
  silent_after_end,
  before_end,
  silent_between_tries,
  compares_identifier,
  guesses_right,
  accepts_guess,
  judges_repeats,
  is_change,
  hands_out,
  hands_out_again,
  calls_repeats,
  our_box,
}
use Rattle.series.specs.Writers.{our_writer}
use Rattle.series.proofs.Sample.{
  opening,
  three_places,
  opens_once,
  old,
  user,
  account,
  rightful,
  agreeing,
  line,
  right_try,
  new_password,
  change,
  right_allowed,
  change_allowed,
}
use Rattle.series.proofs.Sent.{
  sent_carries,
  none_answered,
  other_code,
  seen_repeat,
  seen_new,
}
use Rattle.series.proofs.Taken.{right_valid}
use Rattle.series.proofs.Wrong.{success_code_lem, failure_code_lem, try, tries}
use Rattle.series.proofs.WrongRefusals.{first, first_once, success_drew}

-- ---- after one invalid try

-- what a box is held to, of a step after the try
claim_after : (box : Box) → Demand3 box our_writer → (t : StepInput)
    → StepClaim box (next_state box (unanswered first) (try 255)) t
claim_after box h t =
    subst (λ (c : Conversation). StepClaim box (next_state box (unanswered c) (try 255)) t)
    first_once
    ((h (opening (Some 1)) opens_once refl).2 (try 255 ∷ t ∷ [])).1.1.0

-- what was seen of it, and the conversation: the same with any of these boxes, since the first
-- packet is no repeat
abbrev failed : AnsweredPacket
failed = record { code = 2; id = 255; reply = failure_packet 255 (text_of 691 1 2) }

abbrev second : Conversation
second = with_last (answer_with first (Failure 691 true)) (retried first)

module _ (w : Conversation → StepInput → Bool) (f : Box) where
  abbrev after : BoxState
  after = next_state (answering_repeats w f) (unanswered first) (try 255)

  seen_first : after.answered ≡ some failed
  unfolding refusal_for response_refusal step judge judge_response response_reason first_reason
      failure_packet text_of hex_of written_over agrees
  seen_first = refl

  second_is : after.conversation ≡ second
  unfolding refusal_for response_refusal step judge judge_response response_reason first_reason
  second_is = refl

  -- a packet with the same code and identifier is a repeat, whatever else is in it
  seen_again : (t : StepInput) → octet 0 t.packet ≡ 2 → octet 1 t.packet ≡ 255
      → Readable t.packet t.buffer → is_repeat_at after t ≡ true
  seen_again t code id r =
      seen_repeat after t r
      (ap (λ (a : Option AnsweredPacket). repeats_answered a t.packet) seen_first
      ∙ ap₂ (λ (x y : Bool). x && y) (eq-eqb (octet 0 t.packet) 2 code)
      (eq-eqb (octet 1 t.packet) 255 id))

  -- and our box repeats it
  again_here : (t : StepInput) → octet 0 t.packet ≡ 2 → octet 1 t.packet ≡ 255
      → Readable t.packet t.buffer → repeats_here after.conversation t ≡ true
  again_here t code id r =
      ap (λ (c : Conversation). repeats_here c t) second_is
      ∙ ap (λ (o : Outcome). is_repeated o.answer.kind)
      (repeats_again second (try 255) t kept
      (record { code = code; id = id; room = r.room; frame = r.frame }))
    where
      kept : Keeps second (try 255).packet (reply_packet second.terms 255 (Failure 691 true))
      kept = record { present = refl; code = refl; id = refl; drawn = refl }

  as_ours : (c : Conversation) (s : StepInput) → repeats_here c s ≡ false → answering_repeats w f c s
      ≡ step_on c s
  as_ours c s e = rw e

  as_other : (c : Conversation) (s : StepInput) → repeats_here c s ≡ true → w c s ≡ true
      → answering_repeats w f c s ≡ f c s
  as_other c s e u = rw (e, u)

-- the Failure has 17 octets
failed_length : length failed.reply ≡ 17
unfolding failure_packet text_of hex_of
failed_length = refl

-- the try can be read, and so can what is as long
try_readable : Readable (try 255).packet (try 255).buffer
try_readable = record { room = omega arith; frame = refl }

-- ---- repeats nothing between tries

pub not_silent_between_tries : (n : ℕ) → Demand3 (silent_between_tries n) our_writer → ⊥
not_silent_between_tries n h =
    let f = refusing n in
    let t = try 255 in
    let same = ((claim_after (silent_between_tries n) h t).same_reply failed (seen_first before_end f)
    (seen_again before_end f t refl refl try_readable)).0 in
    let live = ap (λ (c : Conversation). before_end c t) (second_is before_end f) in
    let nothing = ap (λ (o : Outcome). o.answer.written)
    (as_other before_end f (after before_end f).conversation t
    (again_here before_end f t refl refl try_readable) live) in
    omega (arith, same, nothing, failed_length)

-- ---- answers nothing more after the end

-- with no retries the first invalid try ends the conversation
abbrev only : Conversation
only = first_conversation (opening (Some 0))

opens_only : (opened (opening (Some 0))).refusal ≡ 0
opens_only =
    may_open_empty (opening (Some 0)) (omega arith) (omega arith) (omega arith) three_places refl refl
    (omega arith)

abbrev final : AnsweredPacket
final = record { code = 2; id = 255; reply = failure_packet 255 (text_of 691 0 2) }

final_length : length final.reply ≡ 17
unfolding failure_packet text_of hex_of
final_length = refl

module _ (n : ℕ) where
  abbrev over : BoxState
  over = next_state (silent_after_end n) (unanswered only) (try 255)

  seen_final : over.answered ≡ some final
  unfolding refusal_for response_refusal step judge judge_response response_reason first_reason
      failure_packet text_of hex_of written_over agrees
  seen_final = refl

  nothing_more : (silent_after_end n over.conversation (try 255)).answer.written ≡ 0
  unfolding refusal_for response_refusal step judge judge_response response_reason first_reason
  nothing_more = refl

  pub not_silent_after_end : Demand3 (silent_after_end n) our_writer → ⊥
  not_silent_after_end h =
      let claim = subst (λ (c : Conversation). StepClaim (silent_after_end n)
      (next_state (silent_after_end n) (unanswered c) (try 255)) (try 255))
      (opened_first (opening (Some 0)) opens_only)
      ((h (opening (Some 0)) opens_only refl).2 (try 255 ∷ try 255 ∷ [])).1.1.0 in
      let again = seen_repeat over (try 255) try_readable
      (ap (λ (a : Option AnsweredPacket). repeats_answered a (try 255).packet) seen_final) in
      omega (arith, (claim.same_reply final seen_final again).0, nothing_more, final_length)

-- ---- judges a repeat anew

module _ (past : List ℕ → List ℕ) (k : Kind) (h : Demand3 (judges_repeats past k) our_writer) where
  -- the right password under the old identifier, to the challenge by which the box judges it
  abbrev judged_by : Conversation
  judged_by = record {
    terms = second.terms;
    id = second.id;
    challenge = past second.challenge;
    retries = second.retries;
    phase = second.phase;
    kept = second.kept;
    last = second.last;
  }

  abbrev turn : Turn
  turn = record { id = 255; challenge = past second.challenge }

  abbrev guess : StepInput
  guess = record {
    packet = response_for turn old user ++ [];
    account = found (account false);
    buffer = replicate 17 0;
  }

  guess_found : ResponseBack 255 (response_fields turn.challenge old) user guess.packet
  guess_found = response_found turn old user [] (omega arith) (omega arith)

  readable : Readable guess.packet guess.buffer
  readable = record { room = omega arith; frame = guess_found.frame }

  abbrev right_guess : Conversation → StepInput → Bool
  right_guess = guesses_right past

  guess_right : right_guess (after right_guess (accepts_guess k)).conversation guess ≡ true
  guess_right =
      ap (λ (c : Conversation). right_guess c guess) (second_is right_guess (accepts_guess k))
      ∙ right_valid judged_by turn refl old user [] (omega arith, omega arith) (account false)
      refl (agreeing false) refl

  -- draws Success, where the same Failure was due
  pub not_judging_repeats : ⊥
  not_judging_repeats =
      let f = accepts_guess k in
      let code = guess_found.code in
      let id = guess_found.id in
      let same = ((claim_after (judges_repeats past k) h guess).same_reply failed
      (seen_first right_guess f) (seen_again right_guess f guess code id readable)).0 in
      let drawn = ap (λ (o : Outcome). o.answer.written)
      (as_other right_guess f (after right_guess f).conversation guess
      (again_here right_guess f guess code id readable) guess_right) in
      omega (arith, same, drawn, length_success (octet 1 guess.packet), failed_length)

-- ---- hands a record out again

-- the change once more, with a record
abbrev once_more : StepInput → StepInput
once_more s = record { packet = s.packet; account = found (account true); buffer = s.buffer }

-- what was answered, if anything, had another code
other_answered : (t : Bool) (a : AnsweredPacket) (packet : List ℕ) → octet 0 packet ≢ a.code
    → repeats_answered (cond t (some a) none) packet ≡ false
other_answered true a packet n =
    ap (λ (x : Bool). x && eqb (octet 1 packet) a.id) (ne_eqb (octet 0 packet) a.code n)
other_answered false a packet n = refl

module _ (k : Kind) (h : Demand3 (hands_out_again k) our_writer) where
  abbrev box : Box
  box = hands_out_again k

  -- the places of the right password and of the change, and behind it
  abbrev p : SeriesState
  p = start (opening (Some 1)) [] (account true)

  abbrev q : SeriesState
  q = next box our_writer p right_try

  abbrev r : SeriesState
  r = next box our_writer q (change (another not_found))

  abbrev s : StepInput
  s = (exchange box our_writer p (right old user) (line 55 own)).input

  abbrev t : StepInput
  t = (exchange box our_writer q new_password (line 1118 (another not_found))).input

  claimed : Along (next box our_writer) (Claimed box our_writer (account true) Two) p
      (right_try ∷ change (another not_found) ∷ [])
  claimed =
      ((h (opening (Some 1)) opens_once refl).1 (account true) 0 []
      (right_try ∷ change (another not_found) ∷ []) (rightful true) (agreeing true)
      (omega arith) (omega arith) refl
      (right_allowed box our_writer p true, (change_allowed box our_writer q true (another not_found), tt))).0

  response_sent : octet 0 s.packet ≡ response_code
  response_sent =
      (sent_carries box p (line 55 own) (right old user) claimed.0.1).0

  change_sent : octet 0 t.packet ≡ change_code
  change_sent = (sent_carries box q (line 1118 (another not_found)) new_password claimed.1.0.1).0

  -- the first packet is no repeat: our box answered it, and keeps its code
  ours : box p.box.conversation s ≡ step_on p.box.conversation s
  ours =
      as_ours is_change (hands_out k) p.box.conversation s
      (none_answered p.box.conversation s
      (ap (λ (c : Conversation). c.last.present) first_once))

  last_code : q.box.conversation.last.code ≡ response_code
  last_code =
      let drew = ap (λ (x : Outcome). octet 0 (reply_of x)) (sym ours)
      ∙ ap (octet 0) claimed.0.0.0 ∙ failure_code_lem _ (text_of 648 0 2) in
      let ok = drew_answered p.box.conversation s drew (omega arith) in
      ap (λ (x : Outcome). x.answer.next.last.code) ours
      ∙ (answered p.box.conversation s ok).code ∙ response_sent

  -- nor is the change: our box answered it, and keeps it
  theirs : box q.box.conversation t ≡ step_on q.box.conversation t
  theirs =
      as_ours is_change (hands_out k) q.box.conversation t
      (other_code q.box.conversation t
      (λ e. omega (arith, sym change_sent ∙ e ∙ last_code)))

  change_answered : refusal_at step_on q.box.conversation t ≡ 0
  change_answered =
      drew_answered q.box.conversation t
      (ap (λ (x : Outcome). octet 0 (reply_of x)) (sym theirs)
      ∙ ap (octet 0) claimed.1.0.0.0.0 ∙ success_code_lem _) (omega arith)

  kept : Keeps r.box.conversation t.packet (reply_of (step_on q.box.conversation t))
  kept =
      subst (λ (x : Outcome). Keeps x.answer.next t.packet
      (reply_of (step_on q.box.conversation t))) (sym theirs)
      (answered q.box.conversation t change_answered)

  -- by what is seen: a reply was drawn to the change, and it was no repeat
  change_new : is_repeat_at q.box t ≡ false
  change_new =
      seen_new q.box t
      (other_answered (is_judged box p.box s)
      (record {
        code = octet 0 s.packet;
        id = octet 1 s.packet;
        reply = reply_of (box p.box.conversation s);
      })
      t.packet (λ e. omega (arith, sym change_sent ∙ e ∙ response_sent)))

  change_seen : r.box.answered
      ≡ some (record {
        code = octet 0 t.packet;
        id = octet 1 t.packet;
        reply = reply_of (box q.box.conversation t);
      })
  change_seen =
      ap₂ (λ (x y : Bool). cond (x && not y) (some (record {
        code = octet 0 t.packet;
        id = octet 1 t.packet;
        reply = reply_of (box q.box.conversation t);
      })) q.box.answered)
      (success_drew (box q.box.conversation t) t.buffer q.peer.turn.id
      claimed.1.0.0.0.0) change_new

  -- so the change once more is a repeat
  again_seen : is_repeat_at r.box (once_more t) ≡ true
  again_seen =
      let a = again_itself q.box.conversation t change_answered in
      seen_repeat r.box (once_more t) (record { room = a.room; frame = a.frame })
      (ap (λ (x : Option AnsweredPacket). repeats_answered x t.packet) change_seen
      ∙ ap₂ (λ (x y : Bool). x && y) (eq-eqb (octet 0 t.packet) (octet 0 t.packet) refl)
      (eq-eqb (octet 1 t.packet) (octet 1 t.packet) refl))

  -- and this box hands out a record with it
  handed_out : (box r.box.conversation (once_more t)).answer.updated.found ≡ true
  handed_out =
      let a = again_itself q.box.conversation t change_answered in
      let again : Again t (once_more t) =
      record { code = refl; id = refl; room = a.room; frame = a.frame } in
      let here = ap (λ (x : Outcome). is_repeated x.answer.kind)
      (repeats_again r.box.conversation t (once_more t) kept again) in
      ap (λ (x : Outcome). x.answer.updated.found)
      (as_other is_change (hands_out k) r.box.conversation (once_more t) here
      (eq-eqb (octet 0 t.packet) change_code change_sent))

  pub not_handing_out_again : ⊥
  not_handing_out_again =
      let u = once_more t in
      let drew = drew_reply (box r.box.conversation u) u.buffer in
      let unjudged : judged box r.box u ≡ 0 =
      ap (λ (x : Bool). cond {A = ℕ} (drew && not x) 1 0) again_seen
      ∙ ap (λ (x : Bool). cond {A = ℕ} x 1 0) (and-false drew) in
      let claim = ((h (opening (Some 1)) opens_once refl).2 (s ∷ t ∷ u ∷ [])).1.1.1.0 in
      true≢false (sym handed_out ∙ (claim.leaves unjudged).1)

-- ---- calls its judgements repeats

-- the word alone is wrong
called : is_repeated (calls_repeats our_box first (try 255)).answer.kind ≡ true
unfolding refusal_for response_refusal step judge judge_response response_reason first_reason
called = refl

pub not_calling_repeats : Demand3 (calls_repeats our_box) our_writer → ⊥
not_calling_repeats h =
    let claim = subst (λ (c : Conversation). StepClaim (calls_repeats our_box) (unanswered c)
    (try 255)) first_once
    ((h (opening (Some 1)) opens_once refl).2 (try 255 ∷ [])).1.0 in
    true≢false (sym called ∙ claim.says_repeated)

-- and one that judges without end does not get out of the count by it
abbrev called_of : Conversation → ℕ
called_of c = total (next_state (calls_repeats (judging never_counts)))
    (judged (calls_repeats (judging never_counts))) (unanswered c) tries

four_called : called_of first ≡ 4
unfolding refusal_for response_refusal step judge judge_response response_reason first_reason
    failure_packet text_of
four_called = refl

pub not_counting_called : Demand3 (calls_repeats (judging never_counts)) our_writer → ⊥
not_counting_called h =
    let most = ((h (opening (Some 1)) opens_once refl).2 tries).0 in
    omega (arith, ap called_of first_once ∙ four_called)

-- ---- compares the identifier alone

-- packets of other codes under the old identifier
abbrev coded : ℕ → StepInput
coded code = record {
  packet = code ∷ 255 ∷ 0 ∷ 4 ∷ [];
  account = not_found;
  buffer = replicate 17 0;
}

abbrev others : List StepInput
others = try 255 ∷ coded 1 ∷ coded 6 ∷ coded 1 ∷ []

abbrev compared_of : Conversation → ℕ
compared_of c = total (next_state compares_identifier) (judged compares_identifier)
    (unanswered c) others

four_compared : compared_of first ≡ 4
unfolding refusal_for response_refusal step judge judge_response response_reason first_reason
    failure_packet text_of
four_compared = refl

-- each draws a reply, and none is a repeat
pub not_comparing_identifiers : Demand3 compares_identifier our_writer → ⊥
not_comparing_identifiers h =
    let most = ((h (opening (Some 1)) opens_once refl).2 others).0 in
    omega (arith, ap compared_of first_once ∙ four_compared)
