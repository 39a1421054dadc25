-- The premises of demand 3 can be met: identifier 255, a challenge that begins with E9, r = 1, LM
-- disallowed, a limit of 5, an expired record that counts three failures, one invalid try (which is
-- the fourth), the right password and the change that the opening chose, whichever, each with
-- padding, refused steps before, between and behind them, and each of the three packets once more
-- after its answer, with another record; and a later conversation.
-- Assumes nothing.
use Rattle.packets.specs.Reply.{ChallengeFields}
use Rattle.std.specs.Prelude.{Option, Some, None}
use mathlib.Core.Bool.{true, false}
use mathlib.Core.List.{List, [], ◌∷◌}
use mathlib.Core.Logic.{inl, inr}
use mathlib.Core.Path.{◌≡◌, refl, ap, ◌∙◌}
use Prim.Native.Nat.{ℕ, ◌<◌}
use native.Mathlib.Omega.{arith}
use lib.ListN.{replicate}
use Rattle.issued.specs.Issued.{empty_list}
use Rattle.message.specs.Message.{text_of}
use Rattle.packets.specs.Frame.{octet}
use Rattle.accounts.specs.Account.{not_found, found, with_failures, Rightful, Agree}
use Rattle.authenticator.specs.Admit.{refusal_for}
use Rattle.authenticator.specs.Encode.{version}
use Rattle.authenticator.specs.Opening.{Opening, change_of, opened}
use Rattle.authenticator.specs.Steps.{StepInput, step_on, reply_of, BoxState, next_after}
use Rattle.authenticator.specs.Steps.{unanswered, next_state, NotJudged}
use Rattle.accounts.specs.declared.Account.{Account}
use Rattle.accounts.proofs.Agreeing.{counted_agrees}
use Rattle.authenticator.specs.declared.Phase.TheVariants.{Ended}
use Rattle.verify.specs.declared.ChangeVersion.{ChangeVersion}
use Rattle.authenticator.specs.declared.Conversation.{Conversation}
use Rattle.authenticator.proofs.Openings.{opened_first, may_open_empty}
use Rattle.authenticator.proofs.Steps.{drew_answered}
use Rattle.series.specs.Course.{end, Along, total}
use Rattle.series.specs.Series.{Passed, own, another, right, Step, other, SeriesState, start}
use Rattle.series.specs.Series.{exchange, next}
use Rattle.series.specs.Series.{
  input_at,
  judged_at,
  Allowed,
  DrawsSuccess,
  later,
  LetsIn,
  Claimed,
}
use Rattle.series.specs.Boxes.{our_box}
use Rattle.series.specs.Writers.{our_writer}
use Rattle.series.proofs.Faithful.{Faithful, faithful_next, opened_faithful, unjudged_same}
use Rattle.series.proofs.Faithful.{twice_none}
use Rattle.series.proofs.RoundTrips.{challenge_read_lem}
use Rattle.series.proofs.WrongPassword.{own_allowed}
use Rattle.series.proofs.Sample.{
  challenge,
  opening_for,
  three_places,
  opens_for,
  new,
  user,
  account,
  agreeing,
  line,
  bad_try,
  right_try,
  new_password_by,
  change_by,
  right_allowed,
  change_by_allowed,
  new_within,
}
use Rattle.series.proofs.Demand3.{demand3}
use Rattle.authenticator.specs.Repeats.{Drawn}
use Rattle.series.proofs.Repeats.{any_number, again_itself}
use Rattle.series.proofs.Wrong.{success_code_lem, failure_code_lem}

-- whichever change the opening chooses, or leaves unsaid
module _ (x : Option ChangeVersion) where
  abbrev v : ChangeVersion
  v = change_of x

  abbrev opening1 : Opening
  opening1 = opening_for x (Some 1) 5

  opens1 : (opened opening1).refusal ≡ 0
  opens1 = opens_for x

  abbrev change1 : Passed → Step
  change1 = change_by v

  -- ---- the series

  -- a packet that is too short, and a buffer that is
  abbrev short : StepInput
  short = record { packet = 1 ∷ 2 ∷ 3 ∷ []; account = not_found; buffer = replicate 20 0 }

  abbrev narrow : StepInput
  narrow = record { packet = replicate 60 2; account = found (account true); buffer = replicate 16 0 }

  -- the same packet and buffer once more, with another record
  abbrev again : StepInput → StepInput
  again s = record { packet = s.packet; account = found (account false); buffer = s.buffer }

  abbrev after : SeriesState → Step → SeriesState
  after = next our_box our_writer

  -- the record: three failures are counted, and the limit is 5
  abbrev record3 : Account
  record3 = with_failures 3 (account true)

  rightful3 : Rightful record3
  rightful3 = record { nt = refl; enabled = refl; hours = refl; dialin = refl }

  agreeing3 : Agree record3
  agreeing3 = counted_agrees 3 (account true) (agreeing true)

  -- the places of our peer's three packets, and what the box gets of each
  abbrev first : SeriesState
  first = after (start (opening1) [] record3) (other short)

  abbrev tried : StepInput
  tried = input_at our_box our_writer first (bad_try own)

  abbrev tried_twice : SeriesState
  tried_twice = after (after first (bad_try own)) (other (again tried))

  abbrev second : SeriesState
  second = after tried_twice (other narrow)

  abbrev proved : StepInput
  proved = input_at our_box our_writer second right_try

  abbrev proved_twice : SeriesState
  proved_twice = after (after second right_try) (other (again proved))

  abbrev third : SeriesState
  third = after proved_twice (other short)

  abbrev changed : StepInput
  changed = input_at our_box our_writer third (change1 (another not_found))

  abbrev changed_twice : SeriesState
  changed_twice = after (after third (change1 (another not_found))) (other (again changed))

  abbrev pub steps : List Step
  steps =
      other short ∷ bad_try own ∷ other (again tried)
      ∷ other narrow ∷ right_try ∷ other (again proved)
      ∷ other short ∷ change1 (another not_found) ∷ other (again changed) ∷ other narrow ∷ []

  -- ---- the premises

  -- a short packet and a narrow buffer are refused wherever the series stands: 2 and 3 come first
  short_refused : (p : BoxState) → NotJudged step_on p short
  unfolding refusal_for
  short_refused p = inr (λ z. omega arith)

  narrow_refused : (p : BoxState) → NotJudged step_on p narrow
  unfolding refusal_for
  narrow_refused p = inr (λ z. omega arith)

  -- our box, at each place
  faithful_first : Faithful first.box
  faithful_first = faithful_next _ short (opened_faithful (opening1) opens1)

  faithful_second : Faithful second.box
  faithful_second = faithful_next _ narrow (faithful_next _ (again tried)
      (faithful_next _ tried faithful_first))

  faithful_third : Faithful third.box
  faithful_third = faithful_next _ short (faithful_next _ (again proved)
      (faithful_next _ proved faithful_second))

  again_allowed : (p : BoxState) (s : StepInput) → Faithful p
      → NotJudged step_on (next_state step_on p s) (again s)
  again_allowed p s i = inl (twice_none p s (again s) i refl refl)

  -- the sample's challenge is in force, and our peer has read it
  first_challenge : first.box.conversation.challenge ≡ challenge
  first_challenge =
      ap (λ (c : Conversation). c.challenge)
      (unjudged_same _ short (opened_faithful (opening1) opens1)
      (short_refused (start (opening1) [] record3).box)
      ∙ opened_first (opening1) opens1)

  turn_challenge : first.peer.turn.challenge ≡ challenge
  turn_challenge = ap (λ (f : ChallengeFields). f.challenge)
      (challenge_read_lem (opening1) opens1 refl [])

  pub met : Along (next our_box our_writer) (Allowed our_box our_writer record3)
      (start (opening1) [] record3) steps
  met = (
    short_refused (start (opening1) [] record3).box,
    (
      own_allowed our_box first first_challenge turn_challenge refl agreeing3 record3,
      (
        again_allowed first.box tried faithful_first,
        (
          narrow_refused tried_twice.box,
          (
            right_allowed our_box our_writer second true,
            (
              again_allowed second.box proved faithful_second,
              (
                short_refused proved_twice.box,
                (
                  change_by_allowed our_box our_writer third v true (another not_found),
                  (
                    again_allowed third.box changed faithful_third,
                    (narrow_refused changed_twice.box, tt),
                  ),
                ),
              ),
            ),
          ),
        ),
      ),
    ),
  )

  -- ---- the claim of this series

  -- each packet draws what it should, three are judged, and the conversation has ended
  pub claimed : Along (next our_box our_writer) (Claimed our_box our_writer record3 v)
      (start (opening1) [] record3) steps
      × (total (next our_box our_writer) (judged_at our_box our_writer)
      (start (opening1) [] record3) steps ≡ 3)
      × ((end (next our_box our_writer) (start (opening1) [] record3) steps).box.conversation.phase
      ≡ Ended)
  claimed = (demand3 (opening1) opens1 refl).1 record3 1 [] steps rightful3 agreeing3
      (omega arith) (omega arith) refl met

  -- ---- the repeats of this series

  -- once more it draws the same reply, hands out no record and leaves the conversation
  abbrev DrawnAgain : BoxState → StepInput → Type 0
  DrawnAgain p s = Drawn (reply_of (step_on p.conversation s)) (next_after step_on p.conversation s)
      (again s)

  drawn_again : (p : BoxState) (s : StepInput) {n : ℕ}
      → octet 0 (reply_of (step_on p.conversation s)) ≡ n → 0 < n → DrawnAgain p s
  drawn_again p s e pos =
      let c = p.conversation in
      let ok = drew_answered c s e pos in
      let a = again_itself c s ok in
      (any_number c s ok (again s ∷ [])
      (record { code = refl; id = refl; room = a.room; frame = a.frame }, tt)).0.0

  -- the Failure with R=1, the Failure that asks for the change, and the Success to the change, for
  -- which no record is handed out again
  pub try_again_lem : DrawnAgain first.box tried
  try_again_lem = drawn_again first.box tried (ap (octet 0) claimed.0.1.0.0.0
      ∙ failure_code_lem _ (text_of 691 1 (version v))) (omega arith)

  pub right_again : DrawnAgain second.box proved
  right_again = drawn_again second.box proved (ap (octet 0) claimed.0.1.1.1.1.0.0.0
      ∙ failure_code_lem _ (text_of 648 0 (version v))) (omega arith)

  pub change_again : DrawnAgain third.box changed
  change_again = drawn_again third.box changed (ap (octet 0)
      claimed.0.1.1.1.1.1.1.1.0.0.0.0 ∙ success_code_lem _) (omega arith)

  -- ---- a later conversation, with the record that the change handed out

  abbrev handed : Account
  handed = (exchange our_box our_writer third (new_password_by v)
      (line 1118 (another not_found))).outcome.answer.updated.account

  lets_in : LetsIn our_box our_writer handed new
  lets_in = claimed.0.1.1.1.1.1.1.1.0.0.2

  abbrev later_opening : Opening
  later_opening =
      record {
        id = 0;
        challenge = replicate 8 1;
        retries = None;
        lm = None;
        change = x;
        limit = 1;
        issued = empty_list 8
            3;
        buffer = replicate 17 0;
      }

  later_opens : (opened later_opening).refusal ≡ 0
  later_opens = may_open_empty later_opening (omega arith) (omega arith) (omega arith) three_places refl refl
      (omega arith)

  pub later_success : DrawsSuccess (exchange our_box our_writer
      (later our_box our_writer later_opening [] handed (short ∷ [])) (right new user) (line 55 own)) 0
  later_success =
      lets_in later_opening [] user (short ∷ []) (line 55 own) later_opens refl
      (short_refused (unanswered (opened later_opening).conversation), tt) refl
      (new_within own)
