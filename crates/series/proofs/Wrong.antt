-- Demand 3 holds of no box that is ours but for one slip: refuses everything, 691 always, accepts
-- always, the change leaves the record, pretends on retries, retries do not fall. So the statement
-- is strong enough to shut them out.
-- Assumes nothing.
use Rattle.std.specs.Prelude.{Some, None}
use mathlib.Core.Bool.{Bool, true, false, cond, ◌&&◌, false≢true}
use mathlib.Core.List.{List, [], ◌∷◌, ◌++◌}
use mathlib.Core.Path.{◌≡◌, refl, sym, ap, ◌∙◌, subst}
use Prim.Native.Nat.{ℕ, ◌≤◌, ◌<◌}
use native.Mathlib.Omega.{arith}
use borrow.Author.Tests.{eq-eqb, eqb-false}
use lib.Dec.{eqb, ltb}
use lib.ListN.{length, replicate}
use Rattle.octets.specs.Digits.{hex_of}
use Rattle.message.specs.Message.{text_of}
use Rattle.packets.specs.Codes.{change_code}
use Rattle.packets.specs.Frame.{octet}
use Rattle.packets.specs.Response.{read_response, response_refusal}
use Rattle.packets.specs.Reply.{success_packet, failure_packet}
use Rattle.accounts.specs.Account.{not_found, found, entry_of, account_of, with_failures}
use Rattle.authenticator.specs.Encode.{reply_packet}
use Rattle.authenticator.specs.declared.Reply.{Reply}
use Rattle.authenticator.specs.declared.Reply.TheVariants.{Failure}
use Rattle.message.specs.Reasons.{authentication_failure}
use Rattle.authenticator.specs.Opening.{first_conversation, opened}
use Rattle.authenticator.specs.Admit.{refusal_for}
use Rattle.authenticator.specs.Conversation.{awaited_code}
use Rattle.challenges.specs.Challenges.{next_id}
use Rattle.verify.specs.declared.ChangeVersion.TheVariants.{Two}
use Rattle.authenticator.specs.Encode.{version}
use Rattle.verify.specs.Lockout.{failures_after}
use Rattle.verify.specs.Response.{first_reason, response_reason}
use Rattle.authenticator.specs.Judge.{after_reason, reply_for, judge_response, judge, valid_in}
use Rattle.authenticator.specs.Step.{Outcome, judged_as, step}
use Rattle.authenticator.specs.Steps.{
  StepInput,
  step_on,
  reply_of,
  refusal_at,
  unanswered,
  judged,
  next_state,
}
use Rattle.accounts.specs.declared.Account.{Account}
use Rattle.accounts.specs.declared.Lookup.{Lookup}
use Rattle.authenticator.proofs.Steps.{drew_answered, reply_of_lem}
use Rattle.authenticator.specs.declared.Conversation.{Conversation}
use Rattle.authenticator.proofs.Openings.{opened_first}
use Rattle.series.specs.Course.{total}
use Rattle.series.specs.Series.{own, another, invalid, right, start, exchange, next, later, LetsIn}
use Rattle.series.specs.Series.{Demand3}
use Rattle.series.specs.Boxes.{
  refusing,
  repeats_here,
  Judge,
  judging,
  finds_none,
  accepts,
  leaves_record,
  pretends,
  never_counts,
}
use Rattle.series.specs.Writers.{our_writer}
use Rattle.series.proofs.Sent.{
  first_id,
  sent_carries,
  retry_id,
  none_answered,
  other_code,
  other_id,
}
use Rattle.series.proofs.Sample.{
  opening,
  opens_default,
  opens_once,
  old,
  bad,
  new,
  user,
  account,
  rightful,
  agreeing,
  line,
  bad_try,
  right_try,
  new_password,
  change,
  bad_allowed,
  right_allowed,
  change_allowed,
  new_within,
}

pub success_code_lem : (id : ℕ) → octet 0 (success_packet id) ≡ 3
unfolding success_packet
success_code_lem id = refl

pub failure_code_lem : (id : ℕ) (message : List ℕ) → octet 0 (failure_packet id message) ≡ 4
unfolding failure_packet
failure_code_lem id message = refl

-- ---- refuses everything

-- the right password draws nothing
pub not_refusing : (n : ℕ) → Demand3 (refusing n) our_writer → ⊥
not_refusing n h =
    let all = (h (opening None) opens_default refl).1 (account false) 0 [] (right_try ∷ [])
    (rightful false) (agreeing false) (omega arith) (omega arith) refl
    (right_allowed (refusing n) our_writer (start (opening None) [] (account false)) false, tt) in
    let code = ap (octet 0) all.0.0.0.0 ∙ success_code_lem _ in
    omega arith

-- ---- boxes that refuse and repeat what ours does

module _ (d : Judge) (c : Conversation) (s : StepInput) (new : repeats_here c s ≡ false) where
  -- a packet that is no repeat and draws a reply was judged
  pub drew : {n : ℕ} → octet 0 (reply_of (judging d c s)) ≡ n → 0 < n
      → judging d c s ≡ judged_as c (d c s) s.buffer
  drew e pos = which (eqb (refusal_at step_on c s) 0) refl
    where
      which : (t : Bool) → eqb (refusal_at step_on c s) 0 ≡ t
          → judging d c s ≡ judged_as c (d c s) s.buffer
      which true z = rw (z, new)
      which false z =
          let ours : judging d c s ≡ step_on c s = rw z in
          absurd (eqb-false (refusal_at step_on c s) 0 z
          (drew_answered c s (ap (λ (o : Outcome). octet 0 (reply_of o)) (sym ours) ∙ e) pos))

  -- and the reply is the one that it draws
  pub code_drawn : {n : ℕ} → 17 ≤ length s.buffer → octet 0 (reply_of (judging d c s)) ≡ n → 0 < n
      → octet 0 (reply_packet c.terms c.id (d c s).reply) ≡ n
  code_drawn room e pos =
      ap (octet 0) (sym (reply_of_lem c (d c s) s.buffer room))
      ∙ ap (λ (o : Outcome). octet 0 (reply_of o)) (sym (drew e pos)) ∙ e

-- the sample's opening is not refused
pub first_default : (opened (opening None)).conversation ≡ first_conversation (opening None)
first_default = opened_first (opening None) opens_default

-- no answer was given yet
pub first_new : (s : StepInput) → repeats_here (opened (opening None)).conversation s ≡ false
first_new s = none_answered (opened (opening None)).conversation s
    (ap (λ (c : Conversation). c.last.present) first_default)

-- ---- 691 always

-- for a Response that a first conversation judges with no record
none_first : (p : List ℕ) → (judge (first_conversation (opening None)) p not_found).reply
    ≡ Failure authentication_failure true
unfolding judge judge_response response_reason first_reason
none_first p = refl

none_drawn : (p : List ℕ) → (judge (opened (opening None)).conversation p not_found).reply
    ≡ Failure authentication_failure true
none_drawn p = ap (λ (c : Conversation). (judge c p not_found).reply) first_default ∙ none_first p

pub not_finding : Demand3 (judging finds_none) our_writer → ⊥
not_finding h =
    let p = start (opening None) [] (account false) in
    let all = (h (opening None) opens_default refl).1 (account false) 0 [] (right_try ∷ [])
    (rightful false) (agreeing false) (omega arith) (omega arith) refl
    (right_allowed (judging finds_none) our_writer p false, tt) in
    let s = (exchange (judging finds_none) our_writer p (right old user)
    (line 55 own)).input in
    let reply = none_drawn s.packet in
    let code = code_drawn finds_none p.box.conversation s (first_new s) (omega arith)
    (ap (octet 0) all.0.0.0.0 ∙ success_code_lem _) (omega arith) in
    omega (
      arith,
      code,
      ap (λ (r : Reply). octet 0 (reply_packet p.box.conversation.terms
          p.box.conversation.id r)) reply
          ∙ failure_code_lem _ _,
    )

-- ---- accepts always

pub not_accepting : Demand3 (judging accepts) our_writer → ⊥
not_accepting h =
    let box = judging accepts in
    let p = start (opening None) [] (account false) in
    let all = (h (opening None) opens_default refl).1 (account false) 1 []
    (bad_try (another not_found) ∷ right_try ∷ []) (rightful false) (agreeing false)
    (omega arith) (omega arith) refl (
      bad_allowed box our_writer p (account false),
      (
        right_allowed box our_writer
            (next box our_writer p (bad_try (another not_found))) false,
        tt,
      ),
    ) in
    let s = (exchange box our_writer p (invalid bad user) (line 60 (another not_found))).input in
    let code = code_drawn accepts p.box.conversation s (first_new s) (omega arith)
    (ap (octet 0) all.0.0.0.0 ∙ failure_code_lem _ (text_of 691 1 (version Two))) (omega arith) in
    omega (arith, code, success_code_lem p.box.conversation.id)

-- ---- pretends on retries

-- the first invalid try leaves one retry
one_first : (s : StepInput) → s.account ≡ not_found
    → (pretends 2 (first_conversation (opening None)) s).next.retries ≡ 1
unfolding judge judge_response response_reason first_reason
one_first s e = rw e

one_left : (s : StepInput) → s.account ≡ not_found → (pretends 2
    (opened (opening None)).conversation s).next.retries ≡ 1
one_left s e = ap (λ (c : Conversation). (pretends 2 c s).next.retries) first_default
    ∙ one_first s e

-- the second one draws Success
pub not_pretending : Demand3 (judging (pretends 2)) our_writer → ⊥
not_pretending h =
    let box = judging (pretends 2) in
    let p = start (opening None) [] (account false) in
    let q = next box our_writer p (bad_try (another not_found)) in
    let all = (h (opening None) opens_default refl).1 (account false) 2 []
    (bad_try (another not_found) ∷ bad_try (another not_found) ∷ right_try ∷ []) (rightful false)
    (agreeing false) (omega arith) (omega arith) refl (
      bad_allowed box our_writer p (account false),
      (
        bad_allowed box our_writer q (account false),
        (right_allowed box our_writer (next box our_writer q (bad_try (another not_found))) false, tt),
      ),
    ) in
    let s = (exchange box our_writer p (invalid bad user) (line 60 (another not_found))).input in
    let t = (exchange box our_writer q (invalid bad user) (line 60 (another not_found))).input in
    let first = drew (pretends 2) p.box.conversation s (first_new s)
    (ap (octet 0) all.0.0.0.0 ∙ failure_code_lem _ (text_of 691 1 (version Two))) (omega arith) in
    let left = ap (λ (o : Outcome). o.answer.next.retries) first ∙ one_left s refl in
    let turn = retry_id box p (line 60 (another not_found)) Two (invalid bad user) all.0.0.1
    all.0.0.0.1
    ∙ ap next_id (first_id (opening None) opens_default refl [] (account false)) in
    let last = ap (λ (o : Outcome). o.answer.next.last.id) first
    ∙ ap (λ (c : Conversation). c.id) first_default in
    let id = (sent_carries box q (line 60 (another not_found)) (invalid bad user) all.0.1.0.1).1 ∙ turn in
    let new = other_id q.box.conversation t (λ e. omega (arith, sym id ∙ e ∙ last)) in
    let pretended = ap (λ (n : ℕ). (cond (ltb n 2) (accepts q.box.conversation t)
    (judge q.box.conversation t.packet not_found)).reply) left in
    let code = code_drawn (pretends 2) q.box.conversation t new (omega arith)
    (ap (octet 0) all.0.1.0.0.0 ∙ failure_code_lem _ (text_of 691 1 (version Two)))
    (omega arith) in
    omega (
      arith,
      code,
      ap (λ (r : Reply). octet 0 (reply_packet q.box.conversation.terms
          q.box.conversation.id r))
          pretended ∙ success_code_lem q.box.conversation.id,
    )

-- ---- the change leaves the record

-- what a first conversation draws for an expired record, valid or not: a Failure, and with 648 the
-- record is kept
abbrev Expired : Conversation → List ℕ → Type 0
Expired c p =
    let d = judge c p (found (account true)) in
    let reply = reply_packet c.terms c.id d.reply in
    (octet 0 reply ≡ 4) × (octet 7 reply ≡ 52 → d.next.kept ≡ entry_of (account true))

expired_first : (p : List ℕ) → Expired (first_conversation (opening None)) p
unfolding judge judge_response response_reason first_reason failures_after failure_packet text_of hex_of
expired_first p = which (valid_in (first_conversation (opening None)) (account true)
    (read_response p))
  where
    c : Conversation
    c = first_conversation (opening None)

    which : (v : Bool) → let e = first_reason v (entry_of (account true)) in
        let reply = reply_packet c.terms 255 (reply_for c e) in
        (octet 0 reply ≡ 4) × (octet 7 reply ≡ 52
        → (after_reason c (entry_of (with_failures (failures_after false v 0) (account true))) e).kept
        ≡ entry_of (account true))
    which true = (refl, λ h. refl)
    which false = (refl, λ h. absurd (omega arith))

expired_drawn : (p : List ℕ) → Expired (opened (opening None)).conversation p
expired_drawn p = subst (λ (c : Conversation). Expired c p) (sym first_default) (expired_first p)

-- the octet of E's second digit: 648
four_of : (id : ℕ) → octet 7 (failure_packet id (text_of 648 0 (version Two))) ≡ 52
unfolding failure_packet text_of hex_of
four_of id = refl

-- a record that is handed out is the kept one
kept_handed : (a : Account) (l : Lookup) → (cond l.found (found a) l).found ≡ true
    → (cond l.found (found a) l).account ≡ a
kept_handed a l h = which l.found refl h
  where
    which : (t : Bool) → l.found ≡ t → (cond t (found a) l).found ≡ true
        → (cond t (found a) l).account ≡ a
    which true e k = refl
    which false e k = absurd (false≢true (sym e ∙ k))

-- so what is handed out is expired, and does not let the new password in
pub not_leaving_record : Demand3 (judging leaves_record) our_writer → ⊥
not_leaving_record h =
    let box = judging leaves_record in
    let p = start (opening None) [] (account true) in
    let q = next box our_writer p right_try in
    let all = (h (opening None) opens_default refl).1 (account true) 0 []
    (right_try ∷ change own ∷ []) (rightful true) (agreeing true) (omega arith) (omega arith) refl
    (right_allowed box our_writer p true, (change_allowed box our_writer q true own, tt)) in
    let s = (exchange box our_writer p (right old user) (line 55 own)).input in
    let first = drew leaves_record p.box.conversation s (first_new s)
    (ap (octet 0) all.0.0.0.0 ∙ failure_code_lem _ (text_of 648 0 (version Two))) (omega arith) in
    let expired = expired_drawn s.packet in
    let four = ap (octet 7) (sym (reply_of_lem p.box.conversation
    (leaves_record p.box.conversation s) s.buffer (omega arith))
    ∙ ap reply_of (sym first) ∙ all.0.0.0.0) ∙ four_of _ in
    let kept = ap (λ (o : Outcome). o.answer.next.kept) first ∙ expired.1 four in
    let answered = all.0.1.0.0 in
    let t = (exchange box our_writer q new_password (line 1118 own)).input in
    let last = ap (λ (o : Outcome). o.answer.next.last.code) first
    ∙ ap (λ (c : Conversation). awaited_code c.terms.change c.phase) first_default in
    let sent = (sent_carries box q (line 1118 own) new_password all.0.1.0.1).0 in
    let fresh = other_code q.box.conversation t (λ e. omega (arith, sym sent ∙ e ∙ last)) in
    let d = (judge q.box.conversation t.packet t.account).updated in
    let changed = ap (λ (o : Outcome). o.answer.updated)
    (drew leaves_record q.box.conversation t fresh
    (ap (octet 0) answered.0.0 ∙ success_code_lem _)
    (omega arith))
    ∙ ap (λ (x : Bool). cond (x && d.found) (found (account_of q.box.conversation.kept)) d)
    (eq-eqb (octet 0 t.packet) change_code sent) in
    let updated = ap (λ (b : Lookup). b.account) changed
    ∙ kept_handed (account_of q.box.conversation.kept) d
    (sym (ap (λ (b : Lookup). b.found) changed) ∙ answered.1) ∙ ap account_of kept in
    let lets = subst (λ (b : Account). LetsIn box our_writer b new) updated answered.2 in
    let r = later box our_writer (opening None) [] (account true) [] in
    let u = (exchange box our_writer r (right new user) (line 55 own)).input in
    let draws = lets (opening None) [] user [] (line 55 own) opens_default refl tt refl
    (new_within own) in
    let again = expired_drawn u.packet in
    let code = code_drawn leaves_record r.box.conversation u (first_new u) (omega arith)
    (ap (octet 0) draws.0 ∙ success_code_lem 255) (omega arith) in
    omega (arith, code, again.0)

-- ---- retries do not fall

-- a Response with no record, with an identifier
abbrev pub try : ℕ → StepInput
try id = record {
  packet = 2 ∷ id ∷ 0 ∷ 55 ∷ 49 ∷ (replicate 48 0 ++ (1 ∷ 117 ∷ []));
  account =
      not_found;
  buffer = replicate 17 0;
}

abbrev pub tries : List StepInput
tries = try 255 ∷ try 0 ∷ try 1 ∷ try 2 ∷ []

-- with r = 1, all four are judged
abbrev judged_of : Conversation → ℕ
judged_of c = total (next_state (judging never_counts)) (judged (judging never_counts))
    (unanswered c) tries

four : judged_of (first_conversation (opening (Some 1))) ≡ 4
unfolding refusal_for response_refusal step judge judge_response response_reason first_reason
    failure_packet text_of
four = refl

pub not_counting_lem : Demand3 (judging never_counts) our_writer → ⊥
not_counting_lem h =
    let most = ((h (opening (Some 1)) opens_once refl).2 tries).0 in
    omega (arith, ap judged_of (opened_first (opening (Some 1)) opens_once) ∙ four)
