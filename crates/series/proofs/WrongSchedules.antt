-- Demand 3 holds of no box that takes other round keys than ours does (document 02, request
-- 2026-10): one that judges by the hashes whatever round keys a record carries, one that replies so
-- and counts as ours does, one that hands a record with other round keys out repaired, and one that
-- leaves the old round keys beside the new hash of a change.
-- Assumes nothing.
use Rattle.packets.specs.Reply.{ChallengeFields}
use Rattle.std.specs.Prelude.{Some, None}
use mathlib.Core.Bool.{Bool, true, false, cond, not, ◌&&◌, and-false, true≢false}
use mathlib.Core.List.{List, [], ◌∷◌}
use mathlib.Core.Path.{◌≡◌, refl, sym, ap, ◌∙◌, subst}
use Prim.Native.Nat.{ℕ}
use native.Mathlib.Omega.{arith}
use borrow.Author.Tests.{eq-eqb}
use lib.ListN.{replicate}
use Rattle.octets.specs.Parts.{agrees}
use Rattle.octets.proofs.Parts.{agrees_refl, agrees_sym}
use Rattle.credentials.specs.Credentials.{nt_hash_of, response_of, schedules_of, response_under}
use Rattle.credentials.proofs.Laws.{response_under_lem}
use Rattle.message.specs.Message.{text_of}
use Rattle.packets.specs.Codes.{response_code, change_code}
use Rattle.packets.specs.Frame.{octet}
use Rattle.packets.specs.Response.{read_response}
use Rattle.packets.specs.declared.Response.{Response}
use Rattle.accounts.specs.Account.{hash_of, no_hash, schedules_for, no_schedules, entry_of}
use Rattle.accounts.specs.Account.{with_schedules, account_with, found}
use Rattle.accounts.proofs.Agreeing.{made_agrees}
use Rattle.accounts.specs.declared.Account.{Account}
use Rattle.accounts.specs.declared.Lookup.{Lookup}
use Rattle.verify.specs.Lockout.{is_locked, failures_after}
use Rattle.verify.specs.Response.{answers, valid, first_reason, response_reason, counted}
use Rattle.authenticator.specs.Conversation.{awaited_code}
use Rattle.verify.specs.declared.ChangeVersion.TheVariants.{Two}
use Rattle.authenticator.specs.Encode.{version, reply_packet}
use Rattle.authenticator.specs.Judge.{valid_in, reply_for, judge_response, judge}
use Rattle.authenticator.specs.Opening.{first_conversation}
use Rattle.authenticator.specs.Step.{Outcome}
use Rattle.authenticator.specs.Steps.{Box, unanswered, StepClaim}
use Rattle.authenticator.specs.declared.Conversation.{Conversation}
use Rattle.authenticator.specs.declared.Reply.{Reply}
use Rattle.authenticator.specs.declared.Reply.TheVariants.{Success}
use Rattle.authenticator.proofs.Openings.{opened_first}
use Rattle.peer.specs.Write.{response_fields}
use Rattle.peer.specs.declared.Turn.{Turn}
use Rattle.peer.proofs.Found.{response_found}
use Rattle.series.specs.Series.{own, another, invalid, right, password_change, Packet, ours}
use Rattle.series.specs.Series.{ExchangeInput, SeriesState, ChangeWithin, start, exchange}
use Rattle.series.specs.Series.{next, later, Demand3}
use Rattle.series.specs.Boxes.{Judge, judging, is_response, repaired, carried_on}
use Rattle.series.specs.Boxes.{judges_by_hash, replies_by_hash, repairs_schedules, keeps_schedules}
use Rattle.series.specs.Writers.{our_writer}
use Rattle.series.proofs.RoundTrips.{challenge_read_lem}
use Rattle.series.proofs.Sample.{challenge, opening_of, opening, opens_default, opens_limited}
use Rattle.series.proofs.Sample.{old, bad, user, account, rightful, agreeing, line, right_try}
use Rattle.series.proofs.Sample.{try_within, right_allowed}
use Rattle.series.proofs.SampleGuesses.{packet_saying, said_fields, said_code}
use Rattle.series.proofs.SampleGuesses.{begun, guess_at, judging_took, judged_so, said_valid}
use Rattle.series.proofs.Sent.{sent_carries, other_code}
use Rattle.series.proofs.Taken.{right_valid}
use Rattle.series.proofs.Wrong.{success_code_lem, failure_code_lem, drew, code_drawn}
use Rattle.series.proofs.Wrong.{first_default, first_new}
use Rattle.series.proofs.WrongPassword.{differs, sent_fields}
use Rattle.series.proofs.WrongWriters.{fails}

-- ---- a record with the NT hash of "MyPw" and the round keys of "bad"

abbrev mixed : Account
mixed = with_schedules (entry_of (account false)) (schedules_for (hash_of (nt_hash_of bad))) no_schedules

-- "MyPw" is not valid for it
mixed_invalid : valid_in (begun 5) mixed (read_response (packet_saying true)) ≡ false
unfolding valid answers
mixed_invalid =
    ap (valid_in (begun 5) mixed) (said_fields true)
    ∙ ap (agrees (response_of (nt_hash_of old) challenge)) (response_under_lem (nt_hash_of bad) challenge)
    ∙ agrees_sym (response_of (nt_hash_of old) challenge) (response_of (nt_hash_of bad) challenge)
    ∙ differs

-- the round keys are others: else the responses were the same
other_keys : schedules_of (nt_hash_of old) ≡ schedules_of (nt_hash_of bad) → ⊥
other_keys e =
    let same : response_of (nt_hash_of bad) challenge ≡ response_of (nt_hash_of old) challenge =
    sym (response_under_lem (nt_hash_of bad) challenge)
    ∙ ap (λ (ks : List ℕ). response_under ks challenge) (sym e)
    ∙ response_under_lem (nt_hash_of old) challenge in
    true≢false (sym (agrees_refl (response_of (nt_hash_of bad) challenge))
    ∙ ap (agrees (response_of (nt_hash_of bad) challenge)) same ∙ differs)

-- what a box must hand out that is passed it with the first Response, from "MyPw": it, counted by
-- the round keys that it carries
must_hand : (j : Judge) → Demand3 (judging j) our_writer
    → (j (begun 5) (guess_at 5 true mixed)).updated
    ≡ found (counted (begun 5).terms challenge mixed (read_response (packet_saying true)))
must_hand j h =
    let opens = opens_limited 5 (omega arith) in
    let s = guess_at 5 true mixed in
    let claim = subst (λ (c : Conversation). StepClaim (judging j) (unanswered c) s)
    (opened_first (opening_of (Some 0) 5) opens)
    ((h (opening_of (Some 0) 5) opens refl).2 (s ∷ [])).1.0 in
    let took = judging_took 5 true mixed j in
    ap (λ (o : Outcome). o.answer.updated) (sym took)
    ∙ (claim.hands_out (judged_so 5 true mixed (judging j) (j (begun 5) s) took) (said_code true)
    ).0 refl

is_response_lem : is_response (begun 5) (guess_at 5 true mixed) ≡ true
is_response_lem = eq-eqb (octet 0 (packet_saying true)) response_code (said_code true)

-- ---- judges by the hash

-- finds it valid, and counts no failure
pub not_judging_by_hash : Demand3 (judging judges_by_hash) our_writer → ⊥
unfolding judge judge_response failures_after
not_judging_by_hash h =
    let d = (judge (begun 5) (packet_saying true) (found (account false))).updated in
    let theirs = ap (λ (t : Bool). (cond t (carried_on (found mixed) d) d).account.failures)
    is_response_lem
    ∙ ap (λ (v : Bool). failures_after false v 0) (said_valid 5 0 true true) in
    let ours = ap (λ (l : Lookup). l.account.failures) (must_hand judges_by_hash h)
    ∙ ap (λ (v : Bool). failures_after false v 0) mixed_invalid in
    omega (arith, sym theirs ∙ ours)

-- ---- hands it out repaired

pub not_repairing : Demand3 (judging repairs_schedules) our_writer → ⊥
unfolding judge judge_response
not_repairing h =
    let d = (judge (begun 5) (packet_saying true) (found mixed)).updated in
    let theirs = ap (λ (t : Bool). (cond t (repaired d) d).account.nt_keys.keys) is_response_lem in
    other_keys (sym theirs
    ∙ ap (λ (l : Lookup). l.account.nt_keys.keys) (must_hand repairs_schedules h))

-- ---- a record with the round keys of "MyPw", whatever its hashes

abbrev there : Conversation
there = first_conversation (opening None)

-- does not let "bad" in, where LM is not allowed
module _ (a : Account) (keys : a.nt_keys.keys ≡ schedules_of (nt_hash_of old)) where
  bad_invalid : valid_in there a (response_fields challenge bad) ≡ false
  unfolding valid answers
  bad_invalid = which a.nt.present _
      (ap (λ (ks : List ℕ). agrees (response_of (nt_hash_of bad) challenge)
      (response_under ks challenge)) keys
      ∙ ap (agrees (response_of (nt_hash_of bad) challenge)) (response_under_lem (nt_hash_of old) challenge)
      ∙ differs)
    where
      which : (t x : Bool) → x ≡ false → cond t (t && x) false ≡ false
      which true x e = e
      which false x e = refl

-- what our peer sends for "bad", after the sample's opening
module _ (box : Box) (b : Account) where
  abbrev to_try : SeriesState
  to_try = later box our_writer (opening None) [] b []

  abbrev tried : List ℕ
  tried = (exchange box our_writer to_try (right bad user) (line 60 own)).input.packet

  fields : read_response tried ≡ response_fields challenge bad
  fields =
      sent_fields box to_try
      ∙ ap (λ (f : ChallengeFields). response_fields f.challenge bad)
      (challenge_read_lem (opening None) opens_default refl [])

  tried_invalid : (a : Account) → a.nt_keys.keys ≡ schedules_of (nt_hash_of old)
      → valid_in to_try.box.conversation a (read_response tried) ≡ false
  tried_invalid a keys =
      ap (λ (c : Conversation). valid_in c a (read_response tried)) first_default
      ∙ ap (valid_in there a) fields ∙ bad_invalid a keys

-- ---- replies by the hash

-- the hash of "bad", and the round keys of "MyPw"
abbrev bad_only : Account
bad_only = account_with (hash_of (nt_hash_of bad)) no_hash false false false false

abbrev turned : Account
turned = with_schedules (entry_of bad_only) (schedules_for (hash_of (nt_hash_of old))) no_schedules

-- with its own round keys it lets "bad" in
hash_valid : valid_in there bad_only (response_fields challenge bad) ≡ true
hash_valid =
    let t : Turn = record { id = 255; challenge = challenge } in
    ap (valid_in there bad_only)
    (sym (response_found t bad user [] (omega arith) (omega arith)).fields)
    ∙ right_valid there t refl bad user [] (omega arith, omega arith) bad_only refl (made_agrees _)
    refl

hash_accepted : (f : Response) → f ≡ response_fields challenge bad
    → (judge_response there (found bad_only) f).reply ≡ Success
unfolding judge_response response_reason first_reason
hash_accepted f e = ap (λ (v : Bool). reply_for there (first_reason v (entry_of bad_only)))
    (ap (valid_in there bad_only) e ∙ hash_valid)

-- so it draws Success where an invalid try is passed this record, of another account
pub not_replying_by_hash : Demand3 (judging replies_by_hash) our_writer → ⊥
unfolding judge
not_replying_by_hash h =
    let box = judging replies_by_hash in
    let p = start (opening None) [] (account false) in
    let l = line 60 (another (found turned)) in
    let s = (exchange box our_writer p (invalid bad user) l).input in
    let locked = is_locked p.box.conversation.terms turned in
    let meant = ap (λ (v : Bool). not locked && v) (tried_invalid box (account false) turned refl)
    ∙ and-false (not locked) in
    let all = (h (opening None) opens_default refl).1 (account false) 1 []
    (ours (invalid bad user) l ∷ right_try ∷ []) (rightful false) (agreeing false) (omega arith)
    (omega arith) refl (
      (try_within bad l refl (omega arith) (omega arith), meant),
      (right_allowed box our_writer (next box our_writer p (ours (invalid bad user) l)) false, tt),
    ) in
    let code = code_drawn replies_by_hash p.box.conversation s (first_new s) (omega arith)
    (ap (octet 0) all.0.0.0.0 ∙ failure_code_lem _ (text_of 691 1 (version Two))) (omega arith) in
    let reply = ap (λ (c : Conversation). (judge c s.packet (found bad_only)).reply) first_default
    ∙ hash_accepted (read_response s.packet) (fields box (account false)) in
    omega (
      arith,
      code,
      ap (λ (x : Reply). octet 0 (reply_packet p.box.conversation.terms
          p.box.conversation.id x)) reply
          ∙ success_code_lem _,
    )

-- ---- the change leaves the round keys

-- our peer's change from "MyPw" to "bad", and what is passed with it: a record with the round keys
-- of "MyPw"
abbrev to_bad : Packet
to_bad = password_change Two old bad (replicate 512 7)

abbrev passed_old : ExchangeInput
passed_old = line 1118 (another (found (account false)))

bad_within : ChangeWithin Two old bad (replicate 512 7) passed_old
bad_within = record {
  old_not_8 = refl;
  new_not_8 = refl;
  not12 = refl;
  not9 = omega arith;
  not2 = omega arith;
}

-- so the record that is handed out does not let the new password in
pub not_keeping_schedules : Demand3 (judging keeps_schedules) our_writer → ⊥
not_keeping_schedules h =
    let box = judging keeps_schedules in
    let p = start (opening None) [] (account true) in
    let q = next box our_writer p right_try in
    let all = (h (opening None) opens_default refl).1 (account true) 0 []
    (right_try ∷ ours to_bad passed_old ∷ []) (rightful true) (agreeing true) (omega arith)
    (omega arith) refl (right_allowed box our_writer p true, ((bad_within, refl), tt)) in
    let s = (exchange box our_writer p (right old user) (line 55 own)).input in
    let first = drew keeps_schedules p.box.conversation s (first_new s)
    (ap (octet 0) all.0.0.0.0 ∙ failure_code_lem _ (text_of 648 0 (version Two))) (omega arith) in
    let last = ap (λ (o : Outcome). o.answer.next.last.code) first
    ∙ ap (λ (c : Conversation). awaited_code c.terms.change c.phase) first_default in
    let answered = all.0.1.0.0 in
    let t = (exchange box our_writer q to_bad passed_old).input in
    let sent = (sent_carries box q passed_old to_bad all.0.1.0.1).0 in
    let fresh = other_code q.box.conversation t (λ e. omega (arith, sym sent ∙ e ∙ last)) in
    let d = (judge q.box.conversation t.packet t.account).updated in
    let took = drew keeps_schedules q.box.conversation t fresh
    (ap (octet 0) answered.0.0 ∙ success_code_lem _) (omega arith) in
    let keys = ap (λ (o : Outcome). o.answer.updated.account.nt_keys.keys) took
    ∙ ap (λ (x : Bool). (cond x (carried_on (found (account false)) d) d).account.nt_keys.keys)
    (eq-eqb (octet 0 t.packet) change_code sent) in
    let b = (exchange box our_writer q to_bad passed_old).outcome.answer.updated.account in
    let r = to_try box b in
    let u = (exchange box our_writer r (right bad user) (line 60 own)).input in
    let draws = answered.2 (opening None) [] user [] (line 60 own) opens_default refl tt refl
    (try_within bad (line 60 own) refl (omega arith) (omega arith)) in
    let code = code_drawn keeps_schedules r.box.conversation u (first_new u) (omega arith)
    (ap (octet 0) draws.0 ∙ success_code_lem 255) (omega arith) in
    let reply = fails r.box.conversation (ap (λ (c : Conversation). c.phase) first_default) u
    (tried_invalid box b b keys) in
    omega (
      arith,
      code,
      ap (λ (x : Reply). octet 0 (reply_packet r.box.conversation.terms
          r.box.conversation.id x)) reply
          ∙ failure_code_lem _ _,
    )
