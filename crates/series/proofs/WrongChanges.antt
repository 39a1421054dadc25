-- Demand 3 holds of no box and no writer that gets the version 1 change wrong: forgets what it was
-- opened for, turns our peer's change away, or writes version 2's whatever V calls for.
-- Assumes nothing.
use Rattle.std.specs.Prelude.{Option, Some}
use mathlib.Core.Bool.{true, false}
use mathlib.Core.List.{[], ◌∷◌}
use mathlib.Core.Logic.{◌≢◌}
use mathlib.Core.Path.{◌≡◌, refl, sym, ap, ap₂, ◌∙◌}
use Prim.Native.Nat.{ℕ, ◌+◌}
use native.Mathlib.Omega.{arith}
use borrow.Author.Tests.{eq-eqb}
use lib.ListN.{replicate}
use Rattle.octets.specs.Digits.{hex_of}
use Rattle.message.specs.Message.{text_of}
use Rattle.message.specs.Reasons.{changing_password}
use Rattle.packets.specs.Codes.{change_one_code}
use Rattle.packets.specs.Frame.{octet}
use Rattle.packets.specs.Reply.{failure_packet}
use Rattle.accounts.specs.Account.{not_found}
use Rattle.verify.specs.declared.ChangeVersion.{ChangeVersion}
use Rattle.verify.specs.declared.ChangeVersion.TheVariants.{One, Two}
use Rattle.verify.specs.declared.Terms.{Terms}
use Rattle.authenticator.specs.Conversation.{awaited_code, is_ended}
use Rattle.authenticator.specs.Encode.{version, retry_digit, reply_packet}
use Rattle.authenticator.specs.Judge.{reply_for}
use Rattle.authenticator.specs.Opening.{Opening, change_of, first_conversation, opened}
use Rattle.authenticator.specs.Step.{reason_in, Outcome}
use Rattle.authenticator.specs.Steps.{StepInput, step_on}
use Rattle.authenticator.specs.declared.Conversation.{Conversation}
use Rattle.authenticator.specs.declared.Reply.{Reply}
use Rattle.authenticator.specs.declared.Reply.TheVariants.{Success, Failure}
use Rattle.authenticator.proofs.Admitted.{passed}
use Rattle.authenticator.proofs.Fresh.{new_packet}
use Rattle.authenticator.proofs.Openings.{opened_first}
use Rattle.authenticator.proofs.Replies.{judged_reply}
use Rattle.authenticator.proofs.Steps.{drew_answered, number_step, kind_judged}
use Rattle.series.specs.Series.{own, another, invalid, right, PasswordChange, start, exchange}
use Rattle.series.specs.Series.{next, Demand3}
use Rattle.series.specs.Boxes.{our_box, judging, with_change, forgets_change, turns_one_away}
use Rattle.series.specs.Writers.{our_writer, always_two}
use Rattle.series.proofs.Demand3.{terms_of, law, ready_first}
use Rattle.series.proofs.RoundTrips.{change_round_trip}
use Rattle.series.proofs.Sent.{sent_carries, none_answered, other_code}
use Rattle.series.proofs.Wrong.{success_code_lem, failure_code_lem, drew, code_drawn}
use Rattle.series.proofs.Sample.{
  opening_for,
  opens_for,
  old,
  bad,
  new,
  user,
  account,
  rightful,
  agreeing,
  line,
  bad_try,
  right_try,
  new_password_by,
  change_by,
  bad_allowed,
  right_allowed,
  change_by_allowed,
}

-- ---- the box forgets what it was opened for

-- V stands last in the message
v_digit : (id e r : ℕ) (v : ChangeVersion)
    → octet 16 (failure_packet id (text_of e r (version v))) ≡ 48 + version v
unfolding failure_packet text_of hex_of
v_digit id e r One = refl
v_digit id e r Two = refl

reply_digit : (t : Terms) (id : ℕ) (r : Reply) → octet 0 (reply_packet t id r) ≡ 4
    → octet 16 (reply_packet t id r) ≡ 48 + version t.change
reply_digit t id Success e = absurd (omega (arith, success_code_lem id, e))
reply_digit t id (Failure e retry) h = v_digit id e (retry_digit retry) t.change

same_version : (u v : ChangeVersion) → version u ≡ version v → u ≡ v
same_version One One e = refl
same_version One Two e = absurd (omega (arith, e))
same_version Two One e = absurd (omega (arith, e))
same_version Two Two e = refl

-- the sample's opening, by the change that it chooses
module _ (x : Option ChangeVersion) where
  abbrev o : Opening
  o = opening_for x (Some 1) 5

  first_so : (opened o).conversation ≡ first_conversation o
  first_so = opened_first o (opens_for x)

  -- the first invalid try tells
  pub not_forgetting : (v : ChangeVersion) → change_of x ≢ v
      → Demand3 (forgets_change v) our_writer → ⊥
  not_forgetting v differ h =
      let box = forgets_change v in
      let p = start o [] (account false) in
      let all = (h o (opens_for x) refl).1 (account false) 1 []
      (bad_try (another not_found) ∷ right_try ∷ []) (rightful false) (agreeing false) (omega arith)
      (omega arith) refl (
        bad_allowed box our_writer p (account false),
        (right_allowed box our_writer (next box our_writer p (bad_try (another not_found))) false, tt),
      ) in
      let s = (exchange box our_writer p (invalid bad user) (line 60 (another not_found))).input in
      let c = with_change v p.box.conversation in
      let drawn = all.0.0.0.0 in
      let code = ap (octet 0) drawn ∙ failure_code_lem _ _ in
      let ok = drew_answered c s code (omega arith) in
      let fresh = none_answered c s (ap (λ (y : Conversation). y.last.present) first_so) in
      let passes = kind_judged c s.packet s.account s.buffer ok fresh in
      let reply = judged_reply c s passes in
      let digit = sym (reply_digit c.terms c.id
      (reply_for c (reason_in (step_on c s).answer.kind)) (sym (ap (octet 0) reply) ∙ code))
      ∙ sym (ap (octet 16) reply) ∙ ap (octet 16) drawn
      ∙ v_digit _ 691 1 (change_of x) in
      differ (same_version (change_of x) v (omega (arith, digit)))

-- ---- our peer's change is turned away

abbrev one : Opening
one = opening_for (Some One) (Some 1) 5

turned_away : (c : Conversation) (t : StepInput) → octet 0 t.packet ≡ change_one_code
    → (turns_one_away c t).reply ≡ Failure changing_password false
turned_away c t e = rw (eq-eqb (octet 0 t.packet) change_one_code e)

pub not_turning_away : Demand3 (judging turns_one_away) our_writer → ⊥
not_turning_away h =
    let box = judging turns_one_away in
    let p = start one [] (account true) in
    let q = next box our_writer p right_try in
    let all = (h one (opens_for (Some One)) refl).1 (account true) 0 []
    (right_try ∷ change_by One own ∷ []) (rightful true) (agreeing true) (omega arith) (omega arith)
    refl (right_allowed box our_writer p true, (change_by_allowed box our_writer q One true own, tt))
    in
    let s = (exchange box our_writer p (right old user) (line 55 own)).input in
    let fresh = none_answered p.box.conversation s
    (ap (λ (y : Conversation). y.last.present) (first_so (Some One))) in
    let first = drew turns_one_away p.box.conversation s fresh
    (ap (octet 0) all.0.0.0.0 ∙ failure_code_lem _ _) (omega arith) in
    let last = ap (λ (o : Outcome). o.answer.next.last.code) first
    ∙ ap (λ (c : Conversation). awaited_code c.terms.change c.phase) (first_so (Some One)) in
    let t = (exchange box our_writer q (new_password_by One) (line 1118 own)).input in
    let sent = (sent_carries box q (line 1118 own) (new_password_by One) all.0.1.0.1).0 in
    let new = other_code q.box.conversation t (λ e. omega (arith, sym sent ∙ e ∙ last)) in
    let code = code_drawn turns_one_away q.box.conversation t new (omega arith)
    (ap (octet 0) all.0.1.0.0.0.0 ∙ success_code_lem _) (omega arith) in
    let c = q.box.conversation in
    omega (
      arith,
      code,
      ap (λ (r : Reply). octet 0 (reply_packet c.terms c.id r)) (turned_away c t sent)
          ∙ failure_code_lem _ _,
    )

-- ---- version 2's change is written, whatever V calls for

pub not_writing_two : Demand3 our_box always_two → ⊥
not_writing_two h =
    let p = start one [] (account true) in
    let q = next our_box always_two p right_try in
    let l = line 1118 (another not_found) in
    let steps = right_try ∷ change_by One (another not_found) ∷ [] in
    let all = (h one (opens_for (Some One)) refl).1 (account true) 0 [] steps (rightful true)
    (agreeing true) (omega arith) (omega arith) refl (
      right_allowed our_box always_two p true,
      (change_by_allowed our_box always_two q One true (another not_found), tt),
    ) in
    let ready = (law (account true) (rightful true) (agreeing true) (terms_of one)
    (PasswordChange One ∷ []) p right_try
    (ready_first one (opens_for (Some One)) refl 0 [] steps (account true) (omega arith)
    (omega arith) refl) (right_allowed our_box our_writer p true)).2 in
    let c = q.box.conversation in
    let s = (exchange our_box always_two q (new_password_by One) l).input in
    let back = change_round_trip q.peer.turn old new (replicate 512 7) l.out
    l.packet_padding all.0.1.0.1 in
    let ok = drew_answered c s (ap (octet 0) all.0.1.0.0.0.0 ∙ success_code_lem _)
    (omega arith) in
    let fresh = new_packet c s.packet ready.1.fresh (ap is_ended ready.0.0.0)
    (back.id ∙ sym ready.0.1.id) in
    let passes = passed c s.packet s.buffer
    (sym (number_step c s.packet s.account s.buffer) ∙ ok) fresh in
    omega (
      arith,
      sym back.code ∙ passes.code
          ∙ ap₂ awaited_code (ap (λ (t : Terms). t.change) ready.0.2) ready.0.0.0,
    )
