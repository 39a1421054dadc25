-- A box that was given no valid Response stays shut: whatever it is sent, it draws no Success, and
-- no change is awaited, so that a change, of either version and whoever wrote it, is refused.
-- Assumes nothing.
use mathlib.Core.Bool.{Bool, true, false, cond, not, ◌&&◌, and-false, true≢false}
use mathlib.Core.List.{List, [], ◌∷◌, ◌++◌}
use mathlib.Core.Logic.{◌≢◌}
use mathlib.Core.Path.{◌≡◌, refl, sym, ap, ◌∙◌, subst}
use Prim.Native.Nat.{ℕ}
use native.Mathlib.Omega.{arith}
use lib.Dec.{eqb}
use Rattle.message.specs.Message.{text_of}
use Rattle.message.specs.Reasons.{authentication_failure}
use Rattle.packets.specs.Codes.{response_code, success_code}
use Rattle.packets.specs.Frame.{octet}
use Rattle.packets.specs.Response.{read_response}
use Rattle.accounts.specs.Account.{entry_of}
use Rattle.accounts.specs.declared.Entry.{Entry}
use Rattle.packets.specs.declared.Response as responses
use Rattle.verify.specs.Lockout.{is_locked}
use Rattle.verify.specs.Response.{found_valid, counted_lookup}
use Rattle.verify.specs.declared.Terms.{Terms}
use Rattle.verify.proofs.Reasons.{reason_invalid}
use Rattle.authenticator.specs.Admit.{is_repeat}
use Rattle.authenticator.specs.Conversation.{awaited_code, is_ended, retried, ended}
use Rattle.authenticator.specs.Encode.{version, retry_digit, reply_packet}
use Rattle.authenticator.specs.Judge.{Judgement, may_retry, after_reason, judgement_for, valid_in}
use Rattle.authenticator.specs.Step.{Outcome, judged_as}
use Rattle.authenticator.specs.Steps.{StepInput, step_on, reply_of, next_after}
use Rattle.authenticator.specs.declared.Conversation.{Conversation}
use Rattle.authenticator.specs.declared.Phase.{Phase}
use Rattle.authenticator.specs.declared.Phase.TheVariants.{Response, Change, Ended}
use Rattle.authenticator.specs.declared.Reply.TheVariants.{Failure}
use Rattle.authenticator.proofs.Admitted.{Passes, readable_by}
use Rattle.authenticator.proofs.Judged.{response_step}
use Rattle.authenticator.proofs.Repeats.{all_three}
use Rattle.authenticator.proofs.Steps.{Case, refused, repeated, judged, case_of}
use Rattle.authenticator.proofs.Steps.{reply_of_lem, repeated_reply}
use Rattle.series.specs.Course.{end, Along}
use Rattle.series.specs.OneList.{StaysShut}
use Rattle.series.proofs.Invariant.{end_behind}
use Rattle.series.proofs.Wrong.{failure_code_lem}

-- a conversation in which nothing was accepted: no change is awaited, and the reply that would be
-- given again is no Success
pub record Shut (c : Conversation) : Type 0 where
  pub phase : c.phase ≢ Change
  pub last : c.last.present ≡ true
      → octet 0 (reply_packet c.terms c.last.id c.last.reply) ≢ success_code

-- a Failure is no Success
failed : (t : Terms) (id : ℕ) (retry : Bool)
    → octet 0 (reply_packet t id (Failure authentication_failure retry)) ≢ success_code
failed t id retry e =
    omega (
      arith,
      failure_code_lem id (text_of authentication_failure (retry_digit retry)
          (version t.change)),
      e,
    )

-- what an invalid Response leads to
after_shut : (c : Conversation) → c.phase ≢ Change → (kept : Entry)
    → (after_reason c kept authentication_failure).phase ≢ Change
after_shut c h kept = which (may_retry c authentication_failure)
  where
    which : (t : Bool) → (cond t (retried c) (ended c)).phase ≢ Change
    which true = h
    which false = λ e. absurd (let z : ◌≡◌ {A = ℕ} 0 1 = cc in omega arith)

-- ---- a step

module _ (c : Conversation) (h : Shut c) (s : StepInput)
    (not_valid : octet 0 s.packet ≡ response_code
    → valid_in c s.account.account (read_response s.packet) ≡ false) where
  abbrev f : responses.Response
  f = read_response s.packet

  -- a Response is judged invalid, and draws 691
  invalid : octet 0 s.packet ≡ response_code
      → found_valid c.terms c.challenge s.account f ≡ false
  invalid code =
      let unlocked = not (is_locked c.terms s.account.account) in
      ap (λ (v : Bool). s.account.found && (unlocked && v)) (not_valid code)
      ∙ ap (λ (v : Bool). s.account.found && v) (and-false unlocked) ∙ and-false
      s.account.found

  abbrev judgement : Judgement
  judgement = judgement_for c (counted_lookup c.terms c.challenge s.account f)
      authentication_failure

  took : Passes c s.packet s.buffer → c.phase ≡ Response
      → step_on c s ≡ judged_as c judgement s.buffer
  took ok ph =
      response_step c s.packet s.buffer ok s.account ph
      ∙ ap (λ (e : ℕ). judged_as c
      (judgement_for c (counted_lookup c.terms c.challenge s.account f) e) s.buffer)
      (reason_invalid c.terms c.challenge f s.account
      (invalid (ok.code ∙ ap (awaited_code c.terms.change) ph)))

  -- what leaves the conversation as it was
  same : {o : Outcome} → step_on c s ≡ o → o.answer.next ≡ c
      → octet 0 (reply_of o) ≢ success_code → StaysShut c s × Shut (next_after step_on c s)
  same e n none =
      let back = ap (λ (o : Outcome). o.answer.next) e ∙ n in (
        (
          λ z. none (sym (ap (λ (o : Outcome). octet 0 (reply_of o)) e) ∙ z),
          λ z. h.phase (sym (ap (λ (d : Conversation). d.phase) back) ∙ z),
        ),
        subst Shut (sym back) h,
      )

  pub shut : StaysShut c s × Shut (next_after step_on c s)
  shut = which (case_of c s.packet s.account s.buffer)
    where
      in_phase : (ph : Phase) → c.phase ≡ ph → Passes c s.packet s.buffer
          → StaysShut c s × Shut (next_after step_on c s)
      in_phase Response ph ok =
          let e = took ok ph in
          let reply = ap reply_of e ∙ reply_of_lem c judgement s.buffer ok.readable.room in
          let kept = entry_of (counted_lookup c.terms c.challenge s.account f).account in
          let next = after_shut c h.phase kept in (
            (
              λ z. failed c.terms c.id (may_retry c authentication_failure)
                  (sym (ap (octet 0) reply) ∙ z),
              λ z. next (sym (ap (λ (o : Outcome). o.answer.next.phase) e) ∙ z),
            ),
            subst (λ (o : Outcome). Shut o.answer.next) (sym e) (record {
              phase = next;
              last = λ there. failed judgement.next.terms c.id
                  (may_retry c authentication_failure);
            }),
          )
      in_phase Change ph ok = absurd (h.phase ph)
      in_phase Ended ph ok = absurd (true≢false (sym (ap is_ended ph) ∙ ok.live))

      which : Case c s.packet s.account s.buffer
          → StaysShut c s × Shut (next_after step_on c s)
      which (refused n e) = same e refl (λ z. omega (arith, z))
      which (repeated z r e) =
          let a = all_three c.last.present (eqb (octet 0 s.packet) c.last.code)
          (eqb (octet 1 s.packet) c.last.id) r in
          let b = readable_by c s.packet s.buffer (is_repeat c.last s.packet) z in
          same e refl (λ y. h.last a.0 (sym (ap (octet 0)
          (repeated_reply c s.buffer b.room)) ∙ y))
      which (judged ok e) = in_phase c.phase refl ok

-- ---- any number of them

module _ (first : Conversation) (P : StepInput → Type 0)
    (not_valid : (before : List StepInput) (s : StepInput) → P s
    → octet 0 s.packet ≡ response_code
    → valid_in (end (next_after step_on) first before) s.account.account
    (read_response s.packet) ≡ false) where
  shut_from : (before ts : List StepInput) (c : Conversation)
      → end (next_after step_on) first before ≡ c → Shut c
      → Along (next_after step_on) (λ (d : Conversation) (s : StepInput). P s) c ts
      → Along (next_after step_on) StaysShut c ts
  shut_from before [] c e h a = tt
  shut_from before (s ∷ ts) c e h a =
      let one = shut c h s (λ code. subst (λ (d : Conversation). valid_in d s.account.account
      (read_response s.packet) ≡ false) e (not_valid before s a.0 code)) in (
        one.0,
        shut_from (before ++ (s ∷ [])) ts (next_after step_on c s)
            (end_behind (next_after step_on) first before (s ∷ [])
            ∙ ap (λ (d : Conversation). next_after step_on d s) e) one.1 a.1,
      )

  pub shut_along : Shut first → (ts : List StepInput)
      → Along (next_after step_on) (λ (d : Conversation) (s : StepInput). P s) first ts
      → Along (next_after step_on) StaysShut first ts
  shut_along h ts a = shut_from [] ts first refl h a
