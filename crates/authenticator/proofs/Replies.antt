-- Every reply that the authenticator writes: that it is the one for its reason, and what our peer's
-- reader finds in it, whatever padding follows.
-- Assumes nothing.
use mathlib.Core.Bool.{Bool, true, false, cond}
use mathlib.Core.List.{List, [], ◌++◌}
use mathlib.Core.Path.{◌≡◌, refl, sym, ap, ◌∙◌, subst}
use Prim.Native.Nat.{ℕ, ◌<◌}
use native.Mathlib.Omega.{arith}
use borrow.Author.Tests.{eqb-true}
use lib.Dec.{eqb}
use Rattle.accounts.specs.declared.Lookup.{Lookup}
use Rattle.std.specs.Prelude.{Result, Ok, Err, None}
use Rattle.refusals.specs.declared.Refusal.{Refusal}
use Rattle.message.specs.Message.{failed_with}
use Rattle.message.specs.declared.Verdict.{Verdict}
use Rattle.message.specs.Reasons.{changing_password, no_reason}
use Rattle.message.specs.declared.Verdict.{Verdict}
use Rattle.message.specs.declared.Verdict.TheVariants as verdicts
use Rattle.packets.specs.Response.{read_response}
use Rattle.packets.specs.Reply.{read_reply}
use Rattle.packets.specs.declared.Response as responses
use Rattle.packets.proofs.ReadBack.{success_back, failure_read}
use Rattle.verify.specs.Response.{response_reason}
use Rattle.verify.specs.Faults.{is_faultless}
use Rattle.verify.specs.declared.ChangeVersion.{ChangeVersion}
use Rattle.verify.specs.declared.ChangeVersion.TheVariants.{One, Two}
use Rattle.verify.specs.declared.Terms.{Terms}
use Rattle.verify.proofs.Reasons.{Reason, success, change, three_digits, response_reason_lem}
use Rattle.authenticator.specs.Judge.{
  reason_of,
  may_retry,
  reply_for,
  judge_response,
  checked_for,
  judge_change,
  judge_in,
  judge,
}
use Rattle.authenticator.specs.Encode.{version, retry_digit, reply_packet}
use Rattle.authenticator.specs.Admit.{is_repeat}
use Rattle.authenticator.specs.Step.{reason_in, is_repeated, Outcome, judged_as}
use Rattle.authenticator.specs.Steps.{StepInput, step_on, reply_of}
use Rattle.authenticator.specs.declared.Conversation.{Conversation}
use Rattle.authenticator.specs.Judge.{Judgement}
use Rattle.authenticator.specs.declared.Phase.{Phase}
use Rattle.authenticator.specs.declared.Phase.TheVariants.{Response, Change, Ended}
use Rattle.authenticator.specs.declared.Reply.{Reply}
use Rattle.authenticator.specs.declared.Reply.TheVariants.{Success, Failure}
use Rattle.authenticator.proofs.Admitted.{Passes, readable_by}
use Rattle.authenticator.proofs.Steps.{judged_step, kind_repeated, reply_of_lem, repeated_reply}

-- ---- the reply is the one for its reason

pub reason_of_reply : (c : Conversation) (e : ℕ) → reason_of (reply_for c e) ≡ e
reason_of_reply c e = which (eqb e no_reason) refl
  where
    which : (t : Bool) → eqb e no_reason ≡ t → reason_of (cond t Success (Failure e (may_retry c e)))
        ≡ e
    which true z = sym (eqb-true e no_reason z)
    which false z = refl

-- a reason of RFC 2433's or Success, and the reply for it
abbrev pub Fitting : Conversation → Judgement → Type 0
Fitting c j = Reason (reason_of j.reply) × (j.reply ≡ reply_for c (reason_of j.reply))

response_fitting : (c : Conversation) (l : Lookup) (f : responses.Response)
    → Fitting c (judge_response c l f)
unfolding judge_response
response_fitting c l f =
    let e = response_reason c.terms c.challenge l f in
    let same = sym (reason_of_reply c e) in
    (subst Reason same (response_reason_lem c.terms c.challenge f l), ap (reply_for c) same)

change_fitting : (c : Conversation) (p : List ℕ) → Fitting c (judge_change c p)
unfolding judge_change
change_fitting c p = which (is_faultless (checked_for c.terms.change c p).fault)
  where
    reply : Bool → Reply
    reply t = cond t Success (Failure changing_password false)

    which : (t : Bool) → Reason (reason_of (reply t)) × (reply t ≡ reply_for c (reason_of (reply t)))
    which true = (success, refl)
    which false = (change, refl)

judge_in_fitting : (ph : Phase) (c : Conversation) (p : List ℕ) (l : Lookup)
    → Fitting c (judge_in ph c p l)
judge_in_fitting Response c p l = response_fitting c l (read_response p)
judge_in_fitting Change c p l = change_fitting c p
judge_in_fitting Ended c p l = (success, refl)

pub judge_fitting : (c : Conversation) (p : List ℕ) (l : Lookup) → Fitting c (judge c p l)
unfolding judge
judge_fitting c p l = judge_in_fitting c.phase c p l

-- ---- what our peer reads of it

abbrev pub reading_for : Terms → Reply → Result Verdict Refusal
reading_for t Success = Ok verdicts.Success
reading_for t (Failure e retry) =
    Ok (verdicts.Failure (failed_with e (retry_digit retry) (version t.change) None))

-- V is one digit
digit : (v : ChangeVersion) → version v < 10
digit One = omega arith
digit Two = omega arith

pub read_reply_lem : (t : Terms) (id : ℕ) (reply : Reply) (behind : List ℕ) → reason_of reply < 1000
    → read_reply id (reply_packet t id reply ++ behind) ≡ reading_for t reply
read_reply_lem t id Success behind small = success_back id behind
read_reply_lem t id (Failure e true) behind small =
    failure_read id e 1 (version t.change) behind small (omega arith) (digit t.change)
read_reply_lem t id (Failure e false) behind small =
    failure_read id e 0 (version t.change) behind small (omega arith) (digit t.change)

-- so the octets of a reply tell its reason, whatever the terms
abbrev reason_read : Result Verdict Refusal → ℕ
reason_read (Ok verdicts.Success) = no_reason
reason_read (Ok (verdicts.Failure f)) = f.e
reason_read (Err r) = no_reason

reason_read_lem : (t : Terms) (reply : Reply) → reason_read (reading_for t reply) ≡ reason_of reply
reason_read_lem t Success = refl
reason_read_lem t (Failure e retry) = refl

pub reply_tells : (t u : Terms) (id : ℕ) (r s : Reply) → reason_of r < 1000 → reason_of s < 1000
    → reply_packet t id r ≡ reply_packet u id s → reason_of r ≡ reason_of s
reply_tells t u id r s few less e =
    sym (reason_read_lem t r)
    ∙ ap reason_read
    (sym (read_reply_lem t id r [] few) ∙ ap (λ (x : List ℕ). read_reply id (x ++ [])) e
    ∙ read_reply_lem u id s [] less)
    ∙ reason_read_lem u s

module _ (c : Conversation) (s : StepInput) (ok : Passes c s.packet s.buffer) where
  abbrev reason : ℕ
  reason = reason_in (step_on c s).answer.kind

  abbrev judgement : Judgement
  judgement = judge c s.packet s.account

  took : step_on c s ≡ judged_as c judgement s.buffer
  took = judged_step c s.packet s.account s.buffer ok

  same_reason : reason ≡ reason_of judgement.reply
  same_reason = ap (λ (o : Outcome). reason_in o.answer.kind) took

  -- the reason of a judged packet is one of document 01's
  pub judged_reason : Reason reason
  judged_reason = subst Reason (sym same_reason) (judge_fitting c s.packet s.account).0

  same_reply_lem : judgement.reply ≡ reply_for c reason
  same_reply_lem = (judge_fitting c s.packet s.account).1 ∙ ap (reply_for c) (sym same_reason)

  -- its reply is the one for the reason
  pub judged_reply : reply_of (step_on c s) ≡ reply_packet c.terms c.id (reply_for c reason)
  judged_reply =
      ap reply_of took
      ∙ reply_of_lem c judgement s.buffer ok.readable.room
      ∙ ap (reply_packet c.terms c.id) same_reply_lem

  -- and it reads as the reason, R and the V of the change that is awaited
  pub judged_read : (behind : List ℕ)
      → read_reply c.id (reply_of (step_on c s) ++ behind) ≡ reading_for c.terms
      (reply_for c reason)
  judged_read behind =
      ap (λ (x : List ℕ). read_reply c.id (x ++ behind)) judged_reply
      ∙ read_reply_lem c.terms c.id (reply_for c reason) behind
      (subst (λ (e : ℕ). e < 1000) (sym (reason_of_reply c reason)) (three_digits judged_reason))

-- a repeat reads as the reply that was given
pub repeat_read : (c : Conversation) (s : StepInput)
    → is_repeated (step_on c s).answer.kind ≡ true → reason_of c.last.reply < 1000
    → (behind : List ℕ)
    → read_reply c.last.id (reply_of (step_on c s) ++ behind) ≡ reading_for c.terms
    c.last.reply
repeat_read c s r small behind =
    let k = kind_repeated c s.packet s.account s.buffer r in
    let room = (readable_by c s.packet s.buffer (is_repeat c.last s.packet)
    k.0).room in
    ap (λ (x : List ℕ). read_reply c.last.id (x ++ behind))
    (ap reply_of k.1 ∙ repeated_reply c s.buffer room)
    ∙ read_reply_lem c.terms c.last.id c.last.reply behind small
