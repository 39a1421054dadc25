-- Sample guesses: in the first conversation of an opening with no retries and any limit, a Response
-- by the right password, or one by LM, which is off there, so that it is invalid; with the sample's
-- record and any count; with our box, and with boxes that count or lock otherwise.
-- Assumes nothing.
use Rattle.std.specs.Prelude.{Some}
use mathlib.Core.Bool.{Bool, true, false, cond, not, ◌&&◌}
use mathlib.Core.List.{List, [], ◌++◌}
use mathlib.Core.Path.{◌≡◌, refl, ap, ap₂, ◌∙◌}
use Prim.Native.Nat.{ℕ, ◌<◌}
use native.Mathlib.Omega.{arith}
use borrow.Author.Tests.{eq-eqb}
use lib.Dec.{eqb, leb}
use lib.ListN.{replicate}
use Rattle.credentials.specs.Credentials.{nt_hash_of}
use Rattle.credentials.proofs.Laws.{length_response}
use Rattle.message.specs.Reasons.{authentication_failure, no_reason}
use Rattle.packets.specs.Codes.{response_code}
use Rattle.packets.specs.Frame.{octet}
use Rattle.packets.specs.Response.{response_packet, read_response}
use Rattle.packets.specs.declared.Response.{Response}
use Rattle.packets.proofs.ReadBack.{ResponseBack, response_back}
use Rattle.accounts.specs.Account.{found, entry_of, with_failures, Agree}
use Rattle.accounts.specs.declared.Account.{Account}
use Rattle.accounts.proofs.Agreeing.{counted_agrees}
use Rattle.verify.specs.Lockout.{failures_after}
use Rattle.verify.specs.Response.{valid, first_reason, response_reason}
use Rattle.authenticator.specs.Judge.{valid_in, reply_for, judge_response, judge}
use Rattle.authenticator.specs.Encode.{reply_packet}
use Rattle.authenticator.specs.Opening.{first_conversation}
use Rattle.authenticator.specs.Step.{Outcome, refusal_in, is_repeated, judged_as}
use Rattle.authenticator.specs.Steps.{StepInput, step_on, Box, reply_of, drew_reply, unanswered}
use Rattle.authenticator.specs.Steps.{ruled_refusal, is_judged}
use Rattle.authenticator.specs.declared.Conversation.{Conversation}
use Rattle.authenticator.specs.Judge.{Judgement}
use Rattle.authenticator.proofs.Admitted.{Passes}
use Rattle.authenticator.proofs.Admitted as admitted
use Rattle.authenticator.proofs.Fresh.{fresh_first}
use Rattle.authenticator.proofs.Steps.{judged_step, reply_of_lem, drew_judged}
use Rattle.peer.specs.Write.{response_fields, response_for}
use Rattle.peer.specs.declared.Turn.{Turn}
use Rattle.peer.proofs.Found.{response_found}
use Rattle.series.specs.Boxes.{judges_here, Judge, judging, CountRule, counted_by, counts_by}
use Rattle.series.specs.Boxes.{limited_to}
use Rattle.series.specs.Writers.{lm_fields}
use Rattle.series.proofs.Sample.{challenge, opening_of, old, user, account, agreeing}
use Rattle.series.proofs.Sent.{seen_new}
use Rattle.series.proofs.Taken.{response_passes, right_valid}

-- ---- the packets

abbrev turn : Turn
turn = record { id = 255; challenge = challenge }

abbrev pub fields_saying : Bool → Response
fields_saying true = response_fields challenge old
fields_saying false = lm_fields (response_fields challenge old)

-- a valid Response, or an invalid one
abbrev pub packet_saying : Bool → List ℕ
packet_saying true = response_for turn old user ++ []
packet_saying false = response_packet 255 (lm_fields (response_fields challenge old)) user ++ []

back : (v : Bool) → ResponseBack 255 (fields_saying v) user (packet_saying v)
back true = response_found turn old user [] (omega arith) (omega arith)
back false = response_back 255 (fields_saying false) user [] refl
    (length_response (nt_hash_of old) challenge) (omega arith) (omega arith)

pub said_fields : (v : Bool) → read_response (packet_saying v) ≡ fields_saying v
said_fields v = (back v).fields

pub said_code : (v : Bool) → octet 0 (packet_saying v) ≡ response_code
said_code v = (back v).code

pub said_id : (v : Bool) → octet 1 (packet_saying v) ≡ 255
said_id v = (back v).id

flag_small : (v : Bool) → (fields_saying v).flag < 2
flag_small true = omega arith
flag_small false = omega arith

-- ---- one guess, with any record

module _ (limit : ℕ) where
  abbrev pub begun : Conversation
  begun = first_conversation (opening_of (Some 0) limit)

  module _ (v : Bool) (a : Account) where
    abbrev pub guess_at : StepInput
    guess_at = record { packet = packet_saying v; account = found a; buffer = replicate 17 0 }

    passes : Passes begun (packet_saying v) (replicate 17 0)
    passes = response_passes begun (fresh_first begun refl) refl (omega arith) (back v) refl
        (flag_small v)

    took : step_on begun guess_at
        ≡ judged_as begun (judge begun (packet_saying v) (found a)) (replicate 17 0)
    took = judged_step begun (packet_saying v) (found a) (replicate 17 0) passes

    judges : judges_here begun guess_at ≡ true
    judges = ap (λ (o : Outcome). eqb (refusal_in o.answer.kind) 0
        && not (is_repeated o.answer.kind)) took

    pub judging_took : (j : Judge)
        → judging j begun guess_at ≡ judged_as begun (j begun guess_at) (replicate 17 0)
    judging_took j =
        ap (λ (t : Bool). cond t (judged_as begun (j begun guess_at) (replicate 17 0))
        (step_on begun guess_at)) judges

    -- a box that judges it, by whatever judgement
    module _ (box : Box) (d : Judgement)
        (took-so : box begun guess_at ≡ judged_as begun d (replicate 17 0)) where
      pub judged_so : is_judged box (unanswered begun) guess_at ≡ true
      judged_so =
          ap₂ (λ (t u : Bool). t && not u)
          (ap (λ (o : Outcome). drew_reply o (replicate 17 0)) took-so ∙ drew_judged begun guess_at d)
          (seen_new (unanswered begun) guess_at refl)

      reply_so : reply_of (box begun guess_at) ≡ reply_packet begun.terms 255 d.reply
      reply_so = ap reply_of took-so ∙ reply_of_lem begun d (replicate 17 0) (omega arith)

-- ---- one guess, with the sample's record and any count

abbrev pub counting : ℕ → Account
counting n = with_failures n (account false)

pub counting_agrees : (n : ℕ) → Agree (counting n)
counting_agrees n = counted_agrees n (account false) (agreeing false)

module _ (limit n : ℕ) (v : Bool) where
  abbrev pub first : Conversation
  first = begun limit

  abbrev pub guess : StepInput
  guess = guess_at limit v (counting n)

  -- the rules refuse it in no way
  pub passes_first : ruled_refusal (unanswered first) guess ≡ 0
  passes_first =
      admitted.passes first (packet_saying v) (replicate 17 0) (passes limit v (counting n))

  -- the one is valid, and the other is not
  pub said_valid : (w : Bool) → valid_in first (counting n) (read_response (packet_saying w)) ≡ w
  unfolding valid
  said_valid true =
      right_valid first turn refl old user [] (omega arith, omega arith) (counting n) refl
      (counting_agrees n) refl
  said_valid false = simp (ap (λ (f : Response). f.flag) (back false).fields)

  -- judged valid below the limit alone
  abbrev counts : Bool
  counts = not (leb limit n) && v

  reason : response_reason first.terms first.challenge (found (counting n))
      (read_response (packet_saying v)) ≡ cond counts no_reason authentication_failure
  unfolding response_reason first_reason
  reason =
      ap (λ (w : Bool). first_reason (not (leb limit n) && w)
      (entry_of (counting n))) (said_valid v)
      ∙ which counts
    where
      which : (w : Bool) → first_reason w (entry_of (counting n))
          ≡ cond w no_reason authentication_failure
      which true = refl
      which false = refl

  -- our judgement of it, and the record as a rule counts it
  reply_drawn : (judge first (packet_saying v) (found (counting n))).reply
      ≡ reply_for first (cond counts no_reason authentication_failure)
  unfolding judge judge_response
  reply_drawn = ap (reply_for first) reason

  rule_counted : (rule : CountRule) → counted_by rule first guess
      ≡ found (with_failures (rule (leb limit n) v n) (account false))
  rule_counted rule =
      ap (λ (w : Bool). found (with_failures (rule (leb limit n) w n) (account false)))
      (said_valid v)

-- What comes of a guess with a box that locks a record by its count and counts by a rule: it is
-- judged, by what is seen; it draws Success where it is valid and the record not locked, and else
-- 691; and the record is handed out as the rule counts.
pub record Guessed (box : Box) (rule : CountRule) (lock : ℕ → Bool) (limit : ℕ) : Type 0 where
  pub judged : (n : ℕ) (v : Bool)
      → is_judged box (unanswered (first limit n v)) (guess limit n v) ≡ true
  pub reply : (n : ℕ) (v : Bool) → reply_of (box (first limit n v) (guess limit n v))
      ≡ reply_packet (first limit n v).terms 255
      (reply_for (first limit n v) (cond (not (lock n) && v) no_reason authentication_failure))
  pub handed : (n : ℕ) (v : Bool) → (box (first limit n v) (guess limit n v)).answer.updated
      ≡ found (with_failures (rule (lock n) v n) (account false))

-- a box that judges as ours does and counts by any rule
pub by_rule : (rule : CountRule) (limit : ℕ)
    → Guessed (judging (counts_by rule)) rule (leb limit) limit
by_rule rule limit =
    record {
      judged = λ n v. judged_so limit v (counting n) box (d n v) (box_took n v);
      reply = λ n v. reply_so limit v (counting n) box (d n v) (box_took n v)
          ∙ ap (reply_packet (first limit n v).terms 255) (reply_drawn limit n v);
      handed = λ n v. ap (λ (o : Outcome). o.answer.updated) (box_took n v)
          ∙ ap (λ (t : Bool). cond t (counted_by rule (first limit n v) (guess limit n v))
          (judge (first limit n v) (packet_saying v) (found (counting n))).updated)
          (eq-eqb (octet 0 (packet_saying v)) response_code (said_code v))
          ∙ rule_counted limit n v rule;
    }
  where
    box : Box
    box = judging (counts_by rule)

    d : ℕ → Bool → Judgement
    d n v = counts_by rule (first limit n v) (guess limit n v)

    box_took : (n : ℕ) (v : Bool) → box (first limit n v) (guess limit n v)
        ≡ judged_as (first limit n v) (d n v) (replicate 17 0)
    box_took n v = judging_took limit v (counting n) (counts_by rule)

-- and ours
pub by_ours : (limit : ℕ) → Guessed step_on failures_after (leb limit) limit
unfolding judge judge_response
by_ours limit =
    record {
      judged = λ n v. judged_so limit v (counting n) step_on (d n v) (took limit v (counting n));
      reply = λ n v. reply_so limit v (counting n) step_on (d n v) (took limit v (counting n))
          ∙ ap (reply_packet (first limit n v).terms 255) (reply_drawn limit n v);
      handed = λ n v. ap (λ (o : Outcome). o.answer.updated) (took limit v (counting n))
          ∙ rule_counted limit n v failures_after;
    }
  where
    d : ℕ → Bool → Judgement
    d n v = judge (first limit n v) (packet_saying v) (found (counting n))

-- one that counts as ours does and locks by another limit
pub by_limit : (other : ℕ → ℕ) (limit : ℕ)
    → Guessed (judging (limited_to other)) failures_after (leb (other limit)) limit
unfolding judge judge_response
by_limit other limit =
    record {
      judged = λ n v. judged_so limit v (counting n) box (d n v) (box_took n v);
      reply = λ n v. reply_so limit v (counting n) box (d n v) (box_took n v)
          ∙ ap (reply_packet (first limit n v).terms 255) (reply_drawn (other limit) n v);
      handed = λ n v. ap (λ (o : Outcome). o.answer.updated) (box_took n v)
          ∙ rule_counted (other limit) n v failures_after;
    }
  where
    box : Box
    box = judging (limited_to other)

    d : ℕ → Bool → Judgement
    d n v = limited_to other (first limit n v) (guess limit n v)

    box_took : (n : ℕ) (v : Bool) → box (first limit n v) (guess limit n v)
        ≡ judged_as (first limit n v) (d n v) (replicate 17 0)
    box_took n v = judging_took limit v (counting n) (limited_to other)
