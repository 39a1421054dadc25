-- The claim about one list shuts out an opener that refuses everything, one that hands out a
-- conversation with a refusal, one that leaves the list as it was, and one that spends the
-- challenge alone.
-- Assumes nothing.
use Rattle.std.specs.Prelude.{Some, None}
use mathlib.Core.Bool.{true≢false}
use mathlib.Core.List.{List, [], ◌∷◌, ◌++◌, flatten}
use mathlib.Core.Path.{◌≡◌, refl, sym, ap, ◌∙◌}
use Prim.Native.Nat.{ℕ}
use native.Mathlib.Omega.{arith}
use lib.ListN.{replicate}
use Rattle.octets.specs.Parts.{over, agrees}
use Rattle.issued.specs.Issued.{
  contains,
  contains_any,
  ending,
  endings,
  empty_list,
  bad_buffer,
  spend_refusal,
}
use Rattle.challenges.specs.Challenges.{incremented, challenges_from}
use Rattle.packets.specs.Response.{response_refusal}
use Rattle.accounts.specs.Account.{not_found}
use Rattle.authenticator.specs.Conversation.{is_ended}
use Rattle.authenticator.specs.Opening.{
  Opening,
  open_refusal,
  first_conversation,
  opened,
  opened_issued,
}
use Rattle.authenticator.specs.Admit.{refusal_for}
use Rattle.verify.specs.Response.{first_reason, response_reason}
use Rattle.authenticator.specs.Judge.{judge_response, judge}
use Rattle.authenticator.specs.Step.{step}
use Rattle.authenticator.specs.Steps.{StepInput, next_after}
use Rattle.authenticator.specs.declared.Conversation.{Conversation}
use Rattle.authenticator.proofs.Openings.{opened_first, may_open_empty}
use Rattle.series.specs.Boxes.{with_retries, our_box}
use Rattle.series.specs.Openers.{
  refuses_to_open,
  opens_refused,
  leaves_list,
  no_retries,
  spends_one,
}
use Rattle.series.specs.OneList.{Two, NoneTwice, OneList}
use Rattle.series.proofs.Shared.{
  opening_on,
  challenge,
  first,
  six_places,
  openable,
  first_opens_lem,
  input,
  opens_live,
}

-- ---- refuses everything

-- its conversation awaits a Response, and what this one hands out has ended
pub not_refusing_to_open : (n : ℕ) → OneList (refuses_to_open n) → ⊥
not_refusing_to_open n claim = true≢false (ap (λ (c : Conversation). is_ended c.phase) (claim.may_open first (openable None)).1)

-- ---- a conversation is handed out with a refusal

-- the first one's challenge again, on the list that it left: refused with 16, and put in force all
-- the same
pub not_opening_refused : NoneTwice opens_refused → ⊥
not_opening_refused claim = claim (empty_list 8 6) first again both [] [] refl
  where
    again : Opening
    again = opening_on (opened_issued first) None challenge

    both : Two opens_refused (empty_list 8 6) first again
    both =
        record {
          before = [];
          between = [];
          after = [];
          run = (input first refl refl, (input again refl refl, tt));
          first_opens = refl;
          second_opens = refl;
        }

-- ---- the list is left as it was

-- one opening twice
pub not_leaving_list : NoneTwice leaves_list → ⊥
not_leaving_list claim = claim (empty_list 8 6) first first twice [] [] refl
  where
    twice : Two leaves_list (empty_list 8 6) first first
    twice =
        record {
          before = [];
          between = [];
          after = [];
          run = (input first refl refl, (input first refl refl, tt));
          first_opens = opens_live first first_opens_lem;
          second_opens = opens_live first first_opens_lem;
        }

-- ---- the challenge alone is spent

-- the first opening allows one retry; the second has the successor for its challenge
abbrev retrying : Opening
retrying = opening_on (empty_list 8 6) (Some 1) challenge

abbrev following : Opening
following = opening_on (opened_issued (no_retries retrying)) (Some 0) (incremented challenge)

retrying_opens : (opened (no_retries retrying)).refusal ≡ 0
retrying_opens = may_open_empty (no_retries retrying) (omega arith) (omega arith) (omega arith) six_places refl refl (omega arith)

following_opens : (opened (no_retries following)).refusal ≡ 0
unfolding opened opened_issued open_refusal spend_refusal bad_buffer flatten over agrees ending endings contains contains_any challenges_from
following_opens = refl

-- a Response with no record: it draws 691 with R=1
abbrev try : StepInput
try = record { packet = 2 ∷ 7 ∷ 0 ∷ 55 ∷ 49 ∷ (replicate 48 0 ++ (1 ∷ 117 ∷ [])); account = not_found; buffer = replicate 17 0 }

abbrev after_try : Conversation → List ℕ
after_try c = (next_after our_box (with_retries 1 c) try).challenge

retry_grows : after_try (first_conversation (no_retries retrying)) ≡ incremented challenge
unfolding refusal_for response_refusal step judge judge_response response_reason first_reason
retry_grows = refl

-- the retry of the first puts the second's challenge in force
pub not_spending_one : NoneTwice spends_one → ⊥
not_spending_one claim =
    claim (empty_list 8 6) retrying following both (try ∷ []) []
    (ap after_try (opened_first (no_retries retrying) retrying_opens) ∙ retry_grows
    ∙ sym (ap (λ (c : Conversation). c.challenge) (opened_first (no_retries following) following_opens)))
  where
    both : Two spends_one (empty_list 8 6) retrying following
    both =
        record {
          before = [];
          between = [];
          after = [];
          run = (input retrying refl refl, (input following refl refl, tt));
          first_opens = opens_live (no_retries retrying) retrying_opens;
          second_opens = opens_live (no_retries following) following_opens;
        }
