-- Our way to open, and wrong ones. The claims about one list (specs/OneList) and about LM
-- (specs/LmOptIn) hold of ours (proofs/OneList, LmOptIn); each of the others fails one of them
-- (proofs/WrongOpeners, WrongLm), `takes_lm` in every way but ours.
-- Assumes nothing: these are definitions.
use Rattle.std.specs.Prelude.{Option, Some, None}
use Rattle.std.specs.Prelude.{Bool, true, false, cond, List, ℕ, length}
use Rattle.issued.specs.Issued.{Issued}
use Rattle.authenticator.specs.Conversation.{answer_with, with_last, closed}
use Rattle.authenticator.specs.Opening.{Opening, retries_of, open_refusal, first_conversation}
use Rattle.authenticator.specs.Opening.{opening_packet, opened, opened_issued, opened_buffer}
use Rattle.authenticator.specs.declared.Conversation.{Conversation}
use Rattle.authenticator.specs.Opening.{Opened}
use Rattle.authenticator.specs.declared.Reply.TheVariants.{Success}
use Rattle.series.specs.Boxes.{with_retries, with_lm}

-- what an opening answers, and what it leaves in the list and in the reply buffer
pub record Opener : Type 0 where
  pub answer : Opening → Opened
  pub leaves : Opening → Issued
  pub reply : Opening → List ℕ

-- refuses everything, with one number or another
abbrev pub refuses_to_open : ℕ → Opener
refuses_to_open n =
    record {
      answer = λ o. record {
        refusal = n;
        conversation = closed;
        written = 0;
        used = o.issued.used;
      };
      leaves = λ o. o.issued;
      reply = λ o. o.buffer;
    }

-- says what it refuses, and hands out a conversation all the same
abbrev pub opens_refused : Opener
opens_refused =
    record {
      answer = λ o.
          record {
            refusal = open_refusal o;
            conversation = first_conversation o;
            written = length (opening_packet o);
            used = (opened_issued o).used;
          };
      leaves = opened_issued;
      reply = opened_buffer;
    }

-- the list is left as it was
abbrev pub leaves_list : Opener
leaves_list = record { answer = opened; leaves = λ o. o.issued; reply = opened_buffer }

-- the same opening with no retries
abbrev pub no_retries : Opening → Opening
no_retries o =
    record {
      id = o.id;
      challenge = o.challenge;
      retries = Some 0;
      lm = o.lm;
      change = o.change;
      limit = o.limit;
      issued = o.issued;
      buffer = o.buffer;
    }

-- the challenge alone is spent: none of its successors is looked for, and none is added
abbrev pub spends_one : Opener
spends_one =
    record {
      answer = λ o.
          let a = opened (no_retries o) in
          record {
            refusal = a.refusal;
            conversation = with_retries (retries_of o.retries)
                a.conversation;
            written = a.written;
            used = a.used;
          };
      leaves = λ o. opened_issued (no_retries o);
      reply = λ o. opened_buffer (no_retries o);
    }

-- refuses an opening that is silent about LM, with one number or another
abbrev pub is_silent : Option Bool → Bool
is_silent None = true
is_silent (Some true) = false
is_silent (Some false) = false

abbrev pub refuses_silent : ℕ → Opener
refuses_silent n =
    record {
      answer = λ o. cond (is_silent o.lm) ((refuses_to_open n).answer o) (opened o);
      leaves = λ o. cond (is_silent o.lm) o.issued (opened_issued o);
      reply = λ o. cond (is_silent o.lm) o.buffer (opened_buffer o);
    }

-- ours but for the conversation
abbrev pub with_conversation : (Opening → Conversation → Conversation) → Opener
with_conversation other =
    record {
      answer = λ o.
          let a = opened o in
          record {
            refusal = a.refusal;
            conversation = other o a.conversation;
            written = a.written;
            used = a.used;
          };
      leaves = opened_issued;
      reply = opened_buffer;
    }

-- takes the three choices about LM in one way or another
abbrev pub takes_lm : (Option Bool → Bool) → Opener
takes_lm allowed = with_conversation (λ o c. with_lm (allowed o.lm) c)

-- its conversation has answered the awaited packet with Success already, so that what comes is
-- taken for a repeat
abbrev pub opens_answered : Opener
opens_answered = with_conversation (λ o c. with_last (answer_with c Success) c)

-- what the promise of the authenticator's `open` says
abbrev pub spends_all : Opener
spends_all = record { answer = opened; leaves = opened_issued; reply = opened_buffer }

-- ours
abbrev pub our_opener : Opener
our_opener = spends_all
