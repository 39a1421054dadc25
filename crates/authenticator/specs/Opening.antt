-- The opening of a conversation: it fixes the limit of invalid Responses in a row (document 02,
-- request 2026-09), spends its challenge and its successors, which adds them to the list of issued
-- challenges (request 2026-03), and writes the Challenge.
-- Assumes nothing: these are definitions.
use Rattle.std.specs.Prelude.{Option, Some, None, Result, Ok, Err}
use Rattle.std.specs.Prelude.{Bool, true, false, cond, List, ◌≡◌, ℕ, suc, eqb, ltb, length}
use Rattle.issued.specs.Issued.{Issued, spend_refusal, added}
use Rattle.packets.specs.Frame.{written_over}
use Rattle.challenges.specs.Challenges.{challenges_from}
use Rattle.packets.specs.Reply.{challenge_packet, bad_reply_buffer}
use Rattle.accounts.specs.Account.{blank_entry}
use Rattle.verify.specs.declared.ChangeVersion.{ChangeVersion}
use Rattle.verify.specs.declared.ChangeVersion.TheVariants.{One, Two}
use Rattle.authenticator.specs.Conversation.{no_answer, closed}
use Rattle.authenticator.specs.declared.Conversation.{Conversation}
use Rattle.authenticator.specs.declared.Phase.TheVariants.{Response}
use Rattle.refusals.specs.Refusal.{number}
use Rattle.refusals.specs.declared.Refusal.{Refusal}
use Rattle.authenticator.specs.declared.Started.{Started}

-- what is passed to an opening
pub record Opening : Type 0 where
  pub id : ℕ
  pub challenge : List ℕ
  pub retries : Option ℕ
  pub lm : Option Bool
  pub change : Option ChangeVersion
  pub limit : ℕ
  pub issued : Issued
  pub buffer : List ℕ

-- document 01's r: silence means 2, and 7 is the most
abbrev pub default_retries : ℕ
default_retries = 2

abbrev pub most_retries : ℕ
most_retries = 7

abbrev pub retries_of : Option ℕ → ℕ
retries_of None = default_retries
retries_of (Some r) = r

-- "An opening that is silent about LM now disallows it" (document 02, request 2026-06)
abbrev pub lm_allowed : Option Bool → Bool
lm_allowed None = false
lm_allowed (Some true) = true
lm_allowed (Some false) = false

-- "A box opened for it .. awaits code 5 after 648" (document 02, request 2026-07); silence means
-- version 2, document 01's change
abbrev pub change_of : Option ChangeVersion → ChangeVersion
change_of None = Two
change_of (Some One) = One
change_of (Some Two) = Two

-- "the challenge and its r successors by the 23 rule"
abbrev pub spends : Opening → List (List ℕ)
spends o = challenges_from (suc (retries_of o.retries)) o.challenge

abbrev pub too_many_retries : Opening → Bool
too_many_retries o = ltb most_retries (retries_of o.retries)

-- "18, limit 0, checked first at opening"
abbrev pub no_limit : Opening → Bool
no_limit o = eqb o.limit 0

-- 18, 13, 2, and then 24, 16, 17 of the list, whose entries have 8 octets; 0 is none
unfoldable pub open_refusal : Opening → ℕ
open_refusal o =
    cond (no_limit o) 18
    (cond (too_many_retries o) 13
    (cond (bad_reply_buffer o.buffer) 2
    (spend_refusal 8 (spends o) o.issued)))

-- the list afterwards: "all are added", or it is as it was
unfoldable pub opened_issued : Opening → Issued
opened_issued o = cond (eqb (open_refusal o) 0) (added 8 (spends o) o.issued) o.issued

abbrev pub first_conversation : Opening → Conversation
first_conversation o =
    record {
      terms = record {
        lm = lm_allowed o.lm;
        limit = o.limit;
        change = change_of o.change;
      };
      id = o.id;
      challenge = o.challenge;
      retries = retries_of o.retries;
      phase = Response;
      kept = blank_entry;
      last = no_answer;
    }

abbrev pub opening_packet : Opening → List ℕ
opening_packet o = challenge_packet o.id o.challenge

-- What an opening answers: the number of the refusal (0 is none), the conversation (an ended one of
-- fixed values beside a refusal), how many octets of the reply buffer the Challenge takes, and how
-- many places of the list of issued challenges are used then.
pub record Opened : Type 0 where
  pub refusal : ℕ
  pub conversation : Conversation
  pub written : ℕ
  pub used : ℕ

-- where it refuses, as many places are used as before
abbrev pub opened_as : Opening → Result Started Refusal → Opened
opened_as o (Ok s) =
    record { refusal = 0; conversation = s.conversation; written = s.written; used = s.used }
opened_as o (Err r) =
    record { refusal = number r; conversation = closed; written = 0; used = o.issued.used }

-- the answer, by the refusal, and the reply buffer afterwards
abbrev pub opened_by : ℕ → Opening → Opened
opened_by n o =
    cond (eqb n 0)
    (record {
      refusal = 0;
      conversation = first_conversation o;
      written = length (opening_packet o);
      used = (opened_issued o).used;
    })
    (record { refusal = n; conversation = closed; written = 0; used = o.issued.used })

unfoldable pub opened : Opening → Opened
opened o = opened_by (open_refusal o) o

unfoldable pub opened_buffer : Opening → List ℕ
opened_buffer o = cond (eqb (open_refusal o) 0) (written_over (opening_packet o) o.buffer)
    o.buffer

-- how many places of the list are used after it
abbrev pub places_after : ℕ → Result Started Refusal → ℕ
places_after used (Ok s) = s.used
places_after used (Err r) = used

-- what an opening answers (r), and leaves in the list and in the reply buffer
pub record OpenedAs (o : Opening) (r : Result Started Refusal) (issued : Issued)
    (buffer : List ℕ) : Type 0 where
  pub answer : opened_as o r ≡ opened o
  pub list : issued ≡ opened_issued o
  pub reply : buffer ≡ opened_buffer o
