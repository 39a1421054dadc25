-- The conversation and its successors (document 01, "How the box judges"), what it keeps of its
-- last answer (document 02, request 2026-01), and which change it awaits (request 2026-07).
-- Assumes nothing: these are definitions.
use Rattle.std.specs.Prelude.{Bool, true, false, List, ℕ, ◌-◌, replicate}
use Rattle.challenges.specs.Challenges.{next_id, incremented}
use Rattle.packets.specs.Codes.{response_code, change_code, change_one_code}
use Rattle.accounts.specs.Account.{blank_entry}
use Rattle.accounts.specs.declared.Entry.{Entry}
use Rattle.verify.specs.declared.ChangeVersion.{ChangeVersion}
use Rattle.verify.specs.declared.ChangeVersion.TheVariants.{One, Two}
use Rattle.authenticator.specs.declared.Conversation.{Conversation}
use Rattle.authenticator.specs.declared.LastAnswer.{LastAnswer}
use Rattle.authenticator.specs.declared.Phase.{Phase}
use Rattle.authenticator.specs.declared.Phase.TheVariants.{Response, Change, Ended}
use Rattle.authenticator.specs.declared.Reply.{Reply}
use Rattle.authenticator.specs.declared.Reply.TheVariants.{Success}

-- the code of each version's change
abbrev pub change_code_of : ChangeVersion → ℕ
change_code_of One = change_one_code
change_code_of Two = change_code

-- the code of the packet that each phase awaits, by the change that the terms name; 0 is none
abbrev pub awaited_code : ChangeVersion → Phase → ℕ
awaited_code v Response = response_code
awaited_code v Change = change_code_of v
awaited_code v Ended = 0

abbrev pub awaits_response : Phase → Bool
awaits_response Response = true
awaits_response Change = false
awaits_response Ended = false

abbrev pub is_ended : Phase → Bool
is_ended Response = false
is_ended Change = false
is_ended Ended = true

-- every successor keeps the terms and, until the step puts the new one there, the last answer
abbrev pub successor : Conversation → ℕ → List ℕ → ℕ → Phase → Entry → Conversation
successor c id challenge retries phase kept =
    record {
      terms = c.terms;
      id = id;
      challenge = challenge;
      retries = retries;
      phase = phase;
      kept = kept;
      last = c.last;
    }

-- the end: the kept record is dropped
abbrev pub ended : Conversation → Conversation
ended c = successor c c.id c.challenge c.retries Ended blank_entry

-- another Response is awaited
abbrev pub retried : Conversation → Conversation
retried c = successor c (next_id c.id) (incremented c.challenge) (c.retries - 1) c.phase
    c.kept

-- a change is awaited, and the record is kept, without its round keys; the challenge stays
abbrev pub awaiting_change : Conversation → Entry → Conversation
awaiting_change c e = successor c (next_id c.id) c.challenge c.retries Change e

-- ---- the last answer

-- none yet: the Challenge is no answer
abbrev pub no_answer : LastAnswer
no_answer = record { present = false; code = 0; id = 0; reply = Success }

-- the reply that the awaited packet draws: a packet that is judged has the awaited code and the
-- awaited identifier
abbrev pub answer_with : Conversation → Reply → LastAnswer
answer_with c reply =
    record {
      present = true;
      code = awaited_code c.terms.change c.phase;
      id = c.id;
      reply = reply;
    }

abbrev pub with_last : LastAnswer → Conversation → Conversation
with_last last c =
    record {
      terms = c.terms;
      id = c.id;
      challenge = c.challenge;
      retries = c.retries;
      phase = c.phase;
      kept = c.kept;
      last = last;
    }

-- ---- no conversation

-- what a refused opening hands out
abbrev pub closed : Conversation
closed =
    record {
      terms = record { lm = false; limit = 0; change = Two };
      id = 0;
      challenge = replicate 8 0;
      retries = 0;
      phase = Ended;
      kept = blank_entry;
      last = no_answer;
    }
