-- Our box, and wrong ones: one that refuses everything, and boxes that are ours but for one slip
-- each. Demand 3 holds of ours (proofs/Demand3) and of none of the others (proofs/Wrong,
-- WrongRefusals, WrongRepeats, WrongCounts, WrongSchedules, WrongChanges).
-- Assumes nothing: these are definitions.
use Rattle.std.specs.Prelude.{Some, None}
use Rattle.std.specs.Prelude.{Bool, true, false, cond, not, ◌&&◌, List, ℕ, suc, ◌%◌, eqb, ltb}
use Rattle.message.specs.Reasons.{no_reason, changing_password}
use Rattle.packets.specs.Codes.{response_code, change_code, change_one_code}
use Rattle.packets.specs.Frame.{octet, written_over}
use Rattle.packets.specs.Response.{read_response}
use Rattle.authenticator.specs.Admit.{refusal_for}
use Rattle.authenticator.specs.Encode.{reply_packet}
use Rattle.accounts.specs.Account.{not_found, found, lookup_of, entry_of, with_schedules}
use Rattle.accounts.specs.Account.{account_of}
use Rattle.accounts.specs.Account.{with_failures}
use Rattle.accounts.specs.declared.Lookup.{Lookup}
use Rattle.verify.specs.Lockout.{is_locked, one_more}
use Rattle.verify.specs.Response.{found_valid}
use Rattle.verify.specs.declared.ChangeFault.TheVariants.{HashWrong}
use Rattle.verify.specs.declared.ChangeVersion.{ChangeVersion}
use Rattle.authenticator.specs.Conversation.{is_ended, ended}
use Rattle.authenticator.specs.Judge.{Judgement}
use Rattle.authenticator.specs.Judge.{valid_in, judgement_for, judge}
use Rattle.authenticator.specs.Step.{Outcome, is_repeated, judged_as, repeated_as, refused_as}
use Rattle.authenticator.specs.Steps.{StepInput, Box, step_on, refusal_at}
use Rattle.authenticator.specs.declared.Conversation.{Conversation}
use Rattle.authenticator.specs.declared.Reply.TheVariants.{Failure}
use Rattle.authenticator.specs.Step.{Kind}
use Rattle.authenticator.specs.Step.{Refused, Repeated, Judged}

-- refuses everything, with one number or another
abbrev pub refusing : ℕ → Box
refusing n c s = refused_as n c s.buffer

-- what our box refuses, repeats and judges
abbrev pub repeats_here : Conversation → StepInput → Bool
repeats_here c s = is_repeated (step_on c s).answer.kind

abbrev pub judges_here : Conversation → StepInput → Bool
judges_here c s = eqb (refusal_at step_on c s) 0 && not (repeats_here c s)

abbrev pub is_change : Conversation → StepInput → Bool
is_change c s = eqb (octet 0 s.packet) change_code

-- what a judged packet draws, and a box that refuses and repeats what ours does and judges the rest
-- so
abbrev pub Judge : Type 0
Judge = Conversation → StepInput → Judgement

abbrev pub judging : Judge → Box
judging d c s = cond (judges_here c s) (judged_as c (d c s) s.buffer) (step_on c s)

-- 691 always: no record is ever found
abbrev pub finds_none : Judge
finds_none c s = judge c s.packet not_found

-- accepts always, and hands the record out as after a valid Response
abbrev pub accepts : Judge
accepts c s =
    judgement_for c
    (lookup_of s.account.found (with_failures 0 s.account.account)) no_reason

-- the change does nothing to the record: the kept one is handed out
abbrev pub leaves_record : Judge
leaves_record c s =
    let d = judge c s.packet s.account in
    record {
      reply = d.reply;
      fault = d.fault;
      next = d.next;
      updated = cond (is_change c s && d.updated.found) (found (account_of c.kept)) d.updated;
    }

-- judges the first Response of a conversation that was opened with r retries, and pretends on
-- retries
abbrev pub pretends : ℕ → Judge
pretends r c s = cond (ltb c.retries r) (accepts c s) (judge c s.packet s.account)

-- a conversation with another number of retries left
abbrev pub with_retries : ℕ → Conversation → Conversation
with_retries r c = record {
  terms = c.terms;
  id = c.id;
  challenge = c.challenge;
  retries = r;
  phase = c.phase;
  kept = c.kept;
  last = c.last;
}

-- and with another identifier awaited
abbrev pub with_id : ℕ → Conversation → Conversation
with_id id c = record {
  terms = c.terms;
  id = id;
  challenge = c.challenge;
  retries = c.retries;
  phase = c.phase;
  kept = c.kept;
  last = c.last;
}

-- retries do not fall
abbrev pub never_counts : Judge
never_counts c s =
    let d = judge c s.packet s.account in
    record {
      reply = d.reply;
      fault = d.fault;
      next = with_retries c.retries d.next;
      updated = d.updated;
    }

-- ---- boxes that judge as ours does, and count otherwise

-- the count after a judged Response, by whether the account was locked and the Response valid; ours
-- is `failures_after`
abbrev pub CountRule : Type 0
CountRule = Bool → Bool → ℕ → ℕ

abbrev pub counted_by : CountRule → Conversation → StepInput → Lookup
counted_by rule c s =
    let a = s.account.account in
    lookup_of s.account.found
    (with_failures
    (rule (is_locked c.terms a) (valid_in c a (read_response s.packet)) a.failures) a)

abbrev pub counts_by : CountRule → Judge
counts_by rule c s =
    let d = judge c s.packet s.account in
    record {
      reply = d.reply;
      fault = d.fault;
      next = d.next;
      updated = cond (eqb (octet 0 s.packet) response_code) (counted_by rule c s) d.updated;
    }

-- from the first record every time, whose count is given, whatever record was handed out since
abbrev pub from_first : ℕ → CountRule
from_first first locked v n = cond v (cond locked n 0) (suc first)

-- wraps: 255 and one more is 0
abbrev pub wrapping : CountRule
wrapping locked v n = cond v (cond locked n 0) (suc n % 256)

-- the right password clears the count at the limit too, so that the next guess shows that it was
abbrev pub clearing : CountRule
clearing locked v n = cond v 0 (one_more n)

-- not at all: the record is handed out as it was passed
abbrev pub not_counting : CountRule
not_counting locked v n = n

-- ---- boxes that count as ours does, and lock otherwise

abbrev pub with_limit : ℕ → Conversation → Conversation
with_limit limit c =
    record {
      terms = record { lm = c.terms.lm; limit = limit; change = c.terms.change };
      id = c.id;
      challenge = c.challenge;
      retries = c.retries;
      phase = c.phase;
      kept = c.kept;
      last = c.last;
    }

-- by another limit than the opening's, which it keeps: one more is locked over the limit only, and
-- 256 is never locked
abbrev pub limited_to : (ℕ → ℕ) → Judge
limited_to other c s =
    let d = judge (with_limit (other c.terms.limit) c) s.packet s.account in
    record {
      reply = d.reply;
      fault = d.fault;
      next = with_limit c.terms.limit d.next;
      updated = d.updated;
    }

-- ---- boxes that take other round keys (request 2026-10)

abbrev pub is_response : Conversation → StepInput → Bool
is_response c s = eqb (octet 0 s.packet) response_code

-- a judgement that hands out another record
abbrev pub handing_out : Lookup → Judgement → Judgement
handing_out l d = record { reply = d.reply; fault = d.fault; next = d.next; updated = l }

-- a record with the round keys of its own hashes, made anew, and with those of another record
abbrev pub repaired : Lookup → Lookup
repaired l = lookup_of l.found (account_of (entry_of l.account))

abbrev pub carried_on : Lookup → Lookup → Lookup
carried_on from l =
    lookup_of l.found
    (with_schedules (entry_of l.account) from.account.nt_keys from.account.lm_keys)

-- judges a Response by the hashes, whatever round keys the record carries, and hands it out with
-- those
abbrev pub judges_by_hash : Judge
judges_by_hash c s =
    let d = judge c s.packet (repaired s.account) in
    handing_out (cond (is_response c s) (carried_on s.account d.updated) d.updated) d

-- replies by the hashes, and counts by the round keys
abbrev pub replies_by_hash : Judge
replies_by_hash c s =
    handing_out (judge c s.packet s.account).updated
    (judge c s.packet (repaired s.account))

-- judges by the round keys that the record carries, and hands it out after a Response with those of
-- its hashes
abbrev pub repairs_schedules : Judge
repairs_schedules c s =
    let d = judge c s.packet s.account in
    handing_out (cond (is_response c s) (repaired d.updated) d.updated) d

-- the change puts the new hash in and leaves the round keys of the record that is passed with it
abbrev pub keeps_schedules : Judge
keeps_schedules c s =
    let d = judge c s.packet s.account in
    handing_out (cond (is_change c s) (carried_on s.account d.updated) d.updated) d

-- ---- boxes that judge as ours does, but say nothing to some of what they should judge

-- whatever number they give
abbrev pub silent_to : (Conversation → StepInput → Bool) → ℕ → Box
silent_to some n c s = cond (some c s) (refusing n c s) (step_on c s)

-- to a right guess at a locked account, or to a wrong one with no retries left, which is then not
-- counted
abbrev pub is_right : Conversation → StepInput → Bool
is_right c s = valid_in c s.account.account (read_response s.packet)

abbrev pub right_where_locked : Conversation → StepInput → Bool
right_where_locked c s = is_locked c.terms s.account.account && is_right c s

abbrev pub wrong_at_last : Conversation → StepInput → Bool
wrong_at_last c s = eqb c.retries 0 && not (is_right c s)

-- ---- boxes that judge as ours does, and answer otherwise what ours refuses

abbrev pub answering_refused : Box → Box
answering_refused f c s = cond (eqb (refusal_at step_on c s) 0) (step_on c s) (f c s)

-- says that it refuses, and lays the reply that the packet would have earned into the buffer: with
-- it a password can be guessed without end
abbrev pub lays_reply : Box
lays_reply c s =
    record {
      answer = (refused_as (refusal_at step_on c s) c s.buffer).answer;
      buffer = written_over
          (reply_packet c.terms c.id (judge c s.packet s.account).reply) s.buffer;
    }

-- hands out the record that was passed
abbrev pub hands_out_record : Box
hands_out_record c s =
    record {
      answer = record {
        kind = Refused (refusal_at step_on c s);
        fault = None;
        next = c;
        written = 0;
        updated = s.account;
      };
      buffer = s.buffer;
    }

-- a conversation in which LM is allowed or not
abbrev pub with_lm : Bool → Conversation → Conversation
with_lm allowed c =
    record {
      terms = record { lm = allowed; limit = c.terms.limit; change = c.terms.change };
      id = c.id;
      challenge = c.challenge;
      retries = c.retries;
      phase = c.phase;
      kept = c.kept;
      last = c.last;
    }

-- changes the conversation: from then on LM is allowed
abbrev pub allows_lm : Box
allows_lm c s = refused_as (refusal_at step_on c s) (with_lm true c) s.buffer

-- ends the conversation without a reply, and calls the packet judged
abbrev pub ends_unseen : Box
ends_unseen c s =
    record {
      answer = record {
        kind = Judged 0;
        fault = None;
        next = ended c;
        written = 0;
        updated = not_found;
      };
      buffer = s.buffer;
    }

-- judges it after all, under the identifier that the packet has
abbrev pub judges_strays : Box
judges_strays c s = step_on (with_id (octet 1 s.packet) c) s

-- ---- boxes that refuse and judge as ours does, and answer otherwise what ours repeats

-- an outcome with another kind, or with another record handed out
abbrev pub with_kind : Kind → Outcome → Outcome
with_kind k o =
    record {
      answer = record {
        kind = k;
        fault = o.answer.fault;
        next = o.answer.next;
        written = o.answer.written;
        updated = o.answer.updated;
      };
      buffer = o.buffer;
    }

abbrev pub with_updated : Lookup → Outcome → Outcome
with_updated l o =
    record {
      answer = record {
        kind = o.answer.kind;
        fault = o.answer.fault;
        next = o.answer.next;
        written = o.answer.written;
        updated = l;
      };
      buffer = o.buffer;
    }

abbrev pub answering_repeats : (Conversation → StepInput → Bool) → Box → Box
answering_repeats when f c s = cond (repeats_here c s && when c s) (f c s) (step_on c s)

-- answers nothing more after the end, or repeats nothing before it: the packet is refused, with one
-- number or another
abbrev pub after_end : Conversation → StepInput → Bool
after_end c s = is_ended c.phase

abbrev pub silent_after_end : ℕ → Box
silent_after_end n = answering_repeats after_end (refusing n)

abbrev pub before_end : Conversation → StepInput → Bool
before_end c s = not (is_ended c.phase)

abbrev pub silent_between_tries : ℕ → Box
silent_between_tries n = answering_repeats before_end (refusing n)

-- judges it anew: under the old identifier a wrong guess draws the same reply as before and leaves
-- the conversation, and a right one draws Success, by whatever name; by the challenge in force or,
-- as `past` gives it from that, by another one, as that of the packet that it repeats
abbrev pub guesses_right : (List ℕ → List ℕ) → Conversation → StepInput → Bool
guesses_right past c s =
    found_valid c.terms (past c.challenge) s.account (read_response s.packet)

abbrev pub accepts_guess : Kind → Box
accepts_guess k c s = with_kind k
    (judged_as (with_id (octet 1 s.packet) c) (judgement_for c not_found no_reason)
    s.buffer)

abbrev pub judges_repeats : (List ℕ → List ℕ) → Kind → Box
judges_repeats past k = answering_repeats (guesses_right past) (accepts_guess k)

-- hands out, with a repeated change, the record that is passed with it, by whatever name (the kept
-- record is dropped at the end)
abbrev pub hands_out : Kind → Box
hands_out k c s = with_kind k (with_updated s.account (step_on c s))

abbrev pub hands_out_again : Kind → Box
hands_out_again k = answering_repeats is_change (hands_out k)

-- ---- boxes that take for a repeat, or call a repeat, what is none

-- compares the identifier alone: behind 2 and 3, a packet of any code under the old identifier
-- draws the last reply
abbrev pub same_identifier : Conversation → StepInput → Bool
same_identifier c s = c.last.present && eqb (octet 1 s.packet) c.last.id

abbrev pub compares_identifier : Box
compares_identifier c s =
    cond (same_identifier c s && eqb (refusal_for true c s.packet s.buffer) 0)
    (repeated_as c s.buffer) (step_on c s)

-- calls every judgement a repeat
abbrev pub called_repeated : Kind → Kind
called_repeated (Refused n) = Refused n
called_repeated (Repeated e) = Repeated e
called_repeated (Judged e) = Repeated e

abbrev pub calls_repeats : Box → Box
calls_repeats box c s = with_kind (called_repeated (box c s).answer.kind) (box c s)

-- our box: what the promise of the authenticator's `step` says
abbrev pub our_box : Box
our_box = step_on

-- ---- boxes that get the version 1 change wrong

-- a conversation that was opened for a version's change
abbrev pub with_change : ChangeVersion → Conversation → Conversation
with_change v c =
    record {
      terms = record { lm = c.terms.lm; limit = c.terms.limit; change = v };
      id = c.id;
      challenge = c.challenge;
      retries = c.retries;
      phase = c.phase;
      kept = c.kept;
      last = c.last;
    }

-- takes every conversation for one of that version, whatever it was opened for: it writes that V
-- and awaits that code. The terms are given back as they were.
abbrev pub forgets_change : ChangeVersion → Box
forgets_change v c s =
    let o = step_on (with_change v c) s in
    record {
      answer = record {
        kind = o.answer.kind;
        fault = o.answer.fault;
        next = with_change c.terms.change o.answer.next;
        written = o.answer.written;
        updated = o.answer.updated;
      };
      buffer = o.buffer;
    }

-- turns every version 1 change away, as one does that keys the second half of a hash by other
-- octets, asks for an LM hash too, or for a length of at most 14
abbrev pub turns_one_away : Judge
turns_one_away c s =
    cond (eqb (octet 0 s.packet) change_one_code)
    (record {
      reply = Failure changing_password false;
      fault = (Some HashWrong);
      next = ended c;
      updated = not_found;
    })
    (judge c s.packet s.account)
