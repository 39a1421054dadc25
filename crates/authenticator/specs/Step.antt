-- One step of a conversation: a packet, a record or none, and a reply buffer are passed to it. The
-- packet is refused, a repeat, or awaited (specs/Admit), an awaited one is judged (specs/Judge),
-- and the reply is encoded (specs/Encode).
-- Assumes nothing: these are definitions.
use Rattle.std.specs.Prelude.{Option, None, Result, Ok, Err}
use Rattle.std.specs.Prelude.{Bool, true, false, cond, ◌&&◌, List, ℕ, eqb, length}
use Rattle.accounts.specs.Account.{not_found, lookup_of, with_schedules, account_of}
use Rattle.accounts.specs.Account.{entry_lookup_of}
use Rattle.accounts.specs.declared.Account.{Account}
use Rattle.accounts.specs.declared.EntryLookup.{EntryLookup}
use Rattle.accounts.specs.declared.Lookup.{Lookup}
use Rattle.packets.specs.Frame.{written_over}
use Rattle.packets.specs.Change.{read_change}
use Rattle.packets.specs.ChangeOne.{read_change_one}
use Rattle.verify.specs.Faults.{fault_number}
use Rattle.verify.specs.Change.{change_fault}
use Rattle.verify.specs.ChangeOne.{change_one_fault}
use Rattle.verify.specs.declared.ChangeFault.{ChangeFault}
use Rattle.verify.specs.declared.ChangeVersion.{ChangeVersion}
use Rattle.verify.specs.declared.ChangeVersion.TheVariants.{One, Two}
use Rattle.authenticator.specs.Conversation.{awaits_response, answer_with, with_last}
use Rattle.authenticator.specs.Admit.{is_repeat, step_refusal}
use Rattle.authenticator.specs.Judge.{Judgement, reason_of, judge}
use Rattle.authenticator.specs.Encode.{reply_packet}
use Rattle.refusals.specs.Refusal.{number}
use Rattle.refusals.specs.declared.Refusal.{Refusal}
use Rattle.authenticator.specs.declared.Conversation.{Conversation}
use Rattle.authenticator.specs.declared.Drawn.{Drawn}
use Rattle.authenticator.specs.declared.Drawn.TheVariants as drawn
use Rattle.authenticator.specs.declared.Step.{Step}
use Rattle.authenticator.specs.declared.EntryStep.{EntryStep}
use Rattle.authenticator.specs.declared.Phase.{Phase}
use Rattle.authenticator.specs.declared.Phase.TheVariants.{Response, Change, Ended}

-- A step's packet is refused with a number; or it repeats the packet last answered and draws the
-- same reply, whose reason is here; or it is judged with a reason (0 is Success).
pub data Kind : Type 0 where
  Refused : ℕ → Kind
  Repeated : ℕ → Kind
  Judged : ℕ → Kind

-- What a step answers: the kind, beside a change that was judged and not accepted what is wrong
-- with it, the next conversation, how many octets of the reply buffer the reply takes, and the
-- record that is handed out; and the same without the round keys of the record.
pub record Answer : Type 0 where
  pub kind : Kind
  pub fault : Option ChangeFault
  pub next : Conversation
  pub written : ℕ
  pub updated : Lookup

pub record Stepped : Type 0 where
  pub kind : Kind
  pub fault : Option ChangeFault
  pub next : Conversation
  pub written : ℕ
  pub updated : EntryLookup

-- document 01's refusal number of an answer (0 is none); the reason that its reply gives (0 is
-- Success, and none beside a refusal); and whether the reply is the last one again
abbrev pub refusal_in : Kind → ℕ
refusal_in (Refused n) = n
refusal_in (Repeated e) = 0
refusal_in (Judged e) = 0

abbrev pub reason_in : Kind → ℕ
reason_in (Refused n) = 0
reason_in (Repeated e) = e
reason_in (Judged e) = e

abbrev pub is_repeated : Kind → Bool
is_repeated (Refused n) = false
is_repeated (Repeated e) = true
is_repeated (Judged e) = false

-- the answer, and the reply buffer afterwards
pub record Outcome : Type 0 where
  pub answer : Answer
  pub buffer : List ℕ

-- An outcome but for the record that it hands out: "The sentence in 01 about equal replies stands
-- for reply and conversation" (document 02, request 2026-09).
abbrev pub without_record : Outcome → Outcome
without_record o =
    record {
      answer = record {
        kind = o.answer.kind;
        fault = o.answer.fault;
        next = o.answer.next;
        written = o.answer.written;
        updated = not_found;
      };
      buffer = o.buffer;
    }

-- "Every reply carries the answered identifier": the one that the conversation awaited. The next
-- conversation keeps the answer.
abbrev pub judged_as : Conversation → Judgement → List ℕ → Outcome
judged_as c j b =
    let reply = reply_packet c.terms c.id j.reply in
    record {
      answer = record {
        kind = Judged (reason_of j.reply);
        fault = j.fault;
        next = with_last (answer_with c j.reply) j.next;
        written = length reply;
        updated = j.updated;
      };
      buffer = written_over reply b;
    }

-- where nothing is judged, the conversation stays as it was, and neither a fault nor a record is
-- handed out
abbrev pub unjudged : Kind → Conversation → ℕ → Answer
unjudged kind c written =
    record { kind = kind; fault = None; next = c; written = written; updated = not_found }

-- "draws the same reply octets and is not judged; the conversation stays as it was, and no record
-- is handed out", and "a repeat carries no reason" for a 709 (document 02, request 2026-04)
abbrev pub repeated_as : Conversation → List ℕ → Outcome
repeated_as c b =
    let reply = reply_packet c.terms c.last.id c.last.reply in
    record {
      answer = unjudged (Repeated (reason_of c.last.reply)) c (length reply);
      buffer = written_over reply b;
    }

-- a refusal leaves the conversation and the buffer as they were
abbrev pub refused_as : ℕ → Conversation → List ℕ → Outcome
refused_as n c b =
    record {
      answer = unjudged (Refused n) c 0;
      buffer = b;
    }

-- the reason of the reply to a packet that is not refused: the last one's again, or the judgement's
unfoldable pub step_reason : Conversation → List ℕ → Lookup → List ℕ → ℕ
step_reason c p l b =
    cond (eqb (step_refusal c p b) 0)
    (cond (is_repeat c.last p) (reason_of c.last.reply) (reason_of (judge c p l).reply))
    0

-- a repeat that is not refused
abbrev pub step_repeats : Conversation → List ℕ → List ℕ → Bool
step_repeats c p b = eqb (step_refusal c p b) 0 && is_repeat c.last p

-- what is wrong with a change that is judged, by its number; 0 is none, and beside every other
-- answer
abbrev pub fault_for : ChangeVersion → Conversation → List ℕ → Option ChangeFault
fault_for One c p = change_one_fault c.terms c.kept c.challenge (read_change_one p)
fault_for Two c p = change_fault c.kept c.challenge (read_change p)

abbrev pub fault_in : Phase → Conversation → List ℕ → ℕ
fault_in Response c p = 0
fault_in Change c p = fault_number (fault_for c.terms.change c p)
fault_in Ended c p = 0

unfoldable pub step_fault : Conversation → List ℕ → List ℕ → ℕ
step_fault c p b =
    cond (eqb (step_refusal c p b) 0)
    (cond (is_repeat c.last p) 0 (fault_in c.phase c p))
    0

unfoldable pub step : Conversation → List ℕ → Lookup → List ℕ → Outcome
step c p l b =
    cond (eqb (step_refusal c p b) 0)
    (cond (is_repeat c.last p) (repeated_as c b) (judged_as c (judge c p l) b))
    (refused_as (step_refusal c p b) c b)

-- ---- the record that is handed out, with its round keys and without

abbrev pub stepped_of : Answer → Stepped
stepped_of a =
    record {
      kind = a.kind;
      fault = a.fault;
      next = a.next;
      written = a.written;
      updated = entry_lookup_of a.updated;
    }

-- the record is the one that was passed, but for its count: a Response was judged
abbrev pub hands_back : Phase → Kind → Bool
hands_back ph (Refused n) = false
hands_back ph (Repeated e) = false
hands_back ph (Judged e) = awaits_response ph

-- "where its hash stays, handed out with them"; else with those of its own hashes. That a step's
-- record is this is proved (proofs/Carried).
abbrev pub handed_out : Bool → Account → EntryLookup → Lookup
handed_out back passed u =
    lookup_of u.found
    (cond back (with_schedules u.entry passed.nt_keys passed.lm_keys)
    (account_of u.entry))

-- ---- what the code answers

-- what a packet draws that is not refused
abbrev pub kind_of : Drawn → Kind
kind_of (drawn.Repeated e) = Repeated e
kind_of (drawn.Judged e) = Judged e

-- the answer of a step from c: where it refuses, all stays as it was
abbrev pub answer_as : Conversation → Result Step Refusal → Answer
answer_as c (Ok s) =
    record {
      kind = kind_of s.drawn;
      fault = s.fault;
      next = s.next;
      written = s.written;
      updated = s.updated;
    }
answer_as c (Err r) = unjudged (Refused (number r)) c 0

abbrev pub taken_as : EntryStep → Stepped
taken_as s =
    record {
      kind = kind_of s.drawn;
      fault = s.fault;
      next = s.next;
      written = s.written;
      updated = s.updated;
    }

abbrev pub stepped_as : Conversation → Result EntryStep Refusal → Stepped
stepped_as c (Ok s) = taken_as s
stepped_as c (Err r) = stepped_of (unjudged (Refused (number r)) c 0)
