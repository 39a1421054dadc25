-- The second part of a step: how an awaited packet is judged (document 01, "How the box judges").
-- Whether a Response is judged valid and a change accepted, what is wrong with one that is not, and
-- how a Response is counted, is defined in `verify`; here is what follows: the reply, the next
-- conversation and the updated record.
-- Assumes nothing: these are definitions.
use Rattle.std.specs.Prelude.{Option, None}
use Rattle.std.specs.Prelude.{Bool, false, cond, ◌&&◌, List, ℕ, eqb, ltb}
use Rattle.accounts.specs.Account.{not_found, found, changed, entry_of, entry_lookup_of}
use Rattle.accounts.specs.declared.Account.{Account}
use Rattle.accounts.specs.declared.Entry.{Entry}
use Rattle.accounts.specs.declared.Lookup.{Lookup}
use Rattle.message.specs.Reasons.{
  authentication_failure,
  password_expired,
  changing_password,
  no_reason,
}
use Rattle.packets.specs.Response.{read_response}
use Rattle.packets.specs.Change.{read_change}
use Rattle.packets.specs.ChangeOne.{read_change_one}
use Rattle.packets.specs.declared.Response as responses
use Rattle.packets.specs.declared.Change as changes
use Rattle.verify.specs.Response.{valid, response_reason, counted_lookup}
use Rattle.verify.specs.Faults.{is_faultless}
use Rattle.verify.specs.Change.{checked_change, new_hash}
use Rattle.verify.specs.ChangeOne.{checked_change_one}
use Rattle.verify.specs.declared.ChangeVersion.{ChangeVersion}
use Rattle.verify.specs.declared.ChangeVersion.TheVariants.{One, Two}
use Rattle.verify.specs.declared.ChangeFault.{ChangeFault}
use Rattle.verify.specs.Change.{CheckedChange}
use Rattle.authenticator.specs.Conversation.{ended, retried, awaiting_change}
use Rattle.authenticator.specs.declared.Conversation.{Conversation}
use Rattle.authenticator.specs.declared.Phase.{Phase}
use Rattle.authenticator.specs.declared.Phase.TheVariants.{Response, Change, Ended}
use Rattle.authenticator.specs.declared.Reply.{Reply}
use Rattle.authenticator.specs.declared.Reply.TheVariants.{Success, Failure}
use Rattle.authenticator.specs.declared.Verdict.{Verdict}

-- how a packet is judged: the reply, what is wrong with a change, the next conversation, and the
-- record that is handed out
pub record Judgement : Type 0 where
  pub reply : Reply
  pub fault : Option ChangeFault
  pub next : Conversation
  pub updated : Lookup

-- the same without the round keys of the record
abbrev pub verdict_of : Judgement → Verdict
verdict_of j =
    record {
      reply = j.reply;
      fault = j.fault;
      next = j.next;
      updated = entry_lookup_of j.updated;
    }

-- the reason that a reply gives; 0 is Success
abbrev pub reason_of : Reply → ℕ
reason_of Success = no_reason
reason_of (Failure e retry) = e

-- ---- a Response

-- valid by the conversation's terms and challenge
abbrev pub valid_in : Conversation → Account → responses.Response → Bool
valid_in c a f = valid c.terms c.challenge a f

-- R: an authentication failure with retries left may be retried
abbrev pub may_retry : Conversation → ℕ → Bool
may_retry c e = eqb e authentication_failure && ltb 0 c.retries

abbrev pub reply_for : Conversation → ℕ → Reply
reply_for c e = cond (eqb e no_reason) Success (Failure e (may_retry c e))

-- a retry keeps the conversation going, an expired password awaits a change, all else ends it
abbrev pub after_reason : Conversation → Entry → ℕ → Conversation
after_reason c kept e =
    cond (may_retry c e) (retried c)
    (cond (eqb e password_expired) (awaiting_change c kept) (ended c))

-- the record that is kept is the one that is handed out, with its count
abbrev pub judgement_for : Conversation → Lookup → ℕ → Judgement
judgement_for c updated e =
    record {
      reply = reply_for c e;
      fault = None;
      next = after_reason c (entry_of updated.account) e;
      updated = updated;
    }

unfoldable pub judge_response : Conversation → Lookup → responses.Response → Judgement
judge_response c l f =
    judgement_for c (counted_lookup c.terms c.challenge l f)
    (response_reason c.terms c.challenge l f)

-- ---- a change

-- Success and the updated record, or a Failure and what is wrong; either ends the conversation
abbrev pub change_judgement : Conversation → CheckedChange → Judgement
change_judgement c v =
    record {
      reply = cond (is_faultless v.fault) Success (Failure changing_password false);
      fault = v.fault;
      next = ended c;
      updated = cond (is_faultless v.fault) (found (changed c.kept v.nt v.lm))
          not_found;
    }

-- the new hash of a version 2 change that is accepted by the record that was kept and the challenge
-- in force
abbrev pub new_hash_in : Conversation → changes.Change → Option (List ℕ)
new_hash_in c f = new_hash c.kept c.challenge f

-- what is found of the change that the terms name
abbrev pub checked_for : ChangeVersion → Conversation → List ℕ → CheckedChange
checked_for One c p = checked_change_one c.terms c.kept c.challenge (read_change_one p)
checked_for Two c p = checked_change c.kept c.challenge (read_change p)

-- the record that was kept decides, whatever record is passed with the change
unfoldable pub judge_change : Conversation → List ℕ → Judgement
judge_change c p = change_judgement c (checked_for c.terms.change c p)

-- ---- by the phase

-- an ended conversation has no packet to judge: what stands there has no effect
abbrev pub judge_in : Phase → Conversation → List ℕ → Lookup → Judgement
judge_in Response c p l = judge_response c l (read_response p)
judge_in Change c p l = judge_change c p
judge_in Ended c p l = record { reply = Success; fault = None; next = c; updated = not_found }

unfoldable pub judge : Conversation → List ℕ → Lookup → Judgement
judge c p l = judge_in c.phase c p l
