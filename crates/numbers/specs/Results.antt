-- What a step and a reply say, as C gets it.
-- Assumes nothing: these are definitions.
use Rattle.std.specs.Prelude.{cond, ℕ, Result, Ok, Err}
use Rattle.refusals.specs.declared.Refusal.{Refusal}
use Rattle.message.specs.declared.Call.{Call}
use Rattle.message.specs.declared.Call.TheVariants.{Retry, ChangeTwo, ChangeOne, End}
use Rattle.message.specs.declared.Verdict.{Verdict}
use Rattle.message.specs.declared.Verdict.TheVariants.{Success, Failure}
use Rattle.accounts.specs.declared.EntryLookup.{EntryLookup}
use Rattle.authenticator.specs.Step.{reason_in, is_repeated}
use Rattle.authenticator.specs.Step.{Stepped}
use Rattle.layouts.specs.declared.StepResult.{StepResult}

-- ---- a step

-- what C keeps of an answer, but for the round keys of its record
abbrev pub result_of : Stepped → StepResult
result_of a =
    record {
      repeated = is_repeated a.kind;
      reason = reason_in a.kind;
      fault = a.fault;
      updated = a.updated;
    }

-- 102: there is no record to be stored
abbrev pub no_record_refusal : EntryLookup → ℕ
no_record_refusal l = cond l.found 0 102

-- ---- a reply

-- what a Failure calls for
abbrev pub call_number : Call → ℕ
call_number Retry = 1
call_number ChangeTwo = 2
call_number ChangeOne = 3
call_number End = 4

-- what a reply calls for: 0 is nothing, with Success
abbrev pub call_in : Verdict → ℕ
call_in Success = 0
call_in (Failure f) = call_number f.call

-- E, the reason; 0 with Success
abbrev pub failure_reason : Verdict → ℕ
failure_reason Success = 0
failure_reason (Failure f) = f.e

-- One of the two of what was read. (A refusal is told by its number: none of this is written.)
abbrev pub number_in : (Verdict → ℕ) → Result Verdict Refusal → ℕ
number_in f (Ok v) = f v
number_in f (Err r) = 0
