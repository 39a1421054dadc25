-- Stop guessing across conversations (document 02, request 2026-09): "Hanging up and calling back
-- gives a guesser fresh retries." A run of any number of conversations on one account, one after
-- the other or at the same time, on any number of lines: the record last handed out is passed with
-- each packet that names the account. What follows is said of any box, and goes by packets, replies
-- and records alone, so that it can be shown which boxes the claim shuts out.
-- Assumes nothing: these are definitions.
use Rattle.std.specs.Prelude.{Bool, true, false, cond, ◌&&◌, List, ◌++◌, ◌⊎◌, ◌≡◌, ℕ, ◌≤◌, eqb}
use Rattle.message.specs.Reasons.{changing_password}
use Rattle.message.specs.Message.{text_of}
use Rattle.packets.specs.Codes.{response_code}
use Rattle.packets.specs.Frame.{octet}
use Rattle.packets.specs.Reply.{failure_packet}
use Rattle.accounts.specs.declared.Account.{Account}
use Rattle.authenticator.specs.Conversation.{closed}
use Rattle.verify.specs.declared.ChangeVersion.{ChangeVersion}
use Rattle.verify.specs.declared.ChangeVersion.TheVariants.{One, Two}
use Rattle.authenticator.specs.Encode.{version}
use Rattle.authenticator.specs.Opening.{Opening, opened}
use Rattle.authenticator.specs.Step.{Outcome, without_record}
use Rattle.authenticator.specs.Steps.{StepInput, Box, reply_of, BoxState, unanswered}
use Rattle.authenticator.specs.Steps.{is_judged, next_state}
use Rattle.verify.specs.Lockout.{most_failures}
use Rattle.series.specs.Course.{end, Along, total}
use Rattle.series.specs.Series.{Passed, own, another, passed_with, stored_after}
use Rattle.series.specs.LmOptIn.{with_no_record, IsAuthenticationFailure}

-- ---- a run

-- A packet on a line, and what is passed with it: "own" is the record of the account, under its
-- name; another name has another record, or none.
pub record LinePacket : Type 0 where
  pub line : ℕ
  pub packet : List ℕ
  pub account : Passed
  pub buffer : List ℕ

-- a conversation is opened on a line, whatever was there before (the guesser hung up); a packet
-- comes; or the keeper of the accounts stores a record of the account, unlocked, with another
-- password or as the account file has it by now
pub data Event : Type 0 where
  opens : (line : ℕ) → Opening → Event
  sends : LinePacket → Event
  stores : Account → Event

-- what is on each line, as it is seen from outside, and the account's record
pub record RunState : Type 0 where
  pub lines : ℕ → BoxState
  pub account : Account

-- before the first call
abbrev pub first_state : Account → RunState
first_state a = record { lines = λ i. unanswered closed; account = a }

abbrev pub on_line : ℕ → BoxState → (ℕ → BoxState) → ℕ → BoxState
on_line i b lines j = cond (eqb j i) b (lines j)

-- what reaches the box
abbrev pub input_of : RunState → LinePacket → StepInput
input_of p s = record {
  packet = s.packet;
  account = passed_with p.account s.account;
  buffer = s.buffer;
}

abbrev pub is_own : Passed → Bool
is_own own = true
is_own (another l) = false

-- a Failure with 691, or a change's with 709, of a box that was opened for a version's change
abbrev pub TurnsAway : ChangeVersion → ℕ → List ℕ → Type 0
TurnsAway v id reply =
    IsAuthenticationFailure v id reply
    ⊎ (reply ≡ failure_packet id (text_of changing_password 0 (version v)))

-- whatever it was opened for
abbrev pub IsTurnedAway : ℕ → List ℕ → Type 0
IsTurnedAway id reply = TurnsAway One id reply ⊎ TurnsAway Two id reply

abbrev pub IsFailure691 : ℕ → List ℕ → Type 0
IsFailure691 id reply = IsAuthenticationFailure One id reply ⊎ IsAuthenticationFailure Two id reply

module _ (box : Box) where
  abbrev pub outcome_of : RunState → LinePacket → Outcome
  outcome_of p s = box (p.lines s.line).conversation (input_of p s)

  abbrev pub run_next : RunState → Event → RunState
  run_next p (opens i o) = record {
    lines = on_line i (unanswered (opened o).conversation) p.lines;
    account = p.account;
  }
  run_next p (sends s) = record {
    lines = on_line s.line (next_state box (p.lines s.line) (input_of p s)) p.lines;
    account = stored_after p.account s.account (outcome_of p s);
  }
  run_next p (stores a) = record { lines = p.lines; account = a }

  abbrev pub is_judged_in : RunState → LinePacket → Bool
  is_judged_in p s = is_judged box (p.lines s.line) (input_of p s)

  -- a guess: a Response under the account's name that is judged, by what is seen
  abbrev pub is_guess : RunState → LinePacket → Bool
  is_guess p s = is_judged_in p s && (eqb (octet 0 s.packet) response_code && is_own s.account)

  abbrev pub guesses : RunState → Event → ℕ
  guesses p (opens i o) = 0
  guesses p (sends s) = cond (is_guess p s) 1 0
  guesses p (stores a) = 0

  -- ---- the premises

  -- every opening has one limit, and any other values
  abbrev pub OfLimit : ℕ → RunState → Event → Type 0
  OfLimit limit p (opens i o) = o.limit ≡ limit
  OfLimit limit p (sends s) = Unit {0}
  OfLimit limit p (stores a) = Unit {0}

  -- Nobody resets the count: whatever is judged under the account's name is turned away, and the
  -- keeper of the accounts stores no record with a lower one.
  abbrev pub NotReset : RunState → Event → Type 0
  NotReset p (opens i o) = Unit {0}
  NotReset p (sends s) = is_own s.account ≡ true → is_judged_in p s ≡ true
      → IsTurnedAway (octet 1 s.packet) (reply_of (outcome_of p s))
  NotReset p (stores a) = p.account.failures ≤ a.failures

  -- ---- the claim

  -- a guess draws 691, and all but the record that is handed out is as with no record
  abbrev pub LockedOut : RunState → LinePacket → Type 0
  LockedOut p s =
      IsFailure691 (octet 1 s.packet) (reply_of (outcome_of p s))
      × (without_record (outcome_of p s)
      ≡ without_record (box (p.lines s.line).conversation (with_no_record (input_of p s))))

  -- However often the guesser hangs up and calls back: once `limit` guesses were turned away since
  -- the last reset, each further one draws 691, whatever it says, until somebody resets the count;
  -- and reply and next conversation are those of no record at all, so that nothing that is sent
  -- tells a right guess from a wrong one. So between two resets at most `limit` Responses are
  -- judged by the password at all. (A box that refuses what it should judge, or that turns a wrong
  -- guess away with another reason, gets out of this: demand 3 shuts it out.) It holds of our box
  -- (proofs/Guesses), and of none of the wrong ones in proofs/WrongGuesses.
  abbrev pub GuessLimit : Type 0
  GuessLimit =
      (limit : ℕ) → limit ≤ most_failures → (a : Account) (before since : List Event)
      → Along run_next (OfLimit limit) (first_state a) (before ++ since)
      → Along run_next NotReset (end run_next (first_state a) before) since
      → limit ≤ total run_next guesses (end run_next (first_state a) before) since
      → (s : LinePacket) → is_guess (end run_next (first_state a) (before ++ since)) s ≡ true
      → LockedOut (end run_next (first_state a) (before ++ since)) s
