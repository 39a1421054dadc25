-- LM off unless asked for (document 02, request 2026-06): "An opening that is silent about LM now
-- disallows it. The two benches with old phones .. must ask for it." What follows is said of any
-- opener, so that it can be shown which ones the claim shuts out.
-- Assumes nothing: these are definitions.
use Rattle.std.specs.Prelude.{Some}
use Rattle.std.specs.Prelude.{Bool, true, false, cond, not, ◌&&◌, List, ◌≢◌, ◌⊎◌, ◌≡◌, ℕ, ◌<◌, eqb}
use Rattle.credentials.specs.Credentials.{response_of}
use Rattle.message.specs.Reasons.{authentication_failure, password_expired}
use Rattle.message.specs.Message.{text_of}
use Rattle.packets.specs.Codes.{response_code}
use Rattle.packets.specs.Frame.{octet}
use Rattle.packets.specs.Response.{read_response}
use Rattle.packets.specs.Reply.{success_packet, failure_packet}
use Rattle.accounts.specs.Account.{not_found, found, LogonPermitted, Agree}
use Rattle.accounts.specs.declared.Account.{Account}
use Rattle.authenticator.specs.Admit.{refusal_for}
use Rattle.verify.specs.declared.ChangeVersion.{ChangeVersion}
use Rattle.authenticator.specs.Encode.{version}
use Rattle.authenticator.specs.Opening.{Opening, change_of, first_conversation}
use Rattle.authenticator.specs.Step.{without_record}
use Rattle.authenticator.specs.Steps.{StepInput, reply_of, BoxState, unanswered}
use Rattle.authenticator.specs.Steps.{is_judged, next_state}
use Rattle.series.specs.Course.{end}
use Rattle.series.specs.Boxes.{our_box}
use Rattle.series.specs.Openers.{Opener}
use Rattle.series.specs.OneList.{Openable, Opens}

-- A Response by LM. Document 01, "How the box judges": the NT responses count with "flag 1 and an
-- NT hash"; with "flag 1 and no NT hash, or flag 0" LM does.
abbrev pub is_by_lm : StepInput → Bool
is_by_lm s = not (eqb (read_response s.packet).flag 1 && s.account.account.nt.present)

-- the same packet, and no record of the account
abbrev pub with_no_record : StepInput → StepInput
with_no_record s = record { packet = s.packet; account = not_found; buffer = s.buffer }

-- a Failure with 691, with a retry or without, of a box that was opened for a version's change
abbrev pub IsAuthenticationFailure : ChangeVersion → ℕ → List ℕ → Type 0
IsAuthenticationFailure v id reply =
    (reply ≡ failure_packet id (text_of authentication_failure 1 (version v)))
    ⊎ (reply ≡ failure_packet id (text_of authentication_failure 0 (version v)))

-- The first Response of a peer that knows its LM hash alone (an "old phone"): it is by LM, the
-- record has that hash, its round keys agree, it is permitted to log on and is not locked, and the
-- LM response is the hash's to the challenge of the opening. What is passed meets none of 2 to 7.
pub record LmPeer (o : Opening) (a : Account) (s : StepInput) : Type 0 where
  pub account : s.account ≡ found a
  pub hash : a.lm.present ≡ true
  pub agree : Agree a
  pub permitted : LogonPermitted a
  pub unlocked : a.failures < o.limit
  pub by_lm : is_by_lm s ≡ true
  pub response : (read_response s.packet).lm ≡ response_of a.lm.octets o.challenge
  pub admitted : refusal_for false (first_conversation o) s.packet s.buffer ≡ 0

module _ (opener : Opener) where
  -- where an opening and any steps after it lead, as it is seen from outside
  abbrev pub place_after : Opening → List StepInput → BoxState
  place_after o ss = end (next_state our_box) (unanswered (opener.answer o).conversation) ss

  -- Where the opening did not ask for LM, silent or not: at any place, a Response by LM that is
  -- judged, by what is seen, draws 691. Nor does it find out a flag of the record: all is as if
  -- there were no record of the account, octet for octet, the next conversation too, but for the
  -- record that is handed out with its count.
  abbrev pub OffByDefault : Type 0
  OffByDefault =
      (o : Opening) → o.lm ≢ Some true → (ss : List StepInput) (s : StepInput)
      → octet 0 s.packet ≡ response_code → is_by_lm s ≡ true
      → is_judged our_box (place_after o ss) s ≡ true
      → IsAuthenticationFailure (change_of o.change) (octet 1 s.packet)
      (reply_of (our_box (place_after o ss).conversation s))
      × (without_record (our_box (place_after o ss).conversation s)
      ≡ without_record (our_box (place_after o ss).conversation (with_no_record s)))

  -- Where it did, such a peer gets in, or is asked for a new password. Without this an opener that
  -- never allows LM would meet the rest.
  abbrev pub OnIfAllowed : Type 0
  OnIfAllowed =
      (o : Opening) → o.lm ≡ Some true → Openable o → (a : Account) (s : StepInput) → LmPeer o a s
      → reply_of (our_box (opener.answer o).conversation s)
      ≡ cond a.expired
      (failure_packet o.id (text_of password_expired 0 (version (change_of o.change))))
      (success_packet o.id)

  -- Whatever is said of LM, an opening that needs nothing more hands out a conversation that goes
  -- on. Without this an opener that refuses to open where nothing is said would meet the rest.
  abbrev pub OpensEitherWay : Type 0
  OpensEitherWay = (o : Opening) → Openable o → Opens opener o

  -- the whole claim about LM
  pub record LmOptIn : Type 0 where
    pub off : OffByDefault
    pub on : OnIfAllowed
    pub opens : OpensEitherWay
