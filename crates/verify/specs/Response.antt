-- When a Response is valid, the reason that it draws (document 01, "How the box judges"), and the
-- record that is handed out with it (document 02, request 2026-09).
-- Assumes nothing: these are definitions.
use Rattle.std.specs.Prelude.{Bool, cond, not, ◌&&◌, List, ℕ, eqb}
use Rattle.octets.specs.Parts.{agrees}
use Rattle.credentials.specs.Credentials.{response_of, response_under}
use Rattle.accounts.specs.Account.{lookup_of, with_schedules, with_failures, entry_of}
use Rattle.accounts.specs.Account.{entry_lookup_of}
use Rattle.accounts.specs.declared.Hash.{Hash}
use Rattle.accounts.specs.declared.Schedules.{Schedules}
use Rattle.accounts.specs.declared.Account.{Account}
use Rattle.accounts.specs.declared.Entry.{Entry}
use Rattle.accounts.specs.declared.Lookup.{Lookup}
use Rattle.accounts.specs.declared.EntryLookup.{EntryLookup}
use Rattle.message.specs.Reasons.{
  authentication_failure,
  account_disabled,
  restricted_logon_hours,
  no_dialin_permission,
  password_expired,
  no_reason,
}
use Rattle.packets.specs.declared.Response.{Response}
use Rattle.verify.specs.Lockout.{is_locked, failures_after}
use Rattle.verify.specs.declared.CheckedResponse.{CheckedResponse}
use Rattle.verify.specs.declared.Terms.{Terms}

-- ---- which response counts

-- "Flag 1 and an NT hash": the NT response; else the LM response
abbrev pub uses_nt : ℕ → Hash → Bool
uses_nt flag nt = eqb flag 1 && nt.present

-- ---- valid by the hashes

-- the hash is there, and the response is its response to the challenge
unfoldable pub answers_by_hash : Hash → List ℕ → List ℕ → Bool
answers_by_hash h challenge response =
    h.present && agrees response (response_of h.octets challenge)

-- "Flag 1 and an NT hash: the NT responses agree. Flag 1 and no NT hash, or flag 0: LM is allowed,
-- there is an LM hash, and the LM responses agree. Otherwise invalid."
unfoldable pub valid_by_hash : Terms → List ℕ → Account → Response → Bool
valid_by_hash t challenge a f =
    cond (uses_nt f.flag a.nt)
    (answers_by_hash a.nt challenge f.nt)
    (t.lm && answers_by_hash a.lm challenge f.lm)

-- ---- valid by the round keys that the record carries

-- Document 02, request 2026-10: "A record lent with other schedules is judged by those it carries".
-- Where they agree with the hashes it is the same (proofs/Carried `by_hash`).

-- the hash is there, and the response is that of the round keys beside it
unfoldable pub answers : Hash → Schedules → List ℕ → List ℕ → Bool
answers h s challenge response =
    h.present && agrees response (response_under s.keys challenge)

unfoldable pub valid : Terms → List ℕ → Account → Response → Bool
valid t challenge a f =
    cond (uses_nt f.flag a.nt)
    (answers a.nt a.nt_keys challenge f.nt)
    (t.lm && answers a.lm a.lm_keys challenge f.lm)

-- the round keys that are read: the others have no effect (proofs/Carried)
abbrev pub judging_keys : Account → Response → Schedules
judging_keys a f = cond (uses_nt f.flag a.nt) a.nt_keys a.lm_keys

-- a record in which they stand, beside either hash
abbrev pub carrying : Entry → Schedules → Account
carrying e s = with_schedules e s s

abbrev pub carrying_lookup : EntryLookup → Schedules → Lookup
carrying_lookup l s = lookup_of l.found (carrying l.entry s)

-- ---- how it is judged

-- "at or over a limit .. every Response is judged invalid"
abbrev pub judged_valid : Terms → List ℕ → Account → Response → Bool
judged_valid t challenge a f = not (is_locked t a) && valid t challenge a f

-- "First reason that applies", by whether there is a record for which the Response is judged valid
unfoldable pub first_reason : Bool → Entry → ℕ
first_reason v e =
    cond (not v) authentication_failure
    (cond e.disabled account_disabled
    (cond e.hours_denied restricted_logon_hours
    (cond e.dialin_denied no_dialin_permission
    (cond e.expired password_expired no_reason))))

-- there is a record, and the Response is judged valid for it
abbrev pub found_valid : Terms → List ℕ → Lookup → Response → Bool
found_valid t challenge l f = l.found && judged_valid t challenge l.account f

unfoldable pub response_reason : Terms → List ℕ → Lookup → Response → ℕ
response_reason t challenge l f = first_reason (found_valid t challenge l f) (entry_of l.account)

-- ---- the record that is handed out

-- the record after a Response that was judged by it: its count alone is another
abbrev pub counted : Terms → List ℕ → Account → Response → Account
counted t challenge a f =
    with_failures (failures_after (is_locked t a) (valid t challenge a f) a.failures) a

-- "The box hands out the record after every judged Response where there is one"
abbrev pub counted_lookup : Terms → List ℕ → Lookup → Response → Lookup
counted_lookup t challenge l f = lookup_of l.found (counted t challenge l.account f)

-- what is told of it
abbrev pub checked_response : Terms → List ℕ → Lookup → Response → CheckedResponse
checked_response t challenge l f =
    record {
      reason = response_reason t challenge l f;
      updated = entry_lookup_of (counted_lookup t challenge l f);
    }

-- the same by whether the Response is valid, and so by the hashes alone, as it was before request
-- 2026-10
abbrev pub checked_with : Terms → Lookup → Bool → CheckedResponse
checked_with t l v =
    record {
      reason =
          first_reason (l.found && (not (is_locked t l.account) && v)) (entry_of l.account);
      updated = entry_lookup_of (lookup_of l.found (with_failures
          (failures_after (is_locked t l.account) v l.account.failures) l.account));
    }

abbrev pub checked_by_hash : Terms → List ℕ → Lookup → Response → CheckedResponse
checked_by_hash t challenge l f = checked_with t l (valid_by_hash t challenge l.account f)
