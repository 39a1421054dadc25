-- Account records (document 01, "How the box judges", and document 02, requests 2026-09 and
-- 2026-10): how one is made, what a lookup finds, how one is updated, in which the round keys agree
-- with the hashes, and which are the rightful user's.
-- Assumes nothing: these are definitions.
use Rattle.std.specs.Prelude.{Bool, true, false, cond, List, ◌≡◌, ℕ, replicate}
use Rattle.std.proofs.Math.Option.{Option, none, some}
use Rattle.des.specs.Stored.{keys_in}
use Rattle.credentials.specs.Credentials.{schedules_of, schedules_size}
use Rattle.accounts.specs.declared.Hash.{Hash}
use Rattle.accounts.specs.declared.Schedules.{Schedules}
use Rattle.accounts.specs.declared.Account.{Account}
use Rattle.accounts.specs.declared.Entry.{Entry}
use Rattle.accounts.specs.declared.Lookup.{Lookup}
use Rattle.accounts.specs.declared.EntryLookup.{EntryLookup}

-- ---- hashes

abbrev pub hash_if : Bool → List ℕ → Hash
hash_if present h = record { present = present; octets = h }

abbrev pub hash_of : List ℕ → Hash
hash_of h = hash_if true h

abbrev pub no_hash : Hash
no_hash = hash_if false (replicate 16 0)

abbrev pub hash_from : Option (List ℕ) → Hash
hash_from none = no_hash
hash_from (some h) = hash_of h

-- ---- round keys

-- none: zeros
abbrev pub no_schedules : Schedules
no_schedules = record { keys = replicate schedules_size 0 }

-- those that are lent in octets
abbrev pub stored_in : List ℕ → Schedules
stored_in octets = record { keys = keys_in octets }

-- "the three schedules beside each hash"; none where there is no hash
abbrev pub schedules_for : Hash → Schedules
schedules_for h = cond h.present (record { keys = schedules_of h.octets }) no_schedules

-- ---- entries: records without their round keys

-- NT hash, LM hash, and the marks disabled, barred by hours, no dial-in, expired. "A count of
-- invalid Responses in a row, 0 in a record newly made".
abbrev pub entry_with : Hash → Hash → Bool → Bool → Bool → Bool → Entry
entry_with nt lm disabled hours dialin expired =
    record {
      nt = nt;
      lm = lm;
      disabled = disabled;
      hours_denied = hours;
      dialin_denied = dialin;
      expired = expired;
      failures = 0;
    }

-- neither hash, no mark
abbrev pub blank_entry : Entry
blank_entry = entry_with no_hash no_hash false false false false

-- the same entry with another count
abbrev pub entry_failures : ℕ → Entry → Entry
entry_failures n e =
    record {
      nt = e.nt;
      lm = e.lm;
      disabled = e.disabled;
      hours_denied = e.hours_denied;
      dialin_denied = e.dialin_denied;
      expired = e.expired;
      failures = n;
    }

-- after an accepted change: its new hashes, an NT hash, an LM hash or both, expired cleared, the
-- other marks kept; "an accepted change sets the count to 0"
abbrev pub changed_entry : Entry → Hash → Hash → Entry
changed_entry e nt lm =
    entry_with nt lm e.disabled e.hours_denied e.dialin_denied false

-- ---- records made

-- an entry with round keys beside its hashes, whosever they are
abbrev pub with_schedules : Entry → Schedules → Schedules → Account
with_schedules e nt lm =
    record {
      nt = e.nt;
      lm = e.lm;
      disabled = e.disabled;
      hours_denied = e.hours_denied;
      dialin_denied = e.dialin_denied;
      expired = e.expired;
      failures = e.failures;
      nt_keys = nt;
      lm_keys = lm;
    }

abbrev pub entry_of : Account → Entry
entry_of a =
    record {
      nt = a.nt;
      lm = a.lm;
      disabled = a.disabled;
      hours_denied = a.hours_denied;
      dialin_denied = a.dialin_denied;
      expired = a.expired;
      failures = a.failures;
    }

-- with the round keys of its own hashes
abbrev pub account_of : Entry → Account
account_of e = with_schedules e (schedules_for e.nt) (schedules_for e.lm)

abbrev pub account_with : Hash → Hash → Bool → Bool → Bool → Bool → Account
account_with nt lm disabled hours dialin expired =
    account_of (entry_with nt lm disabled hours dialin expired)

abbrev pub blank_account : Account
blank_account = account_of blank_entry

-- ---- looked up

abbrev pub lookup_of : Bool → Account → Lookup
lookup_of found a = record { found = found; account = a }

abbrev pub found : Account → Lookup
found a = lookup_of true a

abbrev pub not_found : Lookup
not_found = lookup_of false blank_account

-- the same without the round keys
abbrev pub no_entry : EntryLookup
no_entry = record { found = false; entry = blank_entry }

abbrev pub entry_lookup_of : Lookup → EntryLookup
entry_lookup_of l = record { found = l.found; entry = entry_of l.account }

-- ---- updated

-- new hashes have their own round keys
abbrev pub changed : Entry → Hash → Hash → Account
changed e nt lm = account_of (changed_entry e nt lm)

-- the same record with another count: "where its hash stays, handed out with them"
abbrev pub with_failures : ℕ → Account → Account
with_failures n a =
    with_schedules (entry_failures n (entry_of a)) a.nt_keys a.lm_keys

-- ---- round keys that agree with the hashes

-- Beside each hash that is there are its own. What stands beside one that is not has no effect.
pub record Agree (a : Account) : Type 0 where
  pub nt : a.nt.present ≡ true → a.nt_keys.keys ≡ schedules_of a.nt.octets
  pub lm : a.lm.present ≡ true → a.lm_keys.keys ≡ schedules_of a.lm.octets

-- of a record, or none
abbrev pub AgreeIn : Lookup → Type 0
AgreeIn l = l.found ≡ true → Agree l.account

-- ---- permitted to log on

-- neither disabled, barred by hours nor without dial-in, whatever hashes there are
pub record LogonPermitted (a : Account) : Type 0 where
  pub enabled : a.disabled ≡ false
  pub hours : a.hours_denied ≡ false
  pub dialin : a.dialin_denied ≡ false

-- ---- the rightful user's

-- with an NT hash, and neither disabled, barred by hours nor without dial-in (document 01, demand
-- 3)
pub record Rightful (a : Account) : Type 0 where
  pub nt : a.nt.present ≡ true
  pub enabled : a.disabled ≡ false
  pub hours : a.hours_denied ≡ false
  pub dialin : a.dialin_denied ≡ false
