-- What is wrong with a change of the password, or its new hash, by the record that was kept and the
-- challenge in force: six tests, and the first that holds. Document 01's sentence on an accepted
-- change stands in specs/Accepted and document 02's on the first fault in specs/FirstFault; that
-- these say the same is proved (proofs/Accepted, proofs/FirstFault).
-- Assumes nothing: these are definitions.
use Rattle.std.specs.Prelude.{Option, Some, None, Result, Ok, Err}
use Rattle.std.specs.Prelude.{Bool, cond, not, List, ℕ, ◌%◌, eqb, ltb}
use Rattle.octets.specs.Parts.{agrees}
use Rattle.credentials.specs.Credentials.{longest_nt, response_of, old_under_new}
use Rattle.accounts.specs.Account.{no_hash, hash_of}
use Rattle.accounts.specs.declared.Entry.{Entry}
use Rattle.accounts.specs.declared.Hash.{Hash}
use Rattle.packets.specs.declared.Change.{Change}
use Rattle.verify.specs.Accepted.{length_for, hash_for}
use Rattle.verify.specs.Faults.{first_fault, is_faultless}
use Rattle.verify.specs.declared.ChangeFault.{ChangeFault}
use Rattle.verify.specs.declared.NewHashes.{NewHashes}

-- a change that was checked: what is wrong with it, or none and its new hashes, NT, LM or both
-- (none beside a fault)
pub record CheckedChange : Type 0 where
  pub fault : Option ChangeFault
  pub nt : Hash
  pub lm : Hash

abbrev pub checked_as : Result NewHashes ChangeFault → CheckedChange
checked_as (Ok h) = record { fault = None; nt = h.nt; lm = h.lm }
checked_as (Err f) = record { fault = Some f; nt = no_hash; lm = no_hash }

-- the new hashes, or none beside a fault
abbrev pub checked_with : Option ChangeFault → Hash → Hash → CheckedChange
checked_with fault nt lm =
    record {
      fault = fault;
      nt = cond (is_faultless fault) nt no_hash;
      lm = cond (is_faultless fault) lm no_hash;
    }

-- ---- the proofs of a new hash

-- RFC 2433 A.17: the old hash under the new one is not the one sent
abbrev pub bad_verifier : Entry → Change → List ℕ → Bool
bad_verifier kept f h = not (agrees f.verifier (old_under_new kept.nt.octets h))

-- RFC 2433 A.7: the NT response is not the new hash's to the challenge in force
abbrev pub bad_response : List ℕ → Change → List ℕ → Bool
bad_response challenge f h = not (agrees f.nt (response_of h challenge))

-- ---- a change

-- Document 02, request 2026-04, on document 01's conditions. Bit 1 of the flags and the LM fields
-- are ignored.
unfoldable pub change_fault : Entry → List ℕ → Change → Option ChangeFault
change_fault kept challenge f =
    first_fault
    (not kept.nt.present)
    (not (eqb (f.flags % 2) 1))
    (ltb longest_nt (length_for kept f))
    (eqb (length_for kept f % 2) 1)
    (bad_verifier kept f (hash_for kept f))
    (bad_response challenge f (hash_for kept f))

-- what is told of it: a new NT hash and no LM hash
unfoldable pub checked_change : Entry → List ℕ → Change → CheckedChange
checked_change kept challenge f =
    checked_with (change_fault kept challenge f) (hash_of (hash_for kept f)) no_hash

-- the new hash of an accepted change
abbrev pub new_hash : Entry → List ℕ → Change → Option (List ℕ)
new_hash kept challenge f =
    cond (is_faultless (change_fault kept challenge f)) (Some (hash_for kept f)) None
