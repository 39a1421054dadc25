-- What is wrong with a version 1 change of the password, or its new hashes, by the terms, the
-- record that was kept and the challenge in force (document 02, request 2026-07; RFC 2433, section
-- 9): two cases, by bit 0 of the flags. The sentence, condition by condition, stands in
-- specs/AcceptedOne and specs/FirstFault; that these say the same is proved.
-- Assumes nothing: these are definitions.
use Rattle.std.specs.Prelude.{Option}
use Rattle.std.specs.Prelude.{Bool, false, cond, not, List, ℕ, ◌%◌, eqb, ltb}
use Rattle.octets.specs.Parts.{agrees}
use Rattle.credentials.specs.Credentials.{longest_lm, hash_under_challenge, hash_from_challenge}
use Rattle.accounts.specs.Account.{no_hash, hash_of}
use Rattle.accounts.specs.declared.Entry.{Entry}
use Rattle.accounts.specs.declared.Hash.{Hash}
use Rattle.packets.specs.declared.ChangeOne.{ChangeOne}
use Rattle.verify.specs.Change.{checked_with}
use Rattle.verify.specs.Faults.{first_fault_one}
use Rattle.verify.specs.declared.ChangeFault.{ChangeFault}
use Rattle.verify.specs.Change.{CheckedChange}
use Rattle.verify.specs.declared.Terms.{Terms}

-- "Bit 0 set"
abbrev pub nt_asked : ChangeOne → Bool
nt_asked f = eqb (f.flags % 2) 1

-- the password's length is over 14: the LM fields are not valid
abbrev pub over_lm : ChangeOne → Bool
over_lm f = ltb longest_lm f.length

-- an old hash does not agree: the kept one, under the challenge in force, is not the field that was
-- sent
abbrev pub bad_old : Hash → List ℕ → List ℕ → Bool
bad_old h challenge field = not (agrees field (hash_under_challenge h.octets challenge))

-- the new hash that a field holds
abbrev pub new_in : List ℕ → List ℕ → Hash
new_in challenge field = hash_of (hash_from_challenge field challenge)

-- "Bit 0 set: the old NT hash must agree; the record gets the new NT hash, and the new LM hash if
-- the password length is at most 14, else none."
abbrev pub nt_fault : Entry → List ℕ → ChangeOne → Option ChangeFault
nt_fault kept challenge f =
    first_fault_one false false (not kept.nt.present) (bad_old kept.nt challenge f.ntold)

abbrev pub checked_nt : Entry → List ℕ → ChangeOne → CheckedChange
checked_nt kept challenge f =
    checked_with (nt_fault kept challenge f) (new_in challenge f.ntnew)
    (cond (over_lm f) no_hash (new_in challenge f.lmnew))

-- "Bit 0 clear: LM must be allowed, the length at most 14 and the old LM hash agree; the record
-- gets the new LM hash and no NT hash."
abbrev pub lm_fault : Terms → Entry → List ℕ → ChangeOne → Option ChangeFault
lm_fault t kept challenge f =
    first_fault_one (not t.lm) (over_lm f) (not kept.lm.present)
    (bad_old kept.lm challenge f.lmold)

abbrev pub checked_lm : Terms → Entry → List ℕ → ChangeOne → CheckedChange
checked_lm t kept challenge f =
    checked_with (lm_fault t kept challenge f) no_hash (new_in challenge f.lmnew)

-- ---- a change

unfoldable pub change_one_fault : Terms → Entry → List ℕ → ChangeOne → Option ChangeFault
change_one_fault t kept challenge f =
    cond (nt_asked f) (nt_fault kept challenge f) (lm_fault t kept challenge f)

-- what is told of it
unfoldable pub checked_change_one : Terms → Entry → List ℕ → ChangeOne → CheckedChange
checked_change_one t kept challenge f =
    cond (nt_asked f) (checked_nt kept challenge f) (checked_lm t kept challenge f)
