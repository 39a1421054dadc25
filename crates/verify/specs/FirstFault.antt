-- Document 02's sentences on a change that draws 709, condition by condition. Version 2 (request
-- 2026-04): "the box's answer carries beside the 709 the first that holds of: no NT hash, bit 0
-- clear, over 512, odd, old hash wrong, response wrong". Version 1 (request 2026-07): "its reason
-- the first of LM not allowed and over 14 (these for bit 0 clear only), hash absent, old hash
-- wrong". That `change_fault` (specs/Change) and `change_one_fault` (specs/ChangeOne) say the same
-- is proved in proofs/FirstFault and FirstFaultOne.
-- Assumes nothing: these are definitions.
use Rattle.std.specs.Prelude.{Option, Some, None}
use Rattle.std.specs.Prelude.{false, cond, List, ◌≢◌, ◌≡◌, ℕ, ◌%◌, ◌<◌}
use Rattle.credentials.specs.Credentials.{response_of, old_under_new, hash_under_challenge}
use Rattle.accounts.specs.declared.Entry.{Entry}
use Rattle.accounts.specs.declared.Hash.{Hash}
use Rattle.packets.specs.declared.Change.{Change}
use Rattle.packets.specs.declared.ChangeOne.{ChangeOne}
use Rattle.verify.specs.Accepted.{length_for, hash_for, Accepted}
use Rattle.verify.specs.AcceptedOne.{AcceptedOne}
use Rattle.verify.specs.ChangeOne.{nt_asked}
use Rattle.verify.specs.Faults.{fault_number}
use Rattle.verify.specs.declared.ChangeFault.{ChangeFault}
use Rattle.verify.specs.declared.ChangeFault.TheVariants.{
  NoNtHash,
  NoNtResponse,
  LengthOver,
  LengthOdd,
  OldHashWrong,
  ResponseWrong,
  LmNotAllowed,
  LengthOverLm,
  HashAbsent,
  HashWrong,
}
use Rattle.verify.specs.declared.Terms.{Terms}

-- a fault holds, by what each of them says, and none before it does
pub record IsFirst (Holds : Option ChangeFault → Type 0) (fault : Option ChangeFault) : Type 0 where
  pub holds : Holds fault
  pub none_before : (other : Option ChangeFault) → fault_number other < fault_number fault
      → Holds other → ⊥

-- What each of them says by itself; none is told of an accepted change. Of a version 2 change none
-- of version 1's holds, and the other way round.
module _ (kept : Entry) (challenge : List ℕ) (f : Change) where
  abbrev pub Holds : Option ChangeFault → Type 0
  Holds None = Accepted kept challenge f
  Holds (Some NoNtHash) = kept.nt.present ≡ false
  Holds (Some NoNtResponse) = f.flags % 2 ≡ 0
  Holds (Some LengthOver) = 512 < length_for kept f
  Holds (Some LengthOdd) = length_for kept f % 2 ≡ 1
  Holds (Some OldHashWrong) = f.verifier ≢ old_under_new kept.nt.octets (hash_for kept f)
  Holds (Some ResponseWrong) = f.nt ≢ response_of (hash_for kept f) challenge
  Holds (Some LmNotAllowed) = ⊥
  Holds (Some LengthOverLm) = ⊥
  Holds (Some HashAbsent) = ⊥
  Holds (Some HashWrong) = ⊥

-- the kept hash that bit 0 asks for, and the field of the old one
abbrev pub asked_hash : Entry → ChangeOne → Hash
asked_hash kept f = cond (nt_asked f) kept.nt kept.lm

abbrev pub asked_field : ChangeOne → List ℕ
asked_field f = cond (nt_asked f) f.ntold f.lmold

module _ (t : Terms) (kept : Entry) (challenge : List ℕ) (f : ChangeOne) where
  abbrev pub HoldsOne : Option ChangeFault → Type 0
  HoldsOne None = AcceptedOne t kept challenge f
  HoldsOne (Some NoNtHash) = ⊥
  HoldsOne (Some NoNtResponse) = ⊥
  HoldsOne (Some LengthOver) = ⊥
  HoldsOne (Some LengthOdd) = ⊥
  HoldsOne (Some OldHashWrong) = ⊥
  HoldsOne (Some ResponseWrong) = ⊥
  HoldsOne (Some LmNotAllowed) = (f.flags % 2 ≡ 0) × (t.lm ≡ false)
  HoldsOne (Some LengthOverLm) = (f.flags % 2 ≡ 0) × (14 < f.length)
  HoldsOne (Some HashAbsent) = (asked_hash kept f).present ≡ false
  HoldsOne (Some HashWrong) =
      asked_field f ≢ hash_under_challenge (asked_hash kept f).octets challenge
