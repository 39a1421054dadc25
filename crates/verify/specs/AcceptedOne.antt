-- Document 02's sentences on a version 1 change that is accepted, condition by condition (request
-- 2026-07). That `checked_change_one` (specs/ChangeOne) says the same is proved in
-- proofs/AcceptedOne.
-- Assumes nothing: these are definitions.
use Rattle.std.specs.Prelude.{true, List, ◌⊎◌, ◌≡◌, ℕ, ◌%◌, ◌≤◌}
use Rattle.credentials.specs.Credentials.{hash_under_challenge}
use Rattle.accounts.specs.declared.Entry.{Entry}
use Rattle.packets.specs.declared.ChangeOne.{ChangeOne}
use Rattle.verify.specs.declared.Terms.{Terms}

-- "Bit 0 set: the old NT hash must agree"
pub record AcceptedNt (kept : Entry) (challenge : List ℕ) (f : ChangeOne) : Type 0 where
  pub bit0 : f.flags % 2 ≡ 1
  pub has_hash : kept.nt.present ≡ true
  pub old_hash : f.ntold ≡ hash_under_challenge kept.nt.octets challenge

-- "Bit 0 clear: LM must be allowed, the length at most 14 and the old LM hash agree"
pub record AcceptedLm (t : Terms) (kept : Entry) (challenge : List ℕ)
    (f : ChangeOne) : Type 0 where
  pub bit0 : f.flags % 2 ≡ 0
  pub allowed : t.lm ≡ true
  pub at_most_14 : f.length ≤ 14
  pub has_hash : kept.lm.present ≡ true
  pub old_hash : f.lmold ≡ hash_under_challenge kept.lm.octets challenge

abbrev pub AcceptedOne : Terms → Entry → List ℕ → ChangeOne → Type 0
AcceptedOne t kept challenge f = AcceptedNt kept challenge f ⊎ AcceptedLm t kept challenge f
