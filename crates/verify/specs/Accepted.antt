-- Document 01's sentence on an accepted change, condition by condition: "A change is accepted
-- exactly when the kept record has an NT hash, flag bit 0 is set, the opened block's length is even
-- and at most 512, the old hash under the new hash is the one sent, and the NT response equals that
-- of the new hash and the challenge in force. Bit 1 and the LM fields are ignored." That `new_hash`
-- (specs/Change) says the same is proved in proofs/Accepted.
-- Assumes nothing: these are definitions.
use Rattle.std.specs.Prelude.{true, List, ◌≡◌, ℕ, ◌%◌, ◌≤◌}
use Rattle.credentials.specs.Credentials.{
  nt_hash_of,
  response_of,
  old_under_new,
  length_under,
  unsealed_as,
  password_in,
}
use Rattle.accounts.specs.declared.Entry.{Entry}
use Rattle.packets.specs.declared.Change.{Change}

-- the length that the block gives, opened under the kept record's NT hash, and the hash of the
-- password of that length
abbrev pub length_for : Entry → Change → ℕ
length_for kept f = length_under kept.nt.octets f.block

abbrev pub hash_for : Entry → Change → List ℕ
hash_for kept f = nt_hash_of (password_in (unsealed_as kept.nt.octets f.block) (length_for kept f))

pub record Accepted (kept : Entry) (challenge : List ℕ) (f : Change) : Type 0 where
  pub has_hash : kept.nt.present ≡ true
  pub bit0 : f.flags % 2 ≡ 1
  pub even : length_for kept f % 2 ≡ 0
  pub at_most_512 : length_for kept f ≤ 512
  pub old_hash : f.verifier ≡ old_under_new kept.nt.octets (hash_for kept f)
  pub response : f.nt ≡ response_of (hash_for kept f) challenge

-- two changes that differ in what is ignored alone
pub record SameButIgnored (f g : Change) : Type 0 where
  pub block : f.block ≡ g.block
  pub verifier : f.verifier ≡ g.verifier
  pub nt : f.nt ≡ g.nt
  pub bit0 : f.flags % 2 ≡ g.flags % 2
