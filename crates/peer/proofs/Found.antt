-- What the authenticator finds in the packets that our peer writes: they pass its checks and read
-- back field for field, whatever padding follows.
-- Assumes nothing.
use mathlib.Core.Path.{◌≡◌, refl}
use mathlib.Core.List.{List, ◌++◌}
use Prim.Native.Nat.{ℕ, ◌+◌, ◌≤◌}
use native.Mathlib.Omega.{arith}
use lib.ListN.{length}
use Rattle.credentials.specs.Credentials.{nt_hash_of}
use Rattle.credentials.proofs.Laws as laws
use Rattle.packets.proofs.Writing.{Sized, SizedOne, length_response, length_change}
use Rattle.packets.proofs.Writing.{length_change_one}
use Rattle.packets.proofs.ReadBack.{ResponseBack, ChangeBack, ChangeOneBack, response_back}
use Rattle.packets.proofs.ReadBack.{change_back, change_one_back}
use Rattle.peer.specs.Write.{response_fields, change_fields, change_one_fields, response_for}
use Rattle.peer.specs.Write.{change_for, change_one_for}
use Rattle.peer.specs.declared.Turn.{Turn}

-- the flags that have the authenticator take the NT fields
pub response_flag : (challenge password : List ℕ) → (response_fields challenge password).flag ≡ 1
response_flag challenge password = refl

pub change_flags : (challenge old new filler : List ℕ) → (change_fields challenge old new filler).flags ≡ 1
change_flags challenge old new filler = refl

pub change_one_flags : (challenge old new : List ℕ) → (change_one_fields challenge old new).flags ≡ 1
change_one_flags challenge old new = refl

module _ (t : Turn) (password name : List ℕ) where
  nt_length : length (response_fields t.challenge password).nt ≡ 24
  nt_length = laws.length_response (nt_hash_of password) t.challenge

  pub response_length : length (response_for t password name) ≡ 54 + length name
  unfolding response_for
  response_length = length_response t.id (response_fields t.challenge password) name refl nt_length

  pub response_found : (after : List ℕ) → 1 ≤ length name → length name ≤ 256
      → ResponseBack t.id (response_fields t.challenge password) name (response_for t password name ++ after)
  unfolding response_for
  response_found after some short =
      response_back t.id (response_fields t.challenge password) name after refl nt_length some short

module _ (t : Turn) (old new filler : List ℕ) (full : length filler ≡ 512) (fits : length new ≤ 512) where
  sized : Sized (change_fields t.challenge old new filler)
  sized =
      record {
        block = laws.length_sealed filler new full fits (nt_hash_of old);
        verifier = laws.length_old_under_new (nt_hash_of old) (nt_hash_of new);
        lmblock = refl;
        lmverifier = refl;
        lm = refl;
        nt = laws.length_response (nt_hash_of new) t.challenge;
      }

  pub change_length : length (change_for t old new filler) ≡ 1118
  unfolding change_for
  change_length = length_change t.id (change_fields t.challenge old new filler) sized

  pub change_found : (after : List ℕ) → ChangeBack t.id (change_fields t.challenge old new filler) (change_for t old new filler ++ after)
  unfolding change_for
  change_found after = change_back t.id (change_fields t.challenge old new filler) after sized (omega arith)

module _ (t : Turn) (old new : List ℕ) where
  sized_one : SizedOne (change_one_fields t.challenge old new)
  sized_one =
      record {
        lmold = refl;
        lmnew = refl;
        ntold = laws.length_under_challenge (nt_hash_of old) t.challenge;
        ntnew = laws.length_under_challenge (nt_hash_of new) t.challenge;
      }

  pub change_one_length : length (change_one_for t old new) ≡ 72
  unfolding change_one_for
  change_one_length = length_change_one t.id (change_one_fields t.challenge old new) sized_one

  pub change_one_found : (after : List ℕ) → ChangeOneBack t.id (change_one_fields t.challenge old new) (change_one_for t old new ++ after)
  unfolding change_one_for
  change_one_found after =
      change_one_back t.id (change_one_fields t.challenge old new) after sized_one (omega arith) (omega arith)
