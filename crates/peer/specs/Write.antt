-- The peer's packets, each from a turn and passwords, and when they are refused (document 01: 8,
-- 10, 12, 9 in that order). The version 1 change is document 02's, request 2026-07.
-- Assumes nothing: these are definitions.
use Rattle.std.specs.Prelude.{Bool, cond, ◌||◌, List, ℕ, replicate}
use Rattle.credentials.specs.Credentials.{nt_hash_of, bad_nt_password, bad_filler, response_of}
use Rattle.credentials.specs.Credentials.{old_under_new, hash_under_challenge, sealed_block}
use Rattle.packets.specs.Frame.{Written, answer_by, out_by}
use Rattle.packets.specs.Sizes.{answer_size, hash_size, block_size}
use Rattle.packets.specs.Response.{response_packet, response_write_refusal}
use Rattle.packets.specs.Change.{change_packet, change_write_refusal}
use Rattle.packets.specs.ChangeOne.{change_one_packet, change_one_write_refusal}
use Rattle.packets.specs.declared.Response.{Response}
use Rattle.packets.specs.declared.Change.{Change}
use Rattle.packets.specs.declared.ChangeOne.{ChangeOne}
use Rattle.peer.specs.declared.Turn.{Turn}

-- a Response from an NT hash: the LM response is zero-filled, the flag is 1
abbrev pub response_fields_of : List ℕ → List ℕ → Response
response_fields_of challenge hash =
    record { lm = replicate answer_size 0; nt = response_of hash challenge; flag = 1 }

-- a version 2 change from the old and the new NT hash and the sealed new password: both LM fields
-- and the LM response are zero-filled, the flags are 1; the response is that of the new hash
abbrev pub change_fields_of : List ℕ → List ℕ → List ℕ → List ℕ → Change
change_fields_of challenge old new block =
    record {
      block = block;
      verifier = old_under_new old new;
      lmblock = replicate block_size 0;
      lmverifier = replicate hash_size 0;
      lm = replicate answer_size 0;
      nt = response_of new challenge;
      flags = 1;
    }

-- a version 1 change from the two hashes: each is under the challenge, both LM fields are
-- zero-filled, the flags are 1, and the length is one with which no LM hash is taken
abbrev pub change_one_fields_of : List ℕ → List ℕ → List ℕ → ChangeOne
change_one_fields_of challenge old new =
    record {
      lmold = replicate hash_size 0;
      lmnew = replicate hash_size 0;
      ntold = hash_under_challenge old challenge;
      ntnew = hash_under_challenge new challenge;
      length = 65535;
      flags = 1;
    }

-- the three from passwords
abbrev pub response_fields : List ℕ → List ℕ → Response
response_fields challenge password = response_fields_of challenge (nt_hash_of password)

abbrev pub change_fields : List ℕ → List ℕ → List ℕ → List ℕ → Change
change_fields challenge old new filler =
    change_fields_of challenge (nt_hash_of old) (nt_hash_of new)
    (sealed_block (nt_hash_of old) filler new)

abbrev pub change_one_fields : List ℕ → List ℕ → List ℕ → ChangeOne
change_one_fields challenge old new =
    change_one_fields_of challenge (nt_hash_of old) (nt_hash_of new)

unfoldable pub response_for : Turn → List ℕ → List ℕ → List ℕ
response_for t password name = response_packet t.id (response_fields t.challenge password) name

unfoldable pub change_for : Turn → List ℕ → List ℕ → List ℕ → List ℕ
change_for t old new filler = change_packet t.id (change_fields t.challenge old new filler)

unfoldable pub change_one_for : Turn → List ℕ → List ℕ → List ℕ
change_one_for t old new = change_one_packet t.id (change_one_fields t.challenge old new)

-- 8, 10, 9
unfoldable pub write_response_refusal : List ℕ → List ℕ → List ℕ → ℕ
write_response_refusal password name out = cond (bad_nt_password password) 8
    (response_write_refusal name out)

-- one of the two passwords of a change is refused
abbrev pub bad_passwords : List ℕ → List ℕ → Bool
bad_passwords old new = bad_nt_password old || bad_nt_password new

-- 8, 12, 9; 8 for either password
unfoldable pub write_change_refusal : List ℕ → List ℕ → List ℕ → List ℕ → ℕ
write_change_refusal old new filler out =
    cond (bad_passwords old new) 8 (cond (bad_filler filler) 12 (change_write_refusal out))

-- 8, 9
unfoldable pub write_change_one_refusal : List ℕ → List ℕ → List ℕ → ℕ
write_change_one_refusal old new out = cond (bad_passwords old new) 8 (change_one_write_refusal out)

-- a writer's answer and its buffer afterwards
pub record Wrote : Type 0 where
  pub answer : Written
  pub out : List ℕ

abbrev pub wrote_by : ℕ → List ℕ → List ℕ → Wrote
wrote_by n packet out = record { answer = answer_by n packet; out = out_by n packet out }

unfoldable pub write_response : Turn → List ℕ → List ℕ → List ℕ → Wrote
write_response t password name out = wrote_by (write_response_refusal password name out)
    (response_for t password name) out

unfoldable pub write_change : Turn → List ℕ → List ℕ → List ℕ → List ℕ → Wrote
write_change t old new filler out = wrote_by (write_change_refusal old new filler out)
    (change_for t old new filler) out

unfoldable pub write_change_one : Turn → List ℕ → List ℕ → List ℕ → Wrote
write_change_one t old new out =
    wrote_by (write_change_one_refusal old new out) (change_one_for t old new) out
