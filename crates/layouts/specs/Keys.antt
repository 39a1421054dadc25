-- The layout of stored round keys (document 02, request 2026-10): each number in eight bytes, the
-- least significant first, as the cipher reads them. Every eight bytes are a number, so no bytes of
-- theirs are wrong.
-- Assumes nothing: these are definitions.
use Rattle.std.specs.Prelude.{List, ◌++◌, ℕ, ◌*◌}
use Rattle.octets.specs.Parts.{part}
use Rattle.des.specs.Stored.{stored_size}
use Rattle.credentials.specs.Credentials.{encode_keys}
use Rattle.accounts.specs.Account.{stored_in}
use Rattle.accounts.specs.declared.Account.{Account}
use Rattle.accounts.specs.declared.Schedules.{Schedules}

-- the size of a hash's, in bytes, and of a record's
abbrev pub keys_size : ℕ
keys_size = stored_size

abbrev pub both_keys_size : ℕ
both_keys_size = 2 * keys_size

-- those from the place at on; zeros where the bytes do not reach so far
abbrev pub keys_at : ℕ → List ℕ → Schedules
keys_at at bytes = stored_in (part at keys_size bytes)

-- of a record: those of the NT hash, and then those of the LM hash
abbrev pub encode_schedules : Account → List ℕ
encode_schedules a = encode_keys a.nt_keys.keys ++ encode_keys a.lm_keys.keys
