-- The layout of round keys: as many bytes as a record has room for.
-- Assumes nothing.
use mathlib.Core.Path.{◌≡◌, ap₂, ◌∙◌}
use Prim.Native.Nat.{ℕ, ◌+◌, ◌*◌}
use lib.ListN.{length, length-append}
use Rattle.credentials.specs.Credentials.{encode_keys}
use Rattle.credentials.proofs.KeyOctets.{length_encoded}
use Rattle.accounts.specs.declared.Account.{Account}
use Rattle.layouts.specs.Keys.{both_keys_size, encode_schedules}

pub length_schedules : (a : Account) → length a.nt_keys.keys ≡ 48
    → length a.lm_keys.keys ≡ 48 → length (encode_schedules a) ≡ both_keys_size
length_schedules a e f =
    length-append (encode_keys a.nt_keys.keys) (encode_keys a.lm_keys.keys)
    ∙ both ∙ ap₂ (λ (m n : ℕ). 8 * m + 8 * n) e f
  where
    both : length (encode_keys a.nt_keys.keys) + length (encode_keys a.lm_keys.keys)
        ≡ 8 * length a.nt_keys.keys + 8 * length a.lm_keys.keys
    both = ap₂ (λ (m n : ℕ). m + n) (length_encoded a.nt_keys.keys)
        (length_encoded a.lm_keys.keys)
