-- Flags and hashes: a record that was made of them says the same, and what is read of a record,
-- its count among it, makes the same record.
-- Assumes nothing.
use mathlib.Core.Path.{◌≡◌, refl, ap, ◌∙◌}
use mathlib.Core.Bool.{Bool, true, false, cond}
use mathlib.Core.List.{List}
use Prim.Native.Nat.{ℕ, zero, suc, ◌+◌, ◌*◌, ◌/◌, ◌%◌, ◌<◌, ◌≤◌}
use native.Mathlib.Omega.{arith}
use lib.ListN.{length, length-replicate}
use Rattle.octets.specs.Parts.{part}
use Rattle.octets.proofs.Parts.{length_fixed, fixed_whole}
use Rattle.credentials.specs.Credentials.{schedules_of}
use Rattle.credentials.proofs.Laws.{length_schedules_of}
use Rattle.accounts.specs.Account.{no_schedules, schedules_for, account_of, entry_of}
use Rattle.accounts.specs.Account.{lookup_of, entry_lookup_of, with_failures}
use Rattle.accounts.specs.declared.Entry.{Entry}
use Rattle.accounts.specs.declared.EntryLookup.{EntryLookup}
use Rattle.accounts.specs.declared.Hash.{Hash}
use Rattle.accounts.specs.declared.Schedules.{Schedules}
use Rattle.layouts.specs.Keys.{both_keys_size, encode_schedules}
use Rattle.layouts.specs.Records.{flag, is_flag, encode_record, decode_head, is_encoded_record}
use Rattle.layouts.proofs.KeyLaws.{length_schedules}
use Rattle.layouts.proofs.RecordLaws.{SizedEntry, flag_back, record_fits, head_back}
use Rattle.layouts.proofs.RecordLaws.{hash_same, entry_same, entry_lookup_same}
use Rattle.numbers.specs.Flags.{flags_of, record_from}

made_sized : (flags : ℕ) (nt lm : List ℕ) → SizedEntry (entry_of (record_from flags nt lm).account)
unfolding record_from
made_sized flags nt lm =
    record { nt = length_fixed 16 (part 0 16 nt); lm = length_fixed 16 (part 0 16 lm) }

-- the 48 round keys of a hash, or zeros
forty_eight : (h : Hash) → length (schedules_for h).keys ≡ 48
forty_eight h = which h.present
  where
    which : (p : Bool)
        → length (cond {A = Schedules} p (record { keys = schedules_of h.octets }) no_schedules).keys
        ≡ 48
    which true = length_schedules_of h.octets
    which false = length-replicate {A = ℕ} 48 0

pub made_keys : (e : Entry) → length (encode_schedules (account_of e)) ≡ both_keys_size
made_keys e = length_schedules (account_of e) (forty_eight e.nt) (forty_eight e.lm)

-- a record that was made is valid, and is decoded as it was made, but for its round keys
pub record_made : (flags : ℕ) (nt lm : List ℕ)
    → (is_encoded_record (encode_record (record_from flags nt lm)) ≡ true)
    × (decode_head (encode_record (record_from flags nt lm)) ≡ entry_lookup_of (record_from flags nt lm))
unfolding record_from
record_made flags nt lm =
    let s = made_sized flags nt lm in
    let l = record_from flags nt lm in (
      record_fits (entry_lookup_of l) (encode_schedules l.account) s (made_keys (entry_of l.account)),
      head_back (entry_lookup_of l) (encode_schedules l.account) s,
    )

small : (b : Bool) → flag b ≤ 1
small true = omega arith
small false = omega arith

binary : (m : ℕ) → m < 2 → flag (is_flag m) ≡ m
binary zero h = refl
binary (suc zero) h = refl
binary (suc (suc m)) h = absurd (omega arith)

bit : (n : ℕ) → flag (is_flag (n % 2)) ≡ n % 2
bit n = binary (n % 2) (omega arith)

module _ (a b c d e f g : ℕ) where
  abbrev total : ℕ
  total = 1 * a + (2 * b + (4 * c + (8 * d + (16 * e + (32 * f + 64 * g)))))

  -- seven bits make the number that they are of: each is what halving leaves
  halved : (n n₁ n₂ n₃ n₄ n₅ n₆ : ℕ) → n ≡ a + 2 * n₁ → n₁ ≡ b + 2 * n₂ → n₂ ≡ c + 2 * n₃
      → n₃ ≡ d + 2 * n₄ → n₄ ≡ e + 2 * n₅ → n₅ ≡ f + 2 * n₆ → n₆ ≡ g → total ≡ n
  halved n n₁ n₂ n₃ n₄ n₅ n₆ e₀ e₁ e₂ e₃ e₄ e₅ e₆ = omega (arith, e₀, e₁, e₂, e₃, e₄, e₅, e₆)

  together : (n : ℕ) → n < 128 → a ≡ n / 1 % 2 → b ≡ n / 2 % 2 → c ≡ n / 4 % 2 → d ≡ n / 8 % 2
      → e ≡ n / 16 % 2 → f ≡ n / 32 % 2 → g ≡ n / 64 % 2 → total ≡ n
  together n h e₀ e₁ e₂ e₃ e₄ e₅ e₆ =
      halved n (n / 2) (n / 4) (n / 8) (n / 16) (n / 32) (n / 64) (omega (arith, e₀))
      (omega (arith, e₁)) (omega (arith, e₂)) (omega (arith, e₃)) (omega (arith, e₄))
      (omega (arith, e₅)) (omega (arith, e₆, h))

  module _ (a₁ : a ≤ 1) (b₁ : b ≤ 1) (c₁ : c ≤ 1) (d₁ : d ≤ 1) (e₁ : e ≤ 1) (f₁ : f ≤ 1)
      (g₁ : g ≤ 1) where
    -- and are those of the number that they make
    apart : (total / 1 % 2 ≡ a) × (total / 2 % 2 ≡ b) × (total / 4 % 2 ≡ c) × (total / 8 % 2 ≡ d)
        × (total / 16 % 2 ≡ e) × (total / 32 % 2 ≡ f) × (total / 64 % 2 ≡ g)
    apart = (
      omega (arith, a₁, b₁, c₁, d₁, e₁, f₁, g₁),
      omega (arith, a₁, b₁, c₁, d₁, e₁, f₁, g₁),
      omega (arith, a₁, b₁, c₁, d₁, e₁, f₁, g₁),
      omega (arith, a₁, b₁, c₁, d₁, e₁, f₁, g₁),
      omega (arith, a₁, b₁, c₁, d₁, e₁, f₁, g₁),
      omega (arith, a₁, b₁, c₁, d₁, e₁, f₁, g₁),
      omega (arith, a₁, b₁, c₁, d₁, e₁, f₁, g₁),
    )

-- the flags of a record that was made are those that it was made of
pub flags_back : (flags : ℕ) (nt lm : List ℕ) → flags < 128
    → flags_of (entry_lookup_of (record_from flags nt lm)) ≡ flags
unfolding flags_of record_from
flags_back flags nt lm h =
    together _ _ _ _ _ _ _ flags h (bit (flags / 1)) (bit (flags / 2)) (bit (flags / 4))
    (bit (flags / 8)) (bit (flags / 16)) (bit (flags / 32)) (bit (flags / 64))

-- what is read of a record makes the same record, once its count is set, but for round keys that
-- were not those of its hashes
pub record_again : (l : EntryLookup) → SizedEntry l.entry
    → let made = record_from (flags_of l) l.entry.nt.octets l.entry.lm.octets in
    entry_lookup_of (lookup_of made.found (with_failures l.entry.failures made.account)) ≡ l
unfolding flags_of record_from
record_again l s =
    let a = l.entry in
    let bits =
    apart (flag l.found) (flag a.nt.present) (flag a.lm.present) (flag a.disabled)
    (flag a.hours_denied) (flag a.dialin_denied) (flag a.expired) (small l.found)
    (small a.nt.present) (small a.lm.present) (small a.disabled)
    (small a.hours_denied) (small a.dialin_denied) (small a.expired) in
    entry_lookup_same (ap is_flag bits.0 ∙ flag_back l.found)
    (entry_same
    (hash_same (ap is_flag bits.1 ∙ flag_back a.nt.present)
    (fixed_whole 16 a.nt.octets s.nt))
    (hash_same (ap is_flag bits.2 ∙ flag_back a.lm.present)
    (fixed_whole 16 a.lm.octets s.lm))
    (ap is_flag bits.3 ∙ flag_back a.disabled)
    (ap is_flag bits.4 ∙ flag_back a.hours_denied)
    (ap is_flag bits.5 ∙ flag_back a.dialin_denied)
    (ap is_flag bits.6 ∙ flag_back a.expired) refl)
