-- What `acctsum` says of its input (document 02, request 2026-02): "a line of present time and
-- maximum age (decimal, a space between), then a file, 64 KiB in all".
-- Assumes nothing: these are definitions.
use Rattle.std.specs.Prelude.{Bool, cond, not, ◌&&◌, List, map, ℕ, ◌^◌, leb, ltb, length}
use Rattle.std.specs.Prelude.{Result, Ok, Err}
use Rattle.refusals.specs.declared.Refusal.{Refusal}
use Rattle.refusals.specs.declared.Refusal.TheVariants as refusal
use Rattle.octets.specs.Digits.{digit_of, all_below, number_from}
use Rattle.octets.specs.Split.{holds, before, behind}
use Rattle.accounts.specs.declared.Account.{Account}
use Rattle.smbpasswd.specs.Line.{lf, is_account}
use Rattle.smbpasswd.specs.Record.{account_in}
use Rattle.smbpasswd.specs.File.{select, counted, malformed}
use Rattle.smbpasswd.specs.declared.Counts.{Counts}

-- ---- counts

-- how many lines have an account of which a test is true: "a line of another form counts in the
-- first two only"
abbrev pub count_of : ℕ → ℕ → (Account → Bool) → List ℕ → ℕ
count_of now max_age test f =
    length (select (λ l. is_account l && test (account_in now max_age l)) (counted f))

unfoldable pub counts_of : ℕ → ℕ → List ℕ → Counts
counts_of now max_age f =
    record {
      lines = length (counted f);
      bad = length (malformed f);
      disabled = count_of now max_age (λ a. a.disabled) f;
      expired = count_of now max_age (λ a. a.expired) f;
      no_nt = count_of now max_age (λ a. not a.nt.present) f;
    }

abbrev pub no_counts : Counts
no_counts = record { lines = 0; bad = 0; disabled = 0; expired = 0; no_nt = 0 }

-- ---- the first line

abbrev pub space : ℕ
space = 32

-- a decimal number of 32 bits: any number of digits, but at least one; its value, and whether it is
-- one
abbrev pub value_of : List ℕ → ℕ
value_of s = number_from 10 0 (map digit_of s)

abbrev pub is_number : List ℕ → Bool
is_number s = leb 1 (length s) && (all_below 10 (map digit_of s) && ltb (value_of s) (2 ^ 32))

-- "decimal, a space between"
abbrev pub is_head : List ℕ → Bool
is_head l = holds space l && (is_number (before space l) && is_number (behind space l))

-- "64 KiB in all"
abbrev pub longest_input : ℕ
longest_input = 65536

-- ---- the whole input

-- "Another first line, a number past 32 bits or a longer input prints only `refused 14`"
unfoldable pub summary_of : List ℕ → Result Counts Refusal
summary_of input =
    cond (leb (length input) longest_input && is_head (before lf input))
    (Ok (counts_of (value_of (before space (before lf input)))
    (value_of (behind space (before lf input))) (behind lf input)))
    (Err refusal.Line)
