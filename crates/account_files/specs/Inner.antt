-- What writing an account's record back returns and leaves. Only the contract of a private function
-- cites this.
-- Assumes nothing: these are definitions.
use Rattle.std.specs.Prelude.{cond, List, ◌≡◌, ℕ}
use Rattle.accounts.specs.declared.Account.{Account}
use Rattle.smbpasswd.specs.File.{place_of, place_offset}
use Rattle.smbpasswd.specs.Write.{written_in}
use Rattle.account_files.specs.Calls.{write_number, is_somewhere}

pub record AccountCall (file name : List ℕ) (a : Account) (now offset r : ℕ) (file_after : List ℕ)
    (offset_after : ℕ) : Type 0 where
  pub number : r ≡ write_number (place_of name file)
  pub written : file_after ≡ written_in name a now file
  pub offsets : offset_after
      ≡ cond (is_somewhere (place_of name file)) (place_offset (place_of name file)) offset
