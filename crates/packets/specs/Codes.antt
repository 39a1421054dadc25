-- The codes of the packets (RFC 1994, section 4; RFC 2433, sections 9 and 10).
-- Assumes nothing: these are definitions.
use Rattle.std.specs.Prelude.{ℕ}

abbrev pub challenge_code : ℕ
challenge_code = 1

abbrev pub response_code : ℕ
response_code = 2

abbrev pub success_code : ℕ
success_code = 3

abbrev pub failure_code : ℕ
failure_code = 4

-- Change Password, version 1
abbrev pub change_one_code : ℕ
change_one_code = 5

-- Change Password, version 2
abbrev pub change_code : ℕ
change_code = 6
