-- The error codes of a Failure (RFC 2433, section 8), document 01's "reasons", by the RFC's names.
-- Assumes nothing: these are definitions.
use Rattle.std.specs.Prelude.{ℕ}

-- ERROR_RESTRICTED_LOGON_HOURS
abbrev pub restricted_logon_hours : ℕ
restricted_logon_hours = 646

-- ERROR_ACCT_DISABLED
abbrev pub account_disabled : ℕ
account_disabled = 647

-- ERROR_PASSWD_EXPIRED
abbrev pub password_expired : ℕ
password_expired = 648

-- ERROR_NO_DIALIN_PERMISSION
abbrev pub no_dialin_permission : ℕ
no_dialin_permission = 649

-- ERROR_AUTHENTICATION_FAILURE
abbrev pub authentication_failure : ℕ
authentication_failure = 691

-- ERROR_CHANGING_PASSWORD
abbrev pub changing_password : ℕ
changing_password = 709

-- no Failure: Success
abbrev pub no_reason : ℕ
no_reason = 0
