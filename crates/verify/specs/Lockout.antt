-- Lockout (document 02, request 2026-09, "Stop guessing across conversations"): an account record
-- counts invalid Responses in a row, and at the limit of the opening it is locked.
-- Assumes nothing: these are definitions.
use Rattle.std.specs.Prelude.{Bool, cond, ℕ, suc, ltb, leb}
use Rattle.accounts.specs.declared.Account.{Account}
use Rattle.verify.specs.declared.Terms.{Terms}

-- "at or over a limit of 1 to 255"
abbrev pub is_locked_at : Terms → ℕ → Bool
is_locked_at t n = leb t.limit n

abbrev pub is_locked : Terms → Account → Bool
is_locked t a = is_locked_at t a.failures

abbrev pub most_failures : ℕ
most_failures = 255

-- "adds 1, to at most 255"
abbrev pub one_more : ℕ → ℕ
one_more n = cond (ltb n most_failures) (suc n) n

-- The count after a judged Response, by whether the record was locked and the Response valid: "Each
-- judged invalid Response adds 1, to at most 255; a valid one sets it to 0; at or over a limit ..
-- a valid one adds nothing." So a right guess at a locked account is not told by the next one.
unfoldable pub failures_after : Bool → Bool → ℕ → ℕ
failures_after locked v n = cond v (cond locked n 0) (one_more n)
