-- What a call from C returns, and what it leaves in the buffers that were passed.
-- Assumes nothing: these are definitions.
use Rattle.std.specs.Prelude.{Bool, cond, ◌&&◌, List, ◌≡◌, ℕ, eqb, length}

-- a buffer of n bytes
abbrev pub sized : ℕ → List ℕ → Bool
sized n bytes = eqb (length bytes) n

-- two buffers of n and of m bytes
abbrev pub both_sized : ℕ → List ℕ → ℕ → List ℕ → Bool
both_sized n xs m ys = sized n xs && sized m ys

-- the number of a call whose arguments are not valid
abbrev pub bad_argument : ℕ
bad_argument = 100

-- the number that a call returns, by whether its arguments are valid and by its refusal (0 is none)
abbrev pub numbered : Bool → ℕ → ℕ
numbered valid refusal = cond valid refusal bad_argument

-- What a call returns that has a value to return: the value, or the largest number of 32 bits where
-- it was passed none that is valid.
abbrev pub invalid : ℕ
invalid = 4294967295

abbrev pub value_or : Bool → ℕ → ℕ
value_or valid n = cond valid n invalid

-- what a call that returned r leaves: the result where r is 0, else what was there before
abbrev pub after_call : {A : Type 0} → ℕ → A → A → A
after_call r result before = cond (eqb r 0) result before

-- what a call with one result returns (r) and leaves in the buffer for it
pub record Fills (valid : Bool) (refusal : ℕ) (result buffer : List ℕ) (r : ℕ)
    (buffer_after : List ℕ) : Type 0 where
  pub number : r ≡ numbered valid refusal
  pub bytes : buffer_after ≡ after_call r result buffer
