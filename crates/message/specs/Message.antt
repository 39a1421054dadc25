-- The message of a Failure packet (RFC 2433, section 8; document 01, "What the peer reads"): what
-- it says, and the text that the authenticator writes.
-- Assumes nothing: these are definitions.
use Rattle.std.specs.Prelude.{Bool, true, false, cond, not, ◌&&◌, ◌||◌, List, [], ◌∷◌, map, ℕ, ◌/◌}
use Rattle.std.specs.Prelude.{◌%◌}
use Rattle.std.specs.Prelude.{eqb, leb, ltb, length, drop, Option, Some, None, Result, Ok, Err}
use Rattle.octets.specs.Digits.{digit_of, hex_of, all_below, number_from, pairs}
use Rattle.octets.specs.Split.{with_first}
use Rattle.message.specs.Reasons.{authentication_failure, password_expired}
use Rattle.refusals.specs.declared.Refusal.{Refusal}
use Rattle.refusals.specs.declared.Refusal.TheVariants.{Kind}
use Rattle.message.specs.declared.Call.{Call}
use Rattle.message.specs.declared.Call.TheVariants.{Retry, ChangeTwo, ChangeOne, End}
use Rattle.message.specs.declared.Verdict.{Verdict}
use Rattle.message.specs.declared.Verdict.TheVariants.{Success, Failure}
use Rattle.message.specs.declared.Failed.{Failed}

-- ---- words

-- the text between spaces (octet 32 alone); two spaces in a row have the empty word between them
unfoldable pub words : List ℕ → List (List ℕ)
words [] = [] ∷ []
words (x ∷ m) = cond (eqb x 32) ([] ∷ words m) (with_first x (words m))

-- ---- fields

-- the values of what stands after a letter and '='
abbrev pub digits_of : List ℕ → List ℕ
digits_of w = map digit_of (drop 2 w)

-- A word is a field whole or not at all: the letter, '=' (61), and low to high digits of the base.
unfoldable pub is_field : ℕ → ℕ → ℕ → ℕ → List ℕ → Bool
is_field letter base low high [] = false
is_field letter base low high (x ∷ []) = false
is_field letter base low high (x ∷ y ∷ ds) =
    eqb x letter && (eqb y 61 && (leb low (length ds)
    && (leb (length ds) high && all_below base (map digit_of ds))))

-- the values of a field's digits
unfoldable pub field_of : ℕ → ℕ → ℕ → ℕ → List ℕ → Option (List ℕ)
field_of letter base low high w = cond (is_field letter base low high w) (Some (digits_of w)) None

-- E= and V= take 1 to 10 decimal digits, R= one digit 0 or 1, C= 16 hexadecimal digits
abbrev pub field_e : List ℕ → Option (List ℕ)
field_e = field_of 69 10 1 10

abbrev pub field_r : List ℕ → Option (List ℕ)
field_r = field_of 82 2 1 1

abbrev pub field_v : List ℕ → Option (List ℕ)
field_v = field_of 86 10 1 10

abbrev pub field_c : List ℕ → Option (List ℕ)
field_c = field_of 67 16 16 16

abbrev pub or_else : {A : Type 0} → Option A → Option A → Option A
or_else None o = o
or_else (Some a) o = Some a

-- the first well-formed field of a kind counts; all other text is skipped
abbrev pub first_field : (List ℕ → Option (List ℕ)) → List (List ℕ) → Option (List ℕ)
first_field f [] = None
first_field f (w ∷ ws) = or_else (f w) (first_field f ws)

-- the number of a field, and what stands for a missing one
abbrev pub number_or : ℕ → ℕ → Option (List ℕ) → ℕ
number_or base missing None = missing
number_or base missing (Some ds) = number_from base 0 ds

-- ---- the verdict

-- when a failure with the fields E, R and V calls for each of these
abbrev pub call_fits : Call → ℕ → ℕ → ℕ → Bool
call_fits Retry e r v = eqb e authentication_failure && eqb r 1
call_fits ChangeTwo e r v = eqb e password_expired && leb 2 v
call_fits ChangeOne e r v = eqb e password_expired && ltb v 2
call_fits End e r v = not (eqb e authentication_failure && eqb r 1 || eqb e password_expired)

unfoldable pub called_for : ℕ → ℕ → ℕ → Call
called_for e r v =
    cond (call_fits Retry e r v) Retry
    (cond (call_fits ChangeTwo e r v) ChangeTwo (cond (call_fits ChangeOne e r v) ChangeOne End))

-- document 01's values of a failure (E, R and V), of a verdict, and of what was read; none of a
-- refusal
abbrev pub failure_values : Failed → List ℕ
failure_values f = f.e ∷ f.r ∷ f.v ∷ []

abbrev pub verdict_values : Verdict → List ℕ
verdict_values Success = []
verdict_values (Failure f) = failure_values f

abbrev pub values_of : {A : Type 0} → (A → List ℕ) → Result A Refusal → List ℕ
values_of values (Ok a) = values a
values_of values (Err r) = []

-- C's octets, where it is given
abbrev pub new_challenge_from : Option (List ℕ) → Option (List ℕ)
new_challenge_from None = None
new_challenge_from (Some ds) = Some (pairs ds)

abbrev pub failed_with : ℕ → ℕ → ℕ → Option (List ℕ) → Failed
failed_with e r v c = record { e = e; r = r; v = v; c = c; call = called_for e r v }

-- R missing is 0, V missing is 1
abbrev pub value_r : List (List ℕ) → ℕ
value_r ws = number_or 2 0 (first_field field_r ws)

abbrev pub value_v : List (List ℕ) → ℕ
value_v ws = number_or 10 1 (first_field field_v ws)

-- by the digits of E: without E, refusal 11
abbrev pub read_fields : List (List ℕ) → Option (List ℕ) → Result Failed Refusal
read_fields ws None = Err Kind
read_fields ws (Some e) =
    Ok (failed_with (number_from 10 0 e) (value_r ws) (value_v ws)
    (new_challenge_from (first_field field_c ws)))

abbrev pub longest_message : ℕ
longest_message = 256

-- what the message m says; over 256 octets, refusal 11
unfoldable pub read_message : List ℕ → Result Failed Refusal
read_message m =
    cond (ltb longest_message (length m)) (Err Kind)
    (read_fields (words m) (first_field field_e (words m)))

abbrev pub is_missing : Option (List ℕ) → Bool
is_missing None = true
is_missing (Some ds) = false

-- the number with which a message is refused: over 256 octets or without E, 11
unfoldable pub message_refusal : List ℕ → ℕ
message_refusal m =
    cond (ltb longest_message (length m) || is_missing (first_field field_e (words m))) 11 0

-- E, R and V of a message that is not refused
abbrev pub field_values : List (List ℕ) → Option (List ℕ) → List ℕ
field_values ws None = []
field_values ws (Some e) = number_from 10 0 e ∷ value_r ws ∷ value_v ws ∷ []

unfoldable pub message_values : List ℕ → List ℕ
message_values m =
    cond (ltb longest_message (length m)) []
    (field_values (words m) (first_field field_e (words m)))

-- ---- the text that is written: `E=691 R=1 V=2` with the numbers set, of which the three, one and
-- one last decimal digits count
unfoldable pub text_of : ℕ → ℕ → ℕ → List ℕ
text_of e r v =
    69 ∷ 61 ∷ hex_of (e / 100 % 10) ∷ hex_of (e / 10 % 10) ∷ hex_of (e % 10) ∷ 32
    ∷ 82 ∷ 61 ∷ hex_of (r % 10) ∷ 32
    ∷ 86 ∷ 61 ∷ hex_of (v % 10) ∷ []
