-- The laws of a Failure message for other crates to cite: the text that is written reads as its
-- numbers, what a failure calls for is the one call that fits it, and a reading's number and
-- values.
-- Assumes nothing.
use mathlib.Core.Path.{◌≡◌, refl, sym, ap, ◌∙◌}
use mathlib.Core.Bool.{Bool, true, false, cond, not, ◌&&◌, ◌||◌, and-eq-true_iff, false≢true}
use mathlib.Core.List.{List, [], ◌∷◌}
use Rattle.std.specs.Prelude.{Option, Some, None, Result, Ok, Err}
use Prim.Native.Nat.{ℕ, ◌/◌, ◌%◌, ◌<◌}
use native.Mathlib.Omega.{arith}
use borrow.Author.Tests.{lt-ltb, lt-leb, ne_eqb, eqb-true, ltb-true, ltb-false, leb-false}
use lib.Dec.{eqb, leb, ltb}
use lib.ListN.{length}
use Rattle.octets.specs.Digits.{digit_of, hex_of, number_from}
use Rattle.octets.proofs.Digits.{digit_back}
use Rattle.message.specs.declared.Call.{Call}
use Rattle.message.specs.declared.Call.TheVariants.{Retry, ChangeTwo, ChangeOne, End}
use Rattle.refusals.specs.Refusal.{told}
use Rattle.refusals.specs.declared.Refusal.{Refusal}
use Rattle.refusals.specs.declared.Refusal.TheVariants.{Kind}
use Rattle.message.specs.declared.Failed.{Failed}
use Rattle.message.specs.Message.{words, is_field, field_of, first_field, field_e}
use Rattle.message.specs.Message.{call_fits, called_for, failure_values, values_of, failed_with}
use Rattle.message.specs.Message.{read_fields, read_message, is_missing, message_refusal}
use Rattle.message.specs.Message.{field_values, message_values, text_of}

-- ---- the number and the values of what is read

pub refusal_told : (m : List ℕ) → told (read_message m) ≡ message_refusal m
unfolding read_message message_refusal
refusal_told m = which (ltb 256 (length m)) (first_field field_e (words m))
  where
    which : (over : Bool) (e : Option (List ℕ))
        → told (cond {A = Result Failed Refusal} over (Err Kind) (read_fields (words m) e))
        ≡ cond (over || is_missing e) 11 0
    which true e = refl
    which false None = refl
    which false (Some ds) = refl

pub values_told : (m : List ℕ) → values_of failure_values (read_message m) ≡ message_values m
unfolding read_message message_values
values_told m = which (ltb 256 (length m)) (first_field field_e (words m))
  where
    which : (over : Bool) (e : Option (List ℕ))
        → values_of failure_values
        (cond {A = Result Failed Refusal} over (Err Kind) (read_fields (words m) e))
        ≡ cond over [] (field_values (words m) e)
    which true e = refl
    which false None = refl
    which false (Some ds) = refl

-- ---- what a failure calls for

-- the call that is made fits
pub call_fits_lem : (e r v : ℕ) → call_fits (called_for e r v) e r v ≡ true
unfolding called_for
call_fits_lem e r v = which (eqb e 691 && eqb r 1) (eqb e 648) (leb 2 v) (ltb v 2) refl refl refl refl
  where
    which : (a b t u : Bool) → (eqb e 691 && eqb r 1) ≡ a → eqb e 648 ≡ b → leb 2 v ≡ t → ltb v 2 ≡ u
        → call_fits (cond a Retry (cond (b && t) ChangeTwo (cond (b && u) ChangeOne End))) e r v ≡ true
    which true b t u p q s w = p
    which false true true u p q s w = rw (q, s)
    which false true false true p q s w = rw (q, w)
    which false true false false p q s w = absurd (omega (arith, leb-false 2 v s, ltb-false v 2 w))
    which false false t u p q s w = rw (p, q)

-- no other does
pub call_only : (k : Call) (e r v : ℕ) → call_fits k e r v ≡ true → k ≡ called_for e r v
unfolding called_for
call_only Retry e r v h = rw h
call_only ChangeTwo e r v h =
    let both = (and-eq-true_iff (eqb e 648) (leb 2 v)).0 h in
    simp (eqb-true e 648 both.0, both.1)
call_only ChangeOne e r v h =
    let both = (and-eq-true_iff (eqb e 648) (ltb v 2)).0 h in
    simp (eqb-true e 648 both.0, lt-leb 2 v (ltb-true v 2 both.1), both.1)
call_only End e r v h = which (eqb e 691 && eqb r 1) (eqb e 648) refl refl h
  where
    which : (a b : Bool) → (eqb e 691 && eqb r 1) ≡ a → eqb e 648 ≡ b → not (a || b) ≡ true → End ≡ cond a Retry (cond (b && leb 2 v) ChangeTwo (cond (b && ltb v 2) ChangeOne End))
    which true b p q s = absurd (false≢true s)
    which false true p q s = absurd (false≢true s)
    which false false p q s = refl

-- ---- the text

pub length_text : (e r v : ℕ) → length (text_of e r v) ≡ 13
unfolding text_of
length_text e r v = refl

no_space : (d : ℕ) → d < 10 → eqb (hex_of d) 32 ≡ false
unfolding digit_of
no_space d h = ne_eqb (hex_of d) 32 (λ e. omega (arith, sym (digit_back d (omega arith)) ∙ ap digit_of e))

module _ (a b c d f : ℕ) (ha : a < 10) (hb : b < 10) (hc : c < 10) (hd : d < 2) (hf : f < 10) where
  digits_words : words (69 ∷ 61 ∷ hex_of a ∷ hex_of b ∷ hex_of c ∷ 32 ∷ 82 ∷ 61 ∷ hex_of d ∷ 32 ∷ 86 ∷ 61 ∷ hex_of f ∷ [])
      ≡ (69 ∷ 61 ∷ hex_of a ∷ hex_of b ∷ hex_of c ∷ []) ∷ (82 ∷ 61 ∷ hex_of d ∷ []) ∷ (86 ∷ 61 ∷ hex_of f ∷ []) ∷ []
  unfolding words
  digits_words = simp (no_space a ha, no_space b hb, no_space c hc, no_space d (omega arith), no_space f hf)

  read_digits : read_message (69 ∷ 61 ∷ hex_of a ∷ hex_of b ∷ hex_of c ∷ 32 ∷ 82 ∷ 61 ∷ hex_of d ∷ 32 ∷ 86 ∷ 61 ∷ hex_of f ∷ [])
      ≡ Ok (failed_with (number_from 10 0 (a ∷ b ∷ c ∷ [])) (number_from 2 0 (d ∷ [])) (number_from 10 0 (f ∷ [])) None)
  unfolding read_message field_of is_field
  read_digits =
      rw digits_words
      (simp (
        digit_back a (omega arith),
        digit_back b (omega arith),
        digit_back c (omega arith),
        digit_back d (omega arith),
        digit_back f (omega arith),
        lt-ltb a 10 ha,
        lt-ltb b 10 hb,
        lt-ltb c 10 hc,
        lt-ltb d 2 hd,
        lt-ltb f 10 hf,
      ))

-- the text reads as the numbers it was written from
pub read_text : (e r v : ℕ) → e < 1000 → r < 2 → v < 10 → read_message (text_of e r v) ≡ Ok (failed_with e r v None)
unfolding text_of
read_text e r v he hr hv =
    let ne : number_from 10 0 (e / 100 % 10 ∷ e / 10 % 10 ∷ e % 10 ∷ []) ≡ e = omega arith in
    let nr : number_from 2 0 (r % 10 ∷ []) ≡ r = omega arith in
    let nv : number_from 10 0 (v % 10 ∷ []) ≡ v = omega arith in
    read_digits (e / 100 % 10) (e / 10 % 10) (e % 10) (r % 10) (v % 10) (omega arith) (omega arith) (omega arith) (omega arith) (omega arith)
    ∙ rw (ne, nr, nv)
