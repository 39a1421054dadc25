-- The refusal number and the values of a reply by document 01 are those of the verdict read, and a
-- reply that is not refused has the identifier of the last packet.
-- Assumes nothing.
use mathlib.Core.Path.{◌≡◌, refl, ◌∙◌}
use mathlib.Core.Bool.{Bool, true, false, cond, not, ◌||◌}
use mathlib.Core.List.{List, []}
use Prim.Native.Nat.{ℕ}
use native.Mathlib.Omega.{arith}
use borrow.Author.Tests.{eqb-true}
use lib.Dec.{eqb}
use Rattle.std.specs.Prelude.{Result, Ok, Err}
use Rattle.refusals.specs.Refusal.{told}
use Rattle.refusals.specs.declared.Refusal.{Refusal}
use Rattle.refusals.specs.declared.Refusal.TheVariants.{Frame, Identifier, Kind}
use Rattle.message.specs.Message.{read_message, message_refusal, message_values}
use Rattle.message.specs.Message.{failure_values, verdict_values, values_of}
use Rattle.message.specs.declared.Failed.{Failed}
use Rattle.message.specs.declared.Verdict.{Verdict}
use Rattle.message.specs.declared.Verdict.TheVariants.{Success}
use Rattle.message.proofs.Laws.{refusal_told, values_told}
use Rattle.packets.specs.Frame.{octet, bad_frame, bad_id, data_of}
use Rattle.packets.specs.Reply.{failure_in, read_reply, reply_refusal, reply_values}

-- a failure has the number and the values of its message
failure_told : (m : Result Failed Refusal) → told (failure_in m) ≡ told m
failure_told (Ok f) = refl
failure_told (Err r) = refl

failure_values_of : (m : Result Failed Refusal)
    → values_of verdict_values (failure_in m) ≡ values_of failure_values m
failure_values_of (Ok f) = refl
failure_values_of (Err r) = refl

module _ (last : ℕ) (p : List ℕ) where
  abbrev read : Bool → Bool → Bool → Bool → Result Verdict Refusal
  read a b c d =
      cond a (Err Frame)
      (cond b (Err Identifier)
      (cond c (Ok Success) (cond d (failure_in (read_message (data_of p))) (Err Kind))))

  -- no code is both 3 and 4
  not_both : eqb (octet 0 p) 3 ≡ true → eqb (octet 0 p) 4 ≡ true → ⊥
  not_both e f = omega (arith, eqb-true (octet 0 p) 3 e, eqb-true (octet 0 p) 4 f)

  read_told : (a b c d : Bool)
      → told (read a b c d) ≡ cond a 3 (cond b 5 (cond c 0 (cond d (message_refusal (data_of p)) 11)))
  read_told true b c d = refl
  read_told false true c d = refl
  read_told false false true d = refl
  read_told false false false true =
      failure_told (read_message (data_of p)) ∙ refusal_told (data_of p)
  read_told false false false false = refl

  read_values : (a b c d : Bool) → eqb (octet 0 p) 3 ≡ c → eqb (octet 0 p) 4 ≡ d
      → values_of verdict_values (read a b c d)
      ≡ cond (a || (b || not d)) [] (message_values (data_of p))
  read_values true b c d e f = refl
  read_values false true c d e f = refl
  read_values false false true true e f = absurd (not_both e f)
  read_values false false true false e f = refl
  read_values false false false true e f =
      failure_values_of (read_message (data_of p)) ∙ values_told (data_of p)
  read_values false false false false e f = refl

  pub reply_told : told (read_reply last p) ≡ reply_refusal last p
  unfolding read_reply reply_refusal
  reply_told = read_told (bad_frame p) (bad_id last p) (eqb (octet 0 p) 3) (eqb (octet 0 p) 4)

  pub reply_values_told : values_of verdict_values (read_reply last p) ≡ reply_values last p
  unfolding read_reply reply_values
  reply_values_told =
      read_values (bad_frame p) (bad_id last p) (eqb (octet 0 p) 3) (eqb (octet 0 p) 4) refl refl

pub reply_identifier : (last : ℕ) (p : List ℕ) → reply_refusal last p ≡ 0 → octet 1 p ≡ last
unfolding reply_refusal
reply_identifier last p =
    by (bad_frame p) (eqb (octet 1 p) last) (cond (eqb (octet 0 p) 3) 0 (cond (eqb (octet 0 p) 4) (message_refusal (data_of p)) 11)) refl
  where
    by : (a b : Bool) (n : ℕ) → eqb (octet 1 p) last ≡ b → ◌≡◌ {A = ℕ} (cond a 3 (cond (not b) 5 n)) 0 → octet 1 p ≡ last
    by true b n e k = absurd (omega (arith, k))
    by false false n e k = absurd (omega (arith, k))
    by false true n e k = eqb-true (octet 1 p) last e
