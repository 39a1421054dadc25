-- The layout of a conversation's last answer, field by field: a value is its fields, and what is
-- decoded from the encoding of a value is the value.
-- Assumes nothing.
use mathlib.Core.Path.{◌≡◌, refl, ap, ◌∙◌}
use mathlib.Core.Bool.{Bool, true, false}
use Prim.Native.Nat.{ℕ, ◌<◌}
use native.Mathlib.Omega.{arith}
use lib.ListN.{length}
use Rattle.octets.specs.Numbers.{to_be, from_be}
use Rattle.octets.proofs.Numbers.{from_be-to_be}
use Rattle.authenticator.specs.Judge.{reason_of}
use Rattle.authenticator.specs.declared.LastAnswer.{LastAnswer}
use Rattle.authenticator.specs.declared.Reply.{Reply}
use Rattle.authenticator.specs.declared.Reply.TheVariants.{Success, Failure}
use Rattle.layouts.specs.LastAnswers as layout
use Rattle.layouts.proofs.RecordLaws.{flag_back}

pub last_same : {b b' : Bool} {c c' i i' : ℕ} {r r' : Reply} → b ≡ b' → c ≡ c' → i ≡ i' → r ≡ r'
    → ◌≡◌ {A = LastAnswer} (record { present = b; code = c; id = i; reply = r })
    (record { present = b'; code = c'; id = i'; reply = r' })
last_same e₁ e₂ e₃ e₄ = cc

pub length_last : (l : LastAnswer) → length (layout.encode_last l) ≡ layout.last_size
unfolding layout.encode_last
length_last l = refl

-- ---- round trip

-- what is decoded has a reason of two bytes
pub decoded_reason : (l : LastAnswer)
    → reason_of (layout.decode_last (layout.encode_last l)).reply < 65536
unfolding layout.encode_last layout.decode_last
decoded_reason l = by l.reply
  where
    by : (r : Reply)
        → reason_of (layout.reply_from (layout.reply_number r) (from_be (to_be 2 (reason_of r)))) < 65536
    by Success = omega arith
    by (Failure e true) = omega (arith, from_be-to_be 2 e)
    by (Failure e false) = omega (arith, from_be-to_be 2 e)

reply_back : (r : Reply) → reason_of r < 65536
    → layout.reply_from (layout.reply_number r) (from_be (to_be 2 (reason_of r))) ≡ r
reply_back Success h = refl
reply_back (Failure e true) h =
    ap (λ (n : ℕ). Failure n true) (from_be-to_be 2 e ∙ omega (arith, h))
reply_back (Failure e false) h =
    ap (λ (n : ℕ). Failure n false) (from_be-to_be 2 e ∙ omega (arith, h))

pub last_back : (l : LastAnswer) → reason_of l.reply < 65536
    → layout.decode_last (layout.encode_last l) ≡ l
unfolding layout.encode_last layout.decode_last
last_back l h = last_same (flag_back l.present) refl refl (reply_back l.reply h)
