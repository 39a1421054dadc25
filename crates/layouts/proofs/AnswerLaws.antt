-- The layout of a step's answer, field by field: a value is its fields, and what is decoded from
-- the encoding of a value is the value.
-- Assumes nothing.
use Rattle.std.specs.Prelude.{Option}
use mathlib.Core.Path.{◌≡◌, ap, ap₂, subst, ◌∙◌}
use mathlib.Core.Bool.{Bool, true, ◌&&◌}
use mathlib.Core.List.{List, [], ◌∷◌, ◌++◌}
use Prim.Native.Nat.{ℕ, suc, ◌+◌, ◌<◌}
use native.Mathlib.Omega.{arith}
use lib.ListN.{length, length-append}
use lib.Seq.{take_all, take_at, get_or-take}
use borrow.Author.Tests.{eq-eqb, eqb-true}
use Rattle.octets.specs.Parts.{part, agrees}
use Rattle.octets.proofs.Parts.{agrees_refl, agrees_equal}
use Rattle.octets.specs.Numbers.{to_be}
use Rattle.octets.proofs.Numbers.{from_be-to_be}
use Rattle.packets.specs.Frame.{octet}
use Rattle.accounts.specs.declared.EntryLookup.{EntryLookup}
use Rattle.verify.specs.Faults.{fault_number}
use Rattle.verify.specs.declared.ChangeFault.{ChangeFault}
use Rattle.verify.proofs.FirstFault.{fault_back, fault_small}
use Rattle.layouts.specs.Call.{sized}
use Rattle.layouts.specs.Values.{tag_size, body_in}
use Rattle.layouts.specs.Keys.{both_keys_size}
use Rattle.layouts.specs.Records.{flag, encode_entry_lookup, decode_entry_lookup, entry_lookup_size}
use Rattle.layouts.specs.Answers as layout
use Rattle.layouts.specs.declared.StepResult.{StepResult}
use Rattle.layouts.proofs.Filling.{both}
use Rattle.layouts.proofs.RecordLaws.{SizedEntry, decoded_entry_lookup_sized, length_entry_lookup}
use Rattle.layouts.proofs.RecordLaws.{flag_back, entry_lookup_back}

pub result_same : {b b' : Bool} {n n' : ℕ} {f f' : Option ChangeFault} {l l' : EntryLookup} → b ≡ b' → n ≡ n'
    → f ≡ f' → l ≡ l'
    → ◌≡◌ {A = StepResult} (record { repeated = b; reason = n; fault = f; updated = l })
    (record { repeated = b'; reason = n'; fault = f'; updated = l' })
result_same e₁ e₂ e₃ e₄ = cc

pub result_pieces : (v : StepResult) {two : List ℕ} {number : ℕ} → two ≡ to_be 2 v.reason
    → number ≡ fault_number v.fault
    → ((flag v.repeated ∷ two) ++ (number ∷ [])) ++ encode_entry_lookup v.updated
    ≡ layout.encode_result v
unfolding layout.encode_result
result_pieces v e₁ e₂ =
    ap₂
    (λ (l : List ℕ) (n : ℕ). ((flag v.repeated ∷ l) ++ (n ∷ [])) ++ encode_entry_lookup v.updated)
    e₁ e₂

-- ---- sizes

pub length_result : (v : StepResult) → SizedEntry v.updated.entry
    → length (layout.encode_result v) ≡ layout.result_size
unfolding layout.encode_result
length_result v s = ap (λ (n : ℕ). suc (suc (suc (suc n)))) (length_entry_lookup v.updated s)

pub decoded_result_sized : (bytes : List ℕ)
    → SizedEntry (layout.decode_result bytes).updated.entry
unfolding layout.decode_result
decoded_result_sized bytes = decoded_entry_lookup_sized (part layout.updated_at entry_lookup_size bytes)

pub decoded_answer_sized : (bytes : List ℕ)
    → SizedEntry (layout.decode_answer bytes).updated.entry
decoded_answer_sized bytes = decoded_result_sized (body_in layout.result_size bytes)

-- ---- round trip

module _ (v : StepResult) (s : SizedEntry v.updated.entry) (fits : v.reason < 65536) where
  result_back : layout.decode_result (layout.encode_result v) ≡ v
  unfolding layout.encode_result layout.decode_result
  result_back =
      let n = length_entry_lookup v.updated s in
      result_same (flag_back v.repeated) (from_be-to_be 2 v.reason ∙ omega (arith, fits))
      (fault_back v.fault)
      (ap decode_entry_lookup (take_all 40 (encode_entry_lookup v.updated) (omega arith))
      ∙ entry_lookup_back v.updated s)

  pub answer_back : (keys : List ℕ) → layout.decode_answer (layout.encode_answer v keys) ≡ v
  answer_back keys =
      ap layout.decode_result (take_at (layout.encode_result v) keys 44 (length_result v s))
      ∙ result_back

  length_head : length (layout.answer_head v) ≡ layout.answer_head_size
  length_head = ap (λ (n : ℕ). suc (suc n)) (length_result v s)

  pub length_answer : (keys : List ℕ) → length keys ≡ both_keys_size
      → length (layout.encode_answer v keys) ≡ layout.answer_size
  length_answer keys e =
      length-append (layout.answer_head v) keys ∙ ap₂ (λ (m n : ℕ). m + n) length_head e

  -- the encoding of an answer is taken for one
  pub answer_fits : (keys : List ℕ) → length keys ≡ both_keys_size
      → layout.is_encoded_answer (layout.encode_answer v keys) ≡ true
  unfolding layout.is_encoded_answer
  answer_fits keys e =
      ap₂ (λ (t : Bool) (b : Bool). t && b)
      (eq-eqb (length (layout.encode_answer v keys)) layout.answer_size (length_answer keys e))
      (ap₂ agrees (ap layout.answer_head (answer_back keys))
      (take_at (layout.answer_head v) keys layout.answer_head_size length_head)
      ∙ agrees_refl (layout.answer_head v))

-- what is taken for an answer has its head in front
pub answer_head_lem : (bytes : List ℕ) → layout.is_encoded_answer bytes ≡ true
    → layout.answer_head (layout.decode_answer bytes) ≡ part 0 layout.answer_head_size bytes
unfolding layout.is_encoded_answer
answer_head_lem bytes e =
    agrees_equal (layout.answer_head (layout.decode_answer bytes))
    (part 0 layout.answer_head_size bytes) (both (sized layout.answer_size bytes) _ e).1

pub length_encoded_answer : (bytes : List ℕ) → layout.is_encoded_answer bytes ≡ true
    → length bytes ≡ layout.answer_size
unfolding layout.is_encoded_answer
length_encoded_answer bytes e =
    eqb-true (length bytes) layout.answer_size (both (sized layout.answer_size bytes) _ e).0

-- ---- the byte of the fault

-- what is taken for an answer has the number of a fault there: 11 to 255 are none
pub fault_byte : (bytes : List ℕ) → layout.is_encoded_answer bytes ≡ true
    → octet (tag_size + layout.fault_at) bytes < 11
unfolding layout.encode_result
fault_byte bytes e =
    subst (λ (n : ℕ). n < 11)
    (ap (octet 5) (answer_head_lem bytes e)
    ∙ get_or-take layout.answer_head_size bytes 5 0 (omega arith))
    (fault_small (layout.decode_answer bytes).fault)
