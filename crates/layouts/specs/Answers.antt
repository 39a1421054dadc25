-- The layout of what C keeps of a step's answer: whether the reply is the last one again, its
-- reason (0 is Success), what is wrong with a change that was judged (document 02, request
-- 2026-04), and the record that is handed out, or none: that of a judged Response with its count
-- (request 2026-09), or the one that an accepted change updates. Its round keys stand behind it
-- (request 2026-10).
-- Assumes nothing: these are definitions.
use Rattle.std.specs.Prelude.{Bool, ◌&&◌, List, [], ◌∷◌, ◌++◌, ℕ, ◌+◌}
use Rattle.octets.specs.Parts.{part, agrees}
use Rattle.octets.specs.Numbers.{to_be, from_be}
use Rattle.packets.specs.Frame.{octet}
use Rattle.verify.specs.Faults.{fault_number, fault_with}
use Rattle.layouts.specs.Call.{sized}
use Rattle.layouts.specs.Values.{answer_kind, tagged, body_in}
use Rattle.layouts.specs.Keys.{both_keys_size}
use Rattle.layouts.specs.Records.{flag, is_flag, entry_lookup_size, encode_entry_lookup}
use Rattle.layouts.specs.Records.{decode_entry_lookup}
use Rattle.layouts.specs.declared.StepResult.{StepResult}

-- the sizes, in bytes
abbrev pub result_size : ℕ
result_size = 44

-- an answer before the round keys, with kind and version
abbrev pub answer_head_size : ℕ
answer_head_size = 46

abbrev pub answer_size : ℕ
answer_size = answer_head_size + both_keys_size

abbrev pub repeated_at : ℕ
repeated_at = 0

abbrev pub reason_at : ℕ
reason_at = 1

abbrev pub fault_at : ℕ
fault_at = 3

abbrev pub updated_at : ℕ
updated_at = 4

unfoldable pub encode_result : StepResult → List ℕ
encode_result v =
    flag v.repeated
    ∷ (to_be 2 v.reason ++ (fault_number v.fault ∷ encode_entry_lookup v.updated))

unfoldable pub decode_result : List ℕ → StepResult
decode_result bytes =
    record {
      repeated = is_flag (octet repeated_at bytes);
      reason = from_be (octet reason_at bytes ∷ octet 2 bytes ∷ []);
      fault = fault_with (octet fault_at bytes);
      updated = decode_entry_lookup (part updated_at entry_lookup_size bytes);
    }

-- the bytes before the round keys of the record
abbrev pub answer_head : StepResult → List ℕ
answer_head v = tagged answer_kind (encode_result v)

-- with the bytes of the round keys
abbrev pub encode_answer : StepResult → List ℕ → List ℕ
encode_answer v keys = answer_head v ++ keys

-- what it says but for the round keys
abbrev pub decode_answer : List ℕ → StepResult
decode_answer bytes = decode_result (body_in result_size bytes)

abbrev pub answer_keys : List ℕ → List ℕ
answer_keys bytes = part answer_head_size both_keys_size bytes

-- as for a record
unfoldable pub is_encoded_answer : List ℕ → Bool
is_encoded_answer bytes =
    sized answer_size bytes
    && agrees (answer_head (decode_answer bytes)) (part 0 answer_head_size bytes)
