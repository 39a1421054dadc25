-- The layout of what a conversation answered last: whether it has answered, the code and the
-- identifier of the packet, and the reply.
-- Assumes nothing: these are definitions.
use Rattle.std.specs.Prelude.{cond, List, [], ◌∷◌, ℕ, eqb}
use Rattle.octets.specs.Numbers.{to_be, from_be}
use Rattle.packets.specs.Frame.{octet}
use Rattle.authenticator.specs.Judge.{reason_of}
use Rattle.authenticator.specs.declared.LastAnswer.{LastAnswer}
use Rattle.authenticator.specs.declared.Reply.{Reply}
use Rattle.authenticator.specs.declared.Reply.TheVariants.{Success, Failure}
use Rattle.layouts.specs.Records.{flag, is_flag}

-- the size, in bytes
abbrev pub last_size : ℕ
last_size = 6

-- ---- which reply it was

abbrev pub success_reply : ℕ
success_reply = 0

-- a Failure with R=0
abbrev pub final_failure : ℕ
final_failure = 1

-- a Failure with R=1
abbrev pub retry_failure : ℕ
retry_failure = 2

abbrev pub reply_number : Reply → ℕ
reply_number Success = success_reply
reply_number (Failure e retry) = cond retry retry_failure final_failure

-- the reply with that number and reason; Success has none
abbrev pub reply_from : ℕ → ℕ → Reply
reply_from n e = cond (eqb n success_reply) Success (Failure e (eqb n retry_failure))

-- ---- the last answer

abbrev pub answered_at : ℕ
answered_at = 0

abbrev pub answered_code_at : ℕ
answered_code_at = 1

abbrev pub answered_identifier_at : ℕ
answered_identifier_at = 2

abbrev pub reply_at : ℕ
reply_at = 3

abbrev pub reply_reason_at : ℕ
reply_reason_at = 4

unfoldable pub encode_last : LastAnswer → List ℕ
encode_last l =
    flag l.present ∷ l.code ∷ l.id ∷ reply_number l.reply ∷ to_be 2 (reason_of l.reply)

unfoldable pub decode_last : List ℕ → LastAnswer
decode_last bytes =
    record {
      present = is_flag (octet answered_at bytes);
      code = octet answered_code_at bytes;
      id = octet answered_identifier_at bytes;
      reply =
          reply_from (octet reply_at bytes)
          (from_be (octet reply_reason_at bytes ∷ octet 5 bytes ∷ []));
    }
