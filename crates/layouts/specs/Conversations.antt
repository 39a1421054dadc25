-- The layout of a conversation. Its last answer has a page of its own, LastAnswers.
-- Assumes nothing: these are definitions.
use Rattle.std.specs.Prelude.{Bool, cond, List, ◌∷◌, ◌++◌, ℕ, eqb}
use Rattle.octets.specs.Parts.{part, fixed}
use Rattle.packets.specs.Codes.{response_code}
use Rattle.packets.specs.Sizes.{challenge_size}
use Rattle.packets.specs.Frame.{octet}
use Rattle.verify.specs.declared.ChangeVersion.{ChangeVersion}
use Rattle.verify.specs.declared.ChangeVersion.TheVariants.{One, Two}
use Rattle.authenticator.specs.Conversation.{awaited_code, change_code_of}
use Rattle.authenticator.specs.Encode.{version}
use Rattle.authenticator.specs.declared.Conversation.{Conversation}
use Rattle.authenticator.specs.declared.Phase.{Phase}
use Rattle.authenticator.specs.declared.Phase.TheVariants.{Response, Change, Ended}
use Rattle.layouts.specs.Values.{conversation_kind, tagged, body_in, is_encoding}
use Rattle.layouts.specs.Records.{flag, is_flag, entry_size, encode_entry, decode_entry}
use Rattle.layouts.specs.LastAnswers.{last_size, encode_last, decode_last}

-- the sizes, in bytes
abbrev pub state_size : ℕ
state_size = 59

abbrev pub conversation_size : ℕ
conversation_size = 61

-- the version of the change that the terms name, by its number
abbrev pub version_from : ℕ → ChangeVersion
version_from n = cond (eqb n 1) One Two

-- the phase that awaits a code: 2 is a Response, that version's code a change; else the
-- conversation has ended
abbrev pub phase_of : ChangeVersion → ℕ → Phase
phase_of v n = cond (eqb n response_code) Response (cond (eqb n (change_code_of v)) Change Ended)

abbrev pub awaited_at : ℕ
awaited_at = 0

abbrev pub lm_allowed_at : ℕ
lm_allowed_at = 1

abbrev pub limit_at : ℕ
limit_at = 2

abbrev pub change_at : ℕ
change_at = 3

abbrev pub identifier_at : ℕ
identifier_at = 4

abbrev pub retries_at : ℕ
retries_at = 5

abbrev pub challenge_at : ℕ
challenge_at = 6

abbrev pub kept_at : ℕ
kept_at = 14

abbrev pub last_at : ℕ
last_at = 53

unfoldable pub encode_state : Conversation → List ℕ
encode_state c =
    awaited_code c.terms.change c.phase ∷ flag c.terms.lm ∷ c.terms.limit
    ∷ version c.terms.change ∷ c.id ∷ c.retries
    ∷ (c.challenge ++ (encode_entry c.kept ++ encode_last c.last))

unfoldable pub decode_state : List ℕ → Conversation
decode_state bytes =
    record {
      terms = record {
        lm = is_flag (octet lm_allowed_at bytes);
        limit = octet limit_at bytes;
        change = version_from (octet change_at bytes);
      };
      id = octet identifier_at bytes;
      challenge = fixed challenge_size (part challenge_at challenge_size bytes);
      retries = octet retries_at bytes;
      phase = phase_of (version_from (octet change_at bytes)) (octet awaited_at bytes);
      kept = decode_entry (part kept_at entry_size bytes);
      last = decode_last (part last_at last_size bytes);
    }

abbrev pub encode_conversation : Conversation → List ℕ
encode_conversation c = tagged conversation_kind (encode_state c)

abbrev pub decode_conversation : List ℕ → Conversation
decode_conversation bytes = decode_state (body_in state_size bytes)

unfoldable pub is_encoded_conversation : List ℕ → Bool
is_encoded_conversation bytes = is_encoding encode_conversation decode_conversation bytes
