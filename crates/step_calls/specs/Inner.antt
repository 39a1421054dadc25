-- What the parts of the code return and leave. Only the code's inner functions cite these; no
-- public promise does.
-- Assumes nothing: these are definitions.
use Rattle.std.specs.Prelude.{Bool, ◌&&◌, List, ◌≡◌, ℕ}
use Rattle.octets.specs.Parts.{agrees}
use Rattle.accounts.specs.declared.EntryLookup.{EntryLookup}
use Rattle.authenticator.specs.Step.{refusal_in}
use Rattle.authenticator.specs.declared.Conversation.{Conversation}
use Rattle.authenticator.specs.declared.Phase.{Phase}
use Rattle.authenticator.specs.Step.{Stepped}
use Rattle.layouts.specs.Call.{sized, after_call}
use Rattle.layouts.specs.Answers.{answer_size, encode_answer}
use Rattle.layouts.specs.Records.{is_record_of}
use Rattle.layouts.specs.Conversations.{encode_conversation}
use Rattle.numbers.specs.Results.{result_of}
use Rattle.step_calls.specs.Calls.{keys_for}

-- the answer of a step in a phase, which was passed a record, is written into buffers of the right
-- sizes
pub record AnswerPut (phase : Phase) (s : Stepped) (account conversation out : List ℕ) (r : ℕ)
    (conversation_after out_after : List ℕ) : Type 0 where
  pub number : r ≡ refusal_in s.kind
  pub next : conversation_after ≡ after_call r (encode_conversation s.next) conversation
  pub found : out_after ≡ after_call r (encode_answer (result_of s) (keys_for phase s account)) out

-- the arguments of a step are valid, by what the conversation and the record decode to
abbrev pub step_arguments_as : Conversation → EntryLookup → List ℕ → List ℕ → List ℕ → Bool
step_arguments_as c l conversation account out =
    agrees (encode_conversation c) conversation && (is_record_of l account && sized answer_size out)
