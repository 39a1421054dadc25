-- The step from C, over encodings, and what its answer and a conversation tell.
-- Assumes nothing: these are definitions.
use Rattle.std.specs.Prelude.{Bool, cond, ◌&&◌, List, ◌++◌, ◌≡◌, ℕ}
use Rattle.accounts.specs.Account.{account_of}
use Rattle.authenticator.specs.Conversation.{awaited_code}
use Rattle.authenticator.specs.Step.{Outcome, step, refusal_in, stepped_of, hands_back}
use Rattle.authenticator.specs.declared.Phase.{Phase}
use Rattle.authenticator.specs.Step.{Stepped}
use Rattle.verify.specs.Faults.{fault_number}
use Rattle.layouts.specs.Call.{Fills, sized, numbered, value_or, after_call}
use Rattle.layouts.specs.Keys.{encode_schedules}
use Rattle.layouts.specs.Records.{flag, record_size, record_head, record_keys, decode_record}
use Rattle.layouts.specs.Records.{is_encoded_record}
use Rattle.layouts.specs.Answers.{answer_size, encode_answer, decode_answer, answer_keys}
use Rattle.layouts.specs.Answers.{is_encoded_answer}
use Rattle.layouts.specs.Conversations.{encode_conversation, decode_conversation}
use Rattle.layouts.specs.Conversations.{is_encoded_conversation}
use Rattle.numbers.specs.Results.{result_of, no_record_refusal}

-- ---- the call

-- a step of the conversation that is encoded
abbrev pub step_of : List ℕ → List ℕ → List ℕ → List ℕ → Outcome
step_of conversation packet account buffer =
    step (decode_conversation conversation) packet (decode_record account) buffer

unfoldable pub step_arguments : List ℕ → List ℕ → List ℕ → Bool
step_arguments conversation account out =
    is_encoded_conversation conversation && (is_encoded_record account && sized answer_size out)

-- The bytes of the round keys of the record that is handed out in a phase: those of the record that
-- was passed, where it is handed back with its count; else those of its own hashes. That they are
-- the round keys of the step's record is proved (proofs/Fitting `record_tells`).
abbrev pub keys_for : Phase → Stepped → List ℕ → List ℕ
keys_for phase s account =
    cond (hands_back phase s.kind) (record_keys account)
    (encode_schedules (account_of s.updated.entry))

abbrev pub handed_keys : List ℕ → List ℕ → List ℕ → List ℕ → List ℕ
handed_keys conversation packet account buffer =
    keys_for (decode_conversation conversation).phase
    (stepped_of (step_of conversation packet account buffer).answer) account

-- what the call returns (r) and leaves in the conversation, the reply buffer and the answer
pub record StepCall (conversation packet account buffer out : List ℕ) (r : ℕ)
    (conversation_after buffer_after out_after : List ℕ) : Type 0 where
  pub number : r
      ≡ numbered (step_arguments conversation account out)
      (refusal_in (step_of conversation packet account buffer).answer.kind)
  pub next : conversation_after
      ≡ after_call r (encode_conversation (step_of conversation packet account buffer).answer.next)
      conversation
  pub sent : buffer_after ≡ after_call r (step_of conversation packet account buffer).buffer buffer
  pub found : out_after
      ≡ after_call r
      (encode_answer (result_of (stepped_of (step_of conversation packet account buffer).answer))
      (handed_keys conversation packet account buffer))
      out

-- ---- what an answer tells

unfoldable pub answer_reason : List ℕ → ℕ
answer_reason answer = value_or (is_encoded_answer answer) (decode_answer answer).reason

-- 1: the reply is the last one again, and nothing was judged
unfoldable pub answer_repeated : List ℕ → ℕ
answer_repeated answer = value_or (is_encoded_answer answer) (flag (decode_answer answer).repeated)

-- what is wrong with a change that was judged, by its number; 0 is none (document 02, request
-- 2026-04 and, for version 1's change, 2026-07)
unfoldable pub answer_fault : List ℕ → ℕ
answer_fault answer =
    value_or (is_encoded_answer answer) (fault_number (decode_answer answer).fault)

unfoldable pub answer_record_arguments : List ℕ → List ℕ → Bool
answer_record_arguments answer out = is_encoded_answer answer && sized record_size out

abbrev pub AnswerRecordCall : List ℕ → List ℕ → ℕ → List ℕ → Type 0
AnswerRecordCall answer out r out_after =
    Fills (answer_record_arguments answer out) (no_record_refusal (decode_answer answer).updated)
    (record_head (decode_answer answer).updated ++ answer_keys answer) out r out_after

-- ---- what a conversation tells

unfoldable pub conversation_awaits : List ℕ → ℕ
conversation_awaits c =
    value_or (is_encoded_conversation c)
    (awaited_code (decode_conversation c).terms.change (decode_conversation c).phase)

unfoldable pub conversation_identifier : List ℕ → ℕ
conversation_identifier c = value_or (is_encoded_conversation c) (decode_conversation c).id

unfoldable pub conversation_retries : List ℕ → ℕ
conversation_retries c = value_or (is_encoded_conversation c) (decode_conversation c).retries
