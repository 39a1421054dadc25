-- `step_calls::put_stepped` meets its contract.
-- Assumes nothing.
use mathlib.Core.Bool.{Bool, cond}
use mathlib.Core.List.{List}
use mathlib.Core.Path.{◌≡◌, refl, sym, ap, ◌∙◌}
use Prim.Native.Nat.{ℕ}
use lib.ListN.{length}
use Rattle.octets.specs.Parts.{over, over_at}
use Rattle.accounts.specs.Account.{account_of}
use Rattle.layouts.specs.Call.{Fills, sized, after_call}
use Rattle.layouts.specs.Keys.{both_keys_size, encode_schedules}
use Rattle.layouts.specs.Answers.{answer_head_size, answer_size, answer_head, encode_answer}
use Rattle.authenticator.specs.declared.Conversation.{Conversation}
use Rattle.authenticator.specs.Step.{Stepped}
use Rattle.layouts.specs.Conversations.{conversation_size, encode_conversation}
use Rattle.layouts.specs.Records.{record_keys}
use Rattle.layouts.specs.declared.StepResult.{StepResult}
use Rattle.layouts.proofs.Filling.{fills_number}
use Rattle.numbers.specs.Results.{result_of}
use Rattle.numbers.proofs.FlagLaws.{made_keys}
use Rattle.authenticator.specs.Step.{taken_as}
use Rattle.authenticator.proofs.Steps.{drawn_told}
use Rattle.account_records.proofs.Laying.{both_laid, length_record_keys}
use Rattle.step_calls.proofs.put_stepped.Goals as goal

-- not refused: the next conversation is written
written : (next : Conversation) (conversation : List ℕ) {r : ℕ} {after : List ℕ}
    → length conversation ≡ conversation_size
    → Fills (sized conversation_size conversation) 0 (encode_conversation next) conversation r after
    → after ≡ encode_conversation next
written next conversation size h =
    h.bytes
    ∙ ap (λ (i : ℕ). after_call i (encode_conversation next) conversation) (fills_number size h)

-- what was laid into the answer, by the bytes of its round keys
laid : (result : StepResult) (s : Stepped) (keys out : List ℕ) {after : List ℕ}
    → result ≡ result_of s → length out ≡ answer_size → length keys ≡ both_keys_size
    → (after ≡ over_at answer_head_size keys (over (answer_head result) out))
    × (length (answer_head result) ≡ answer_head_size)
    → after ≡ encode_answer (result_of s) keys
laid result s keys out told size n (e, long) =
    both_laid (answer_head result) keys out answer_head_size both_keys_size long n size refl e
    ∙ ap (λ (v : StepResult). encode_answer v keys) told

-- the bytes of the round keys, by whether the record is handed back
abbrev keys-by : Stepped → List ℕ → Bool → List ℕ
keys-by s account t = cond t (record_keys account) (encode_schedules (account_of s.updated.entry))

pub returns-then-hands_back : goal.returns-then-hands_back
returns-then-hands_back c =
    let account = c.args.account.now in
    let s = taken_as c.args.stepped in
    let same = c.part_of-keys.ensures in
    record {
      number = sym (drawn_told c.args.stepped.drawn);
      next = written s.next c.args.conversation.now c.requires.1 c.put_conversation.ensures;
      found =
          laid c.result_of.result s _ c.args.out.now c.result_of.ensures c.requires.2
          (ap length same ∙ length_record_keys account c.requires.0) c.put_answer.ensures
          ∙ ap (encode_answer (result_of s))
          (same ∙ ap (keys-by s account) (sym c.if-hands_back.true ∙ c.hands_back.ensures));
    }

pub returns : goal.returns
returns c =
    let account = c.args.account.now in
    let s = taken_as c.args.stepped in
    let same = c.made_keys-made.ensures in
    record {
      number = sym (drawn_told c.args.stepped.drawn);
      next = written s.next c.args.conversation.now c.requires.1 c.put_conversation.ensures;
      found =
          laid c.result_of-2.result s _ c.args.out.now c.result_of-2.ensures c.requires.2
          (ap length same ∙ made_keys s.updated.entry) c.put_answer-2.ensures
          ∙ ap (encode_answer (result_of s))
          (same ∙ ap (keys-by s account) (sym c.if-hands_back.false ∙ c.hands_back.ensures));
    }
