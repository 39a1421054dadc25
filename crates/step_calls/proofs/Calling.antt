-- What a step returns and leaves, from what the functions that it calls do.
-- Assumes nothing.
use mathlib.Core.Path.{◌≡◌, refl, sym, ap, subst, ◌∙◌}
use mathlib.Core.Bool.{Bool, true, false, cond}
use mathlib.Core.List.{List}
use Prim.Native.Nat.{ℕ}
use borrow.Author.Tests.{eqb-true, ne_eqb}
use lib.ListN.{length}
use Rattle.authenticator.specs.Admit.{step_refusal}
use Rattle.authenticator.specs.Step.{Outcome, step, refusal_in, stepped_of}
use Rattle.authenticator.specs.Step.{Stepped}
use Rattle.authenticator.proofs.Carried.{Seen, seen_of, read_only, same_read}
use Rattle.authenticator.specs.declared.Conversation.{Conversation}
use Rattle.authenticator.proofs.Steps.{Case, refused, repeated, judged, case_of}
use Rattle.accounts.specs.declared.Lookup.{Lookup}
use Rattle.layouts.specs.Call.{sized, numbered, after_call}
use Rattle.layouts.specs.Answers.{answer_size, encode_answer}
use Rattle.layouts.specs.Conversations.{conversation_size, encode_conversation, decode_conversation}
use Rattle.layouts.specs.Conversations.{is_encoded_conversation}
use Rattle.layouts.specs.Keys.{keys_at}
use Rattle.layouts.specs.Records.{record_size, nt_keys_at, lm_keys_at, decode_head, decode_record}
use Rattle.layouts.specs.Records.{is_encoded_record}
use Rattle.layouts.proofs.Filling.{both}
use Rattle.layouts.proofs.ConversationLaws.{length_encoded_conversation}
use Rattle.layouts.proofs.RecordLaws.{length_encoded_record}
use Rattle.packets.specs.Frame.{octet}
use Rattle.packets.specs.Response.{read_response}
use Rattle.packets.specs.Sizes.{flag_offset}
use Rattle.verify.specs.Response.{uses_nt, judging_keys}
use Rattle.numbers.specs.Results.{result_of}
use Rattle.step_calls.specs.Calls.{step_of, step_arguments, keys_for, StepCall}
use Rattle.step_calls.specs.Inner.{AnswerPut, step_arguments_as}

-- valid arguments have the right sizes
pub step_sizes : (conversation account out : List ℕ) → step_arguments conversation account out ≡ true
    → (length account ≡ record_size) × (length conversation ≡ conversation_size)
    × (length out ≡ answer_size)
unfolding step_arguments
step_sizes conversation account out e =
    let h = both (is_encoded_conversation conversation) _ e in
    let k = both (is_encoded_record account) (sized answer_size out) h.1 in (
      length_encoded_record account k.0,
      length_encoded_conversation conversation h.0,
      eqb-true (length out) answer_size k.1,
    )

-- they are tested by what they decode to
pub step_arguments_lem : (conversation account out : List ℕ)
    → step_arguments_as (decode_conversation conversation) (decode_head account) conversation account out
    ≡ step_arguments conversation account out
unfolding step_arguments is_encoded_conversation is_encoded_record
step_arguments_lem conversation account out = refl

-- the round keys that are decoded are those that the step reads
pub keys_read : (packet account : List ℕ) → let nt = (decode_head account).entry.nt in
    keys_at (cond (uses_nt (octet flag_offset packet) nt) nt_keys_at lm_keys_at) account
    ≡ judging_keys (decode_record account).account (read_response packet)
keys_read packet account = which (uses_nt (octet flag_offset packet) (decode_head account).entry.nt)
  where
    which : (t : Bool) → keys_at (cond t nt_keys_at lm_keys_at) account
        ≡ cond t (keys_at nt_keys_at account) (keys_at lm_keys_at account)
    which true = refl
    which false = refl

-- a refused packet leaves the buffer alone
step_kept : (c : Conversation) (p : List ℕ) (l : Lookup) (b : List ℕ)
    → (step c p l b).buffer ≡ after_call (refusal_in (step c p l b).answer.kind)
    (step c p l b).buffer b
step_kept c p l b = by (case_of c p l b)
  where
    Kept : Outcome → Type 0
    Kept o = o.buffer ≡ after_call (refusal_in o.answer.kind) o.buffer b

    by : Case c p l b → Kept (step c p l b)
    by (refused n e) = subst Kept (sym e) (rw (ne_eqb (step_refusal c p b) 0 n))
    by (repeated z r e) = subst Kept (sym e) refl
    by (judged h e) = subst Kept (sym e) refl

module _ (conversation packet account buffer out : List ℕ)
    (valid : step_arguments conversation account out ≡ true) where
  abbrev done : Outcome
  done = step_of conversation packet account buffer

  -- the step answered by the round keys that it reads, and its answer was put into the caller's
  -- buffers
  pub step_called : {s : Stepped} {r : ℕ} {conversation_after buffer_after out_after : List ℕ}
      → seen_of (step (decode_conversation conversation) packet
      (read_only (decode_record account) packet) buffer)
      ≡ record { stepped = s; buffer = buffer_after }
      → AnswerPut (decode_conversation conversation).phase s account conversation out r
      conversation_after out_after
      → StepCall conversation packet account buffer out r conversation_after buffer_after out_after
  step_called {s} {r} e put =
      let c = decode_conversation conversation in
      let l = decode_record account in
      let seen = same_read c packet buffer l ∙ e in
      let told : s ≡ stepped_of done.answer = sym (ap (λ (x : Seen). x.stepped) seen) in
      let number : r ≡ refusal_in done.answer.kind =
      put.number ∙ ap (λ (v : Stepped). refusal_in v.kind) told in
      let kept = step_kept c packet l buffer in
      record {
        number = number ∙ sym (ap (λ (t : Bool). numbered t (refusal_in done.answer.kind))
            valid);
        next =
            put.next
            ∙ ap (λ (v : Stepped). after_call r (encode_conversation v.next) conversation) told;
        sent = sym (ap (λ (x : Seen). x.buffer) seen) ∙ kept
            ∙ ap (λ (i : ℕ). after_call i done.buffer buffer) (sym number);
        found = put.found
            ∙ ap (λ (v : Stepped). after_call r (encode_answer (result_of v)
            (keys_for c.phase v account)) out) told;
      }
