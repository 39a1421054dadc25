-- `step_calls::step` meets its contract.
-- Assumes nothing.
use mathlib.Core.Path.{◌≡◌, refl, sym, ap, ap₂, subst, ◌∙◌}
use mathlib.Core.Bool.{Bool, cond}
use mathlib.Core.List.{List}
use Prim.Native.Nat.{ℕ}
use borrow.Author.Tests.{ne_eqb}
use Rattle.accounts.specs.Account.{stored_in}
use Rattle.accounts.specs.declared.EntryLookup.{EntryLookup}
use Rattle.accounts.specs.declared.Schedules.{Schedules}
use Rattle.packets.specs.Response.{read_response}
use Rattle.verify.specs.Response.{uses_nt, judging_keys, carrying_lookup}
use Rattle.authenticator.specs.Admit.{step_refusal}
use Rattle.std.specs.Prelude.{Err}
use Rattle.refusals.specs.Refusal.{number, told}
use Rattle.refusals.specs.declared.Refusal.{Refusal}
use Rattle.refusals.proofs.Numbers.{number_some}
use Rattle.authenticator.specs.Step.{Outcome, step, refusal_in, stepped_as}
use Rattle.authenticator.specs.declared.Phase.{Phase}
use Rattle.authenticator.specs.declared.Conversation.{Conversation}
use Rattle.authenticator.specs.Step.{Stepped}
use Rattle.authenticator.proofs.Carried.{Seen, seen_of}
use Rattle.authenticator.proofs.Steps.{number_step}
use Rattle.layouts.specs.Call.{numbered}
use Rattle.layouts.specs.Conversations.{decode_conversation}
use Rattle.layouts.specs.Keys.{keys_at}
use Rattle.layouts.specs.Records.{nt_keys_at, lm_keys_at, decode_head, decode_record}
use Rattle.step_calls.specs.Calls.{step_of, step_arguments}
use Rattle.step_calls.specs.Inner.{AnswerPut, step_arguments_as}
use Rattle.step_calls.proofs.Calling.{step_sizes, step_arguments_lem, keys_read, step_called}
use Rattle.step_calls.proofs.step.Goals as goal

-- The arguments are tested by one function, the step is taken on what they decode to, and its
-- answer is put into the caller's buffers: Calling says what that makes the call return and
-- leave.
pub put_stepped-requires : goal.put_stepped-requires
put_stepped-requires c =
    let a = c.args in
    let tested : c.are_step_arguments.result
    ≡ step_arguments a.conversation.now a.account.now a.answer.now =
    c.are_step_arguments.ensures
    ∙ ap₂ (λ (v : Conversation) (l : EntryLookup). step_arguments_as v l a.conversation.now
    a.account.now a.answer.now)
    c.decode_conversation-before.ensures c.decode_head-lookup.ensures
    ∙ step_arguments_lem a.conversation.now a.account.now a.answer.now in
    let valid = sym tested ∙ c.if-not-are_step_arguments.false in
    step_sizes a.conversation.now a.account.now a.answer.now valid

-- the arguments are not valid
pub returns-then-not-are_step_arguments : goal.returns-then-not-are_step_arguments
returns-then-not-are_step_arguments c =
    let a = c.args in
    let tested : c.are_step_arguments.result
    ≡ step_arguments a.conversation.now a.account.now a.answer.now =
    c.are_step_arguments.ensures
    ∙ ap₂ (λ (v : Conversation) (l : EntryLookup). step_arguments_as v l a.conversation.now
    a.account.now a.answer.now)
    c.decode_conversation-before.ensures c.decode_head-lookup.ensures
    ∙ step_arguments_lem a.conversation.now a.account.now a.answer.now in
    let bad = sym tested ∙ c.if-not-are_step_arguments.true in
    record {
      number = sym (ap (λ (t : Bool). numbered t (refusal_in (step_of a.conversation.now
          a.packet.now a.account.now a.reply.now).answer.kind)) bad);
      next = refl;
      sent = refl;
      found = refl;
    }

-- they are valid, and the packet is refused
pub returns-in-Err : goal.returns-in-Err
returns-in-Err c =
    let a = c.args in
    let tested : c.are_step_arguments.result
    ≡ step_arguments a.conversation.now a.account.now a.answer.now =
    c.are_step_arguments.ensures
    ∙ ap₂ (λ (v : Conversation) (l : EntryLookup). step_arguments_as v l a.conversation.now
    a.account.now a.answer.now)
    c.decode_conversation-before.ensures c.decode_head-lookup.ensures
    ∙ step_arguments_lem a.conversation.now a.account.now a.answer.now in
    let valid = sym tested ∙ c.if-not-are_step_arguments.false in
    let packet = a.packet.now in
    let account = a.account.now in
    let reply = a.reply.now in
    let before = c.decode_conversation-before.ensures in
    let some = ne_eqb _ 0 (number_some c.in-Err.refusal) in
    let refusal = c.refused.ensures ∙ sym (ap told c.in-Err.is) ∙ c.admits.ensures
    ∙ ap (λ (v : Conversation). step_refusal v packet reply) before
    ∙ sym (number_step (decode_conversation a.conversation.now) packet (decode_record account)
    reply) in
    record {
      number = refusal ∙ sym (ap (λ (t : Bool). numbered t (refusal_in (step_of
          a.conversation.now packet account reply).answer.kind)) valid);
      next = simp (c.refused.ensures, some);
      sent = simp (c.refused.ensures, some);
      found = simp (c.refused.ensures, some);
    }

ap_put : {v w : Conversation} {s : Stepped} {account conversation out : List ℕ} {r : ℕ}
    {conversation_after out_after : List ℕ} → v ≡ w
    → AnswerPut v.phase s account conversation out r conversation_after out_after
    → AnswerPut w.phase s account conversation out r conversation_after out_after
ap_put {s = s} {account = m} {conversation = c} {out = o} {r = r} {conversation_after = d}
    {out_after = u} e p =
    subst (λ (x : Conversation). AnswerPut x.phase s m c o r d u) e p

-- an answer that is refused leaves the caller's buffers alone
put_none : (ph : Phase) (v : Conversation) (f : Refusal) {account conversation out : List ℕ} {r : ℕ}
    → r ≡ number f
    → AnswerPut ph (stepped_as v (Err f)) account conversation out r conversation out
put_none ph v f e =
    let some = ne_eqb _ 0 (number_some f) in
    record { number = e; next = simp (e, some); found = simp (e, some) }

-- it is not refused
pub returns-in-Ok : goal.returns-in-Ok
returns-in-Ok c =
    let a = c.args in
    let tested : c.are_step_arguments.result
    ≡ step_arguments a.conversation.now a.account.now a.answer.now =
    c.are_step_arguments.ensures
    ∙ ap₂ (λ (v : Conversation) (l : EntryLookup). step_arguments_as v l a.conversation.now
    a.account.now a.answer.now)
    c.decode_conversation-before.ensures c.decode_head-lookup.ensures
    ∙ step_arguments_lem a.conversation.now a.account.now a.answer.now in
    let valid = sym tested ∙ c.if-not-are_step_arguments.false in
    let packet = a.packet.now in
    let account = a.account.now in
    let reply = a.reply.now in
    let before = c.decode_conversation-before.ensures in
    let lookup = c.decode_head-lookup.ensures in
    let read : stored_in c.part_of-keys.result.now ≡ judging_keys (decode_record account).account
    (read_response packet) =
    ap stored_in c.part_of-keys.ensures
    ∙ ap (λ (n : ℕ). keys_at n account) (c.judging_at-at.ensures
    ∙ ap₂ (λ (n : ℕ) (l : EntryLookup). cond (uses_nt n l.entry.nt) nt_keys_at lm_keys_at)
    c.octet.ensures lookup)
    ∙ keys_read packet account in
    let done : Conversation → EntryLookup → Schedules → Outcome =
    λ v l s. step v packet (carrying_lookup l s) reply in
    let seen = ap₂ (λ (v : Conversation) (l : EntryLookup).
    seen_of (done v l (stored_in c.part_of-keys.result.now))) before lookup
    ∙ ap (λ (s : Schedules). seen_of (done (decode_conversation a.conversation.now)
    (decode_head account) s)) read in
    let e = c.step_by.ensures in
    let s = c.in-Ok.stepped in
    let v = c.decode_conversation-before.result in
    step_called a.conversation.now packet account reply a.answer.now valid
    (sym seen ∙ sym (ap₂ (λ (s : Stepped) (b : List ℕ).
    let x : Seen = record { stepped = s; buffer = b } in x)
    (sym (ap (stepped_as v) c.in-Ok.is) ∙ e.0) e.1))
    (ap_put before c.put_stepped.ensures)

-- (The step does not refuse what was admitted; if it did, all would be left as it was.)
pub returns-in-Err-step_by : goal.returns-in-Err-step_by
returns-in-Err-step_by c =
    let a = c.args in
    let tested : c.are_step_arguments.result
    ≡ step_arguments a.conversation.now a.account.now a.answer.now =
    c.are_step_arguments.ensures
    ∙ ap₂ (λ (v : Conversation) (l : EntryLookup). step_arguments_as v l a.conversation.now
    a.account.now a.answer.now)
    c.decode_conversation-before.ensures c.decode_head-lookup.ensures
    ∙ step_arguments_lem a.conversation.now a.account.now a.answer.now in
    let valid = sym tested ∙ c.if-not-are_step_arguments.false in
    let packet = a.packet.now in
    let account = a.account.now in
    let reply = a.reply.now in
    let before = c.decode_conversation-before.ensures in
    let lookup = c.decode_head-lookup.ensures in
    let read : stored_in c.part_of-keys.result.now ≡ judging_keys (decode_record account).account
    (read_response packet) =
    ap stored_in c.part_of-keys.ensures
    ∙ ap (λ (n : ℕ). keys_at n account) (c.judging_at-at.ensures
    ∙ ap₂ (λ (n : ℕ) (l : EntryLookup). cond (uses_nt n l.entry.nt) nt_keys_at lm_keys_at)
    c.octet.ensures lookup)
    ∙ keys_read packet account in
    let done : Conversation → EntryLookup → Schedules → Outcome =
    λ v l s. step v packet (carrying_lookup l s) reply in
    let seen = ap₂ (λ (v : Conversation) (l : EntryLookup).
    seen_of (done v l (stored_in c.part_of-keys.result.now))) before lookup
    ∙ ap (λ (s : Schedules). seen_of (done (decode_conversation a.conversation.now)
    (decode_head account) s)) read in
    let e = c.step_by.ensures in
    let f = c.in-Err-step_by.refusal in
    let v = c.decode_conversation-before.result in
    step_called a.conversation.now packet account reply a.answer.now valid
    (sym seen ∙ sym (ap₂ (λ (s : Stepped) (b : List ℕ).
    let x : Seen = record { stepped = s; buffer = b } in x)
    (sym (ap (stepped_as v) c.in-Err-step_by.is) ∙ e.0) e.1))
    (put_none (decode_conversation a.conversation.now).phase v f c.refused-in-Err-step_by.ensures)
