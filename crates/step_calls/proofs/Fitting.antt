-- What a step writes is valid for the next step: the library never refuses an encoding of its own
-- as a bad argument.
-- Assumes nothing.
use Rattle.std.specs.Prelude.{Option}
use mathlib.Core.Bool.{Bool, true, false, cond}
use mathlib.Core.List.{List, ◌++◌}
use mathlib.Core.Path.{◌≡◌, refl, sym, ap, ap₂, ◌∙◌, subst}
use Prim.Native.Nat.{ℕ, suc, ◌<◌}
use native.Mathlib.Omega.{arith}
use lib.Dec.{eqb}
use lib.ListN.{length, take}
use lib.Seq.{take_all, drop_at}
use Rattle.octets.proofs.Parts.{length_part}
use Rattle.credentials.specs.Credentials.{unsealed_as, password_in}
use Rattle.credentials.proofs.Laws.{length_nt}
use Rattle.credentials.proofs.UnderChallenge.{length_from}
use Rattle.message.specs.Reasons.{password_expired, changing_password}
use Rattle.packets.specs.Response.{read_response}
use Rattle.packets.specs.Change.{read_change}
use Rattle.packets.specs.ChangeOne.{read_change_one}
use Rattle.packets.specs.declared.ChangeOne.{ChangeOne}
use Rattle.authenticator.proofs.Spends.{length_incremented}
use Rattle.accounts.specs.Account.{no_hash, hash_of, blank_entry, not_found, found, changed}
use Rattle.accounts.specs.Account.{stored_in, with_schedules, account_of, entry_of, lookup_of}
use Rattle.accounts.specs.Account.{entry_lookup_of}
use Rattle.authenticator.specs.Conversation.{ended, retried}
use Rattle.authenticator.proofs.Steps.{Case, refused, repeated, judged, case_of}
use Rattle.authenticator.proofs.Steps as steps-laws
use Rattle.authenticator.specs.Judge.{Judgement, reason_of, may_retry, reply_for, after_reason}
use Rattle.authenticator.specs.Judge.{judge_response, change_judgement, checked_for, judge_change}
use Rattle.authenticator.specs.Judge.{judge_in, judge}
use Rattle.verify.specs.Response.{counted, response_reason}
use Rattle.verify.specs.Accepted.{length_for, hash_for}
use Rattle.verify.specs.Faults.{fault_number, is_faultless}
use Rattle.verify.specs.Change.{change_fault, checked_with, checked_change}
use Rattle.verify.specs.ChangeOne.{nt_asked, over_lm, new_in, nt_fault, lm_fault, checked_nt}
use Rattle.verify.specs.ChangeOne.{checked_lm}
use Rattle.verify.specs.ChangeOne.{checked_change_one}
use Rattle.verify.specs.declared.ChangeFault.{ChangeFault}
use Rattle.verify.specs.declared.ChangeVersion.{ChangeVersion}
use Rattle.verify.specs.declared.ChangeVersion.TheVariants.{One, Two}
use Rattle.verify.specs.Change.{CheckedChange}
use Rattle.authenticator.specs.Step.{Outcome, step, refusal_in, reason_in, step_fault}
use Rattle.authenticator.specs.Step.{stepped_of, hands_back, handed_out}
use Rattle.authenticator.proofs.Carried.{handed_back}
use Rattle.authenticator.specs.Step.{Answer}
use Rattle.authenticator.specs.declared.Reply.{Reply}
use Rattle.authenticator.specs.declared.Reply.TheVariants.{Success, Failure}
use Rattle.verify.proofs.Reasons.{three_digits, response_reason_lem}
use Rattle.accounts.specs.declared.Entry.{Entry}
use Rattle.accounts.specs.declared.Hash.{Hash}
use Rattle.accounts.specs.declared.EntryLookup.{EntryLookup}
use Rattle.accounts.specs.declared.Lookup.{Lookup}
use Rattle.authenticator.specs.declared.Conversation.{Conversation}
use Rattle.authenticator.specs.declared.Phase.{Phase}
use Rattle.authenticator.specs.declared.Phase.TheVariants.{Response, Change, Ended}
use Rattle.layouts.specs.Conversations.{encode_conversation, decode_conversation}
use Rattle.layouts.specs.Conversations.{is_encoded_conversation}
use Rattle.layouts.specs.Keys.{keys_size, both_keys_size, keys_at, encode_schedules}
use Rattle.layouts.specs.Answers.{answer_head_size, answer_head, encode_answer, decode_answer}
use Rattle.layouts.specs.Answers.{answer_keys, is_encoded_answer}
use Rattle.layouts.specs.Records.{record_head_size, record_size, record_head}
use Rattle.layouts.specs.Records.{record_keys, decode_record}
use Rattle.layouts.specs.Records.{is_encoded_record}
use Rattle.layouts.specs.Call.{value_or}
use Rattle.layouts.proofs.Filling.{both, valid_call}
use Rattle.layouts.specs.declared.StepResult.{StepResult}
use Rattle.numbers.specs.Results.{result_of}
use Rattle.step_calls.specs.Calls.{step_of, step_arguments, handed_keys, StepCall, answer_fault}
use Rattle.step_calls.specs.Calls.{AnswerRecordCall}
use Rattle.layouts.proofs.RecordLaws.{SizedEntry, decoded_head_sized, record_fits}
use Rattle.layouts.proofs.RecordLaws.{length_encoded_record}
use Rattle.layouts.proofs.AnswerLaws.{decoded_answer_sized, length_result, length_encoded_answer}
use Rattle.layouts.proofs.AnswerLaws.{answer_fits, answer_back}
use Rattle.numbers.proofs.FlagLaws.{made_keys}
use Rattle.account_records.proofs.Laying.{length_record_keys, part_of_part}
use Rattle.account_records.proofs.Decoding.{record_by, keys_made}
use Rattle.layouts.proofs.ConversationLaws.{SizedConversation, conversation_fits}
use Rattle.layouts.proofs.ConversationLaws.{decoded_conversation_sized, last_reason_small}
use Rattle.layouts.proofs.ConversationLaws.{conversation_back}

-- ---- the successors keep the sizes

pub blank_sized : SizedEntry blank_entry
blank_sized = record { nt = refl; lm = refl }

choice_sized : (b : Bool) {x y : Conversation} → SizedConversation x → SizedConversation y
    → SizedConversation (cond b x y)
choice_sized true s t = s
choice_sized false s t = t

pub record SizedJudgement (d : Judgement) : Type 0 where
  pub next : SizedConversation d.next
  pub updated : SizedEntry (entry_of d.updated.account)
  pub reason : reason_of d.reply < 65536

pub record SizedAnswer (a : Answer) : Type 0 where
  pub next : SizedConversation a.next
  pub last : reason_of a.next.last.reply < 65536
  pub updated : SizedEntry (entry_of a.updated.account)
  pub reason : reason_in a.kind < 65536

-- a reply gives the reason that it was made for
reason_small : (c : Conversation) (e : ℕ) → e < 1000 → reason_of (reply_for c e) < 65536
reason_small c e h = by (eqb e 0)
  where
    by : (b : Bool) → reason_of (cond {A = Reply} b Success (Failure e (may_retry c e))) < 65536
    by true = omega arith
    by false = omega (arith, h)

-- the hashes of a checked change, of either version
record SizedChange (v : CheckedChange) : Type 0 where
  nt : length v.nt.octets ≡ 16
  lm : length v.lm.octets ≡ 16

with_sized : (fault : Option ChangeFault) (nt lm : Hash) → length nt.octets ≡ 16
    → length lm.octets ≡ 16 → SizedChange (checked_with fault nt lm)
with_sized fault nt lm h k =
    record { nt = by nt h (is_faultless fault); lm = by lm k (is_faultless fault) }
  where
    by : (x : Hash) → length x.octets ≡ 16 → (t : Bool)
        → length (cond t x no_hash).octets ≡ 16
    by x e true = e
    by x e false = refl

module _ (c : Conversation) (s : SizedConversation c) where
  ended_sized : SizedConversation (ended c)
  ended_sized = record { challenge = s.challenge; kept = blank_sized }

  retried_sized : SizedConversation (retried c)
  retried_sized = record { challenge = rw length_incremented s.challenge; kept = s.kept }

  after_sized : (a : Entry) (e : ℕ) → SizedEntry a → SizedConversation (after_reason c a e)
  after_sized a e t =
      choice_sized (may_retry c e) retried_sized
      (choice_sized (eqb e password_expired) (record { challenge = s.challenge; kept = t })
      ended_sized)

  -- ---- each hash of a checked change has sixteen bytes

  checked_whole : (v : ChangeVersion) (p : List ℕ) → SizedChange (checked_for v c p)
  unfolding checked_change checked_change_one
  checked_whole Two p =
      let f = read_change p in
      let o = unsealed_as c.kept.nt.octets f.block in
      with_sized (change_fault c.kept c.challenge f) (hash_of (hash_for c.kept f)) no_hash
      (length_nt (password_in o (length_for c.kept f))) refl
  checked_whole One p = asked (nt_asked (read_change_one p))
    where
      f : ChangeOne
      f = read_change_one p

      taken : (t : Bool) → length (cond t no_hash (new_in c.challenge f.lmnew)).octets ≡ 16
      taken true = refl
      taken false = length_from c.challenge f.lmnew

      asked : (t : Bool)
          → SizedChange (cond t (checked_nt c.kept c.challenge f)
          (checked_lm c.terms c.kept c.challenge f))
      asked true =
          with_sized (nt_fault c.kept c.challenge f) (new_in c.challenge f.ntnew)
          (cond (over_lm f) no_hash (new_in c.challenge f.lmnew))
          (length_from c.challenge f.ntnew) (taken (over_lm f))
      asked false =
          with_sized (lm_fault c.terms c.kept c.challenge f) no_hash
          (new_in c.challenge f.lmnew) refl (length_from c.challenge f.lmnew)

  change_sized : (v : CheckedChange) → SizedChange v → SizedJudgement (change_judgement c v)
  change_sized v h =
      record {
        next = ended_sized;
        updated = updated (is_faultless v.fault);
        reason = reason (is_faultless v.fault);
      }
    where
      updated : (t : Bool)
          → SizedEntry
          (entry_of (cond t (found (changed c.kept v.nt v.lm)) not_found).account)
      updated true = record { nt = h.nt; lm = h.lm }
      updated false = blank_sized

      reason : (t : Bool)
          → reason_of (cond {A = Reply} t Success (Failure changing_password false)) < 65536
      reason true = omega arith
      reason false = omega arith

  -- ---- the step

  judge_in_sized : (phase : Phase) (p : List ℕ) (l : Lookup) → SizedEntry (entry_of l.account)
      → SizedJudgement (judge_in phase c p l)
  unfolding judge_response judge_change
  judge_in_sized Response p l t =
      let f = read_response p in
      let e = response_reason c.terms c.challenge l f in
      let a = counted c.terms c.challenge l.account f in
      let whole : SizedEntry (entry_of a) = record { nt = t.nt; lm = t.lm } in
      record {
        next = after_sized (entry_of a) e whole;
        updated = whole;
        reason =
            reason_small c e (three_digits (response_reason_lem c.terms c.challenge f l));
      }
  judge_in_sized Change p l t =
      change_sized (checked_for c.terms.change c p) (checked_whole c.terms.change p)
  judge_in_sized Ended p l t = record { next = s; updated = blank_sized; reason = omega arith }

  -- a refusal and a repeat leave the conversation as it was, and a judgement keeps its own reply
  pub step_sized : reason_of c.last.reply < 65536 → (p : List ℕ) (l : Lookup) (b : List ℕ)
      → SizedEntry (entry_of l.account) → SizedAnswer (step c p l b).answer
  unfolding judge
  step_sized small p l b t = by (case_of c p l b)
    where
      Sized : Outcome → Type 0
      Sized o = SizedAnswer o.answer

      by : Case c p l b → Sized (step c p l b)
      by (refused n e) =
          subst Sized (sym e)
          (record { next = s; last = small; updated = blank_sized; reason = omega arith })
      by (repeated z r e) =
          subst Sized (sym e)
          (record { next = s; last = small; updated = blank_sized; reason = small })
      by (judged h e) =
          let d = judge_in_sized c.phase p l t in
          subst Sized (sym e)
          (record {
            next = record { challenge = d.next.challenge; kept = d.next.kept };
            last = d.reason;
            updated = d.updated;
            reason = d.reason;
          })

-- ---- the step from C

module _ (conversation packet account buffer : List ℕ)
    (valid : is_encoded_conversation conversation ≡ true)
    (whole : length account ≡ record_size) where
  abbrev done : Outcome
  done = step_of conversation packet account buffer

  abbrev told : StepResult
  told = result_of (stepped_of done.answer)

  abbrev keys : List ℕ
  keys = handed_keys conversation packet account buffer

  sizes : SizedAnswer done.answer
  sizes =
      step_sized (decode_conversation conversation) (decoded_conversation_sized conversation)
      (last_reason_small conversation valid) packet (decode_record account) buffer
      (decoded_head_sized account)

  -- as many bytes of round keys as a record has
  pub length_handed : length keys ≡ both_keys_size
  length_handed =
      which (hands_back (decode_conversation conversation).phase done.answer.kind)
    where
      which : (t : Bool) → length (cond t (record_keys account)
          (encode_schedules (account_of (entry_of done.answer.updated.account))))
          ≡ both_keys_size
      which true = length_record_keys account whole
      which false = made_keys (entry_of done.answer.updated.account)

  pub step_fits : (is_encoded_conversation (encode_conversation done.answer.next) ≡ true)
      × (is_encoded_answer (encode_answer told keys) ≡ true)
  step_fits = (
    conversation_fits done.answer.next sizes.next sizes.last,
    answer_fits told sizes.updated sizes.reason keys length_handed,
  )

  -- so the next step is made on just the conversation that this one left, its last answer too
  pub step_carries : decode_conversation (encode_conversation done.answer.next)
      ≡ done.answer.next
  step_carries = conversation_back done.answer.next sizes.next sizes.last

  -- whether it is a repeat, the reason, the fault and the record that a step's answer tells are the
  -- step's own, and so are the bytes of the round keys
  pub answer_tells : decode_answer (encode_answer told keys) ≡ told
  answer_tells = answer_back told sizes.updated sizes.reason keys

  pub answer_keys_lem : answer_keys (encode_answer told keys) ≡ keys
  answer_keys_lem =
      ap (take both_keys_size) (drop_at (answer_head told) keys answer_head_size
      (ap (λ (n : ℕ). suc (suc n)) (length_result told sizes.updated)))
      ∙ take_all both_keys_size keys (omega (arith, length_handed))

  fault_encoded : answer_fault (encode_answer told keys)
      ≡ step_fault (decode_conversation conversation) packet buffer
  unfolding answer_fault
  fault_encoded =
      ap
      (λ (t : Bool). value_or t
      (fault_number (decode_answer (encode_answer told keys)).fault))
      step_fits.1
      ∙ ap (λ (v : StepResult). fault_number v.fault) answer_tells
      ∙ (steps-laws.told (decode_conversation conversation) packet (decode_record account) buffer refl).3

  -- The record with the head and the bytes of the round keys that the step gave is decoded to just
  -- the record that the step handed out: the round keys that it was passed with, or those of its
  -- own hashes.
  pub record_decoded : decode_record (record_head told.updated ++ keys) ≡ done.answer.updated
  record_decoded =
      record_by u keys sizes.updated
      ∙ which (hands_back (decode_conversation conversation).phase done.answer.kind)
      ∙ sym (handed_back (decode_conversation conversation) packet (decode_record account) buffer)
    where
      u : EntryLookup
      u = entry_lookup_of done.answer.updated

      which : (t : Bool)
          → let k = cond t (record_keys account) (encode_schedules (account_of u.entry)) in
          lookup_of u.found (with_schedules u.entry (keys_at 0 k) (keys_at keys_size k))
          ≡ handed_out t (decode_record account).account u
      which true =
          ap₂ (λ (n m : List ℕ). lookup_of u.found (with_schedules u.entry (stored_in n)
          (stored_in m)))
          (part_of_part 0 keys_size record_head_size both_keys_size account (omega arith))
          (part_of_part keys_size keys_size record_head_size both_keys_size account (omega arith))
      which false = keys_made u.found u.entry

-- so what C gets by mschap_answer_fault, after a call of mschap_step that returned 0, is what is
-- wrong with the change that this step judged
pub fault_tells : (conversation packet account buffer out : List ℕ)
    {conversation_after buffer_after out_after : List ℕ}
    → StepCall conversation packet account buffer out 0 conversation_after buffer_after out_after
    → answer_fault out_after ≡ step_fault (decode_conversation conversation) packet buffer
unfolding step_arguments
fault_tells conversation packet account buffer out call =
    let valid = valid_call (step_arguments conversation account out)
    (refusal_in (step_of conversation packet account buffer).answer.kind) call.number in
    let h = both (is_encoded_conversation conversation) _ valid in
    ap answer_fault call.found
    ∙ fault_encoded conversation packet account buffer h.0
    (length_encoded_record account (both (is_encoded_record account) _ h.1).0)

-- the record that an answer gives is valid for the next step
pub answer_record_fits : (answer : List ℕ) → is_encoded_answer answer ≡ true
    → is_encoded_record (record_head (decode_answer answer).updated ++ answer_keys answer) ≡ true
answer_record_fits answer e =
    record_fits (decode_answer answer).updated (answer_keys answer) (decoded_answer_sized answer)
    (length_part answer_head_size both_keys_size answer (omega (arith, length_encoded_answer answer e)))

-- and what C gets by mschap_answer_record, after a call of mschap_step that returned 0, is just the
-- record that this step handed out, its count and its round keys too
pub record_tells : (conversation packet account buffer out place : List ℕ)
    {conversation_after buffer_after out_after place_after : List ℕ}
    → StepCall conversation packet account buffer out 0 conversation_after buffer_after out_after
    → AnswerRecordCall out_after place 0 place_after
    → decode_record place_after ≡ (step_of conversation packet account buffer).answer.updated
unfolding step_arguments
record_tells conversation packet account buffer out place call get =
    let stepped = (step_of conversation packet account buffer).answer in
    let arguments = valid_call (step_arguments conversation account out) (refusal_in stepped.kind)
    call.number in
    let h = both (is_encoded_conversation conversation) _ arguments in
    let whole = length_encoded_record account (both (is_encoded_record account) _ h.1).0 in
    let given : List ℕ → List ℕ =
    λ l. record_head (decode_answer l).updated ++ answer_keys l in
    ap decode_record
    (get.bytes ∙ ap given call.found
    ∙ ap₂ (λ (v : StepResult) (k : List ℕ). record_head v.updated ++ k)
    (answer_tells conversation packet account buffer h.0 whole)
    (answer_keys_lem conversation packet account buffer h.0 whole))
    ∙ record_decoded conversation packet account buffer h.0 whole
