-- `authenticator::Conversation::step_by` meets its contract: refused; the last answer again; or judged
-- and the reply written.
-- Assumes nothing.
use mathlib.Core.Bool.{Bool}
use mathlib.Core.List.{List}
use mathlib.Core.Logic.{◌≢◌}
use mathlib.Core.Path.{◌≡◌, sym, ap, ap₂, ◌∙◌}
use Prim.Native.Nat.{ℕ}
use lib.ListN.{length}
use Rattle.accounts.specs.declared.Lookup.{Lookup}
use Rattle.packets.specs.Frame.{written_over}
use Rattle.accounts.specs.Account.{stored_in}
use Rattle.verify.specs.Response.{carrying_lookup}
use Rattle.authenticator.specs.Conversation.{answer_with, with_last}
use Rattle.authenticator.specs.Admit.{refusal_for, step_refusal}
use Rattle.authenticator.specs.Judge.{verdict_of, reason_of, judge}
use Rattle.authenticator.specs.Encode.{reply_packet}
use Rattle.authenticator.specs.Step.{Outcome, stepped_of}
use Rattle.authenticator.specs.Step.{Stepped}
use Rattle.authenticator.specs.declared.Conversation.{Conversation}
use Rattle.authenticator.specs.declared.Verdict.{Verdict}
use Rattle.authenticator.specs.Step.{Refused, Judged}
use Rattle.refusals.proofs.Passed.{passed_on}
use Rattle.refusals.specs.Refusal.{number, told}
use Rattle.refusals.proofs.Numbers.{number_some}
use Rattle.authenticator.specs.Step.{stepped_as, unjudged}
use Rattle.authenticator.proofs.Admitted.{passed, readable_by}
use Rattle.authenticator.proofs.Steps.{judged_step, repeated_step, refused_step}
use Rattle.authenticator.proofs.Written.{reply_fits, written_whole}
use Rattle.authenticator.proofs.Conversation.step_by.Goals as goal

-- an answer by a judgement, the next conversation, the number of octets written and the reason
abbrev answer : Verdict → Conversation → ℕ → ℕ → Stepped
answer j c n e =
    record { kind = Judged e; fault = j.fault; next = c; written = n; updated = j.updated }

-- ---- refused
pub returns-in_err-admit : goal.returns-in_err-admit
returns-in_err-admit c =
    let a = c.args in
    let p = a.packet.now in
    let b = a.reply.now in
    -- the record that is passed: the round keys stand beside either hash
    let l : Lookup = carrying_lookup a.lookup (stored_in a.keys.now) in
    -- the refusal, which is passed on
    let r = c.in_err-admit.field-0.0 in
    let refusal-told : number r ≡ step_refusal a.self p b =
    sym (ap told c.in_err-admit.was) ∙ c.admit.ensures
    ∙ ap (λ (t : Bool). refusal_for t a.self p b) c.is_repeat-repeated.ensures in
    let some : step_refusal a.self p b ≢ 0 = λ e. number_some r (refusal-told ∙ e) in
    let whole = refused_step a.self p l b some in (
      ap (stepped_as a.self) (passed_on c.from_residual.result c.from_residual.ensures.1)
          ∙ ap (λ (n : ℕ). stepped_of (unjudged (Refused n) a.self 0)) refusal-told
          ∙ sym (ap (λ (o : Outcome). stepped_of o.answer) whole),
      sym (ap (λ (o : Outcome). o.buffer) whole),
    )

-- ---- the last answer again
pub repeat-requires : goal.repeat-requires
repeat-requires c =
    let a = c.args in
    let p = a.packet.now in
    let b = a.reply.now in
    -- the record that is passed: the round keys stand beside either hash
    let l : Lookup = carrying_lookup a.lookup (stored_in a.keys.now) in
    -- whether the packet is a repeat, and the refusal
    let repeat-told = c.is_repeat-repeated.ensures in
    let refusal-told : told c.admit.result ≡ step_refusal a.self p b =
    c.admit.ensures ∙ ap (λ (t : Bool). refusal_for t a.self p b) repeat-told in
    let none = sym refusal-told ∙ ap told c.in_ok-admit.was in
    (readable_by a.self _ _ _ none).room

pub returns-then-repeated : goal.returns-then-repeated
returns-then-repeated c =
    let a = c.args in
    let p = a.packet.now in
    let b = a.reply.now in
    -- the record that is passed: the round keys stand beside either hash
    let l : Lookup = carrying_lookup a.lookup (stored_in a.keys.now) in
    -- whether the packet is a repeat, and the refusal
    let repeat-told = c.is_repeat-repeated.ensures in
    let refusal-told : told c.admit.result ≡ step_refusal a.self p b =
    c.admit.ensures ∙ ap (λ (t : Bool). refusal_for t a.self p b) repeat-told in
    let none = sym refusal-told ∙ ap told c.in_ok-admit.was in
    let whole = repeated_step a.self p l b none (sym repeat-told ∙ c.if-repeated.true) in (
      c.repeat.ensures.0 ∙ sym (ap (λ (o : Outcome). stepped_of o.answer) whole),
      c.repeat.ensures.1 ∙ sym (ap (λ (o : Outcome). o.buffer) whole),
    )

-- ---- judged
pub returns : goal.returns
returns c =
    let a = c.args in
    let p = a.packet.now in
    let b = a.reply.now in
    -- the record that is passed: the round keys stand beside either hash
    let l : Lookup = carrying_lookup a.lookup (stored_in a.keys.now) in
    -- whether the packet is a repeat, and the refusal
    let repeat-told = c.is_repeat-repeated.ensures in
    let refusal-told : told c.admit.result ≡ step_refusal a.self p b =
    c.admit.ensures ∙ ap (λ (t : Bool). refusal_for t a.self p b) repeat-told in
    let none = sym refusal-told ∙ ap told c.in_ok-admit.was in
    let ok = passed a.self p b none (sym repeat-told ∙ c.if-repeated.false) in
    let judgement = verdict_of (judge a.self p l) in
    let reply = reply_packet a.self.terms a.self.id judgement.reply in
    let same = ap (λ (x : Verdict). reply_packet a.self.terms a.self.id x.reply)
    c.judge-judged.ensures in
    let whole = judged_step a.self p l b ok in
    let reason : c.reason_of-reason.result ≡ reason_of judgement.reply =
    c.reason_of-reason.ensures ∙ ap (λ (x : Verdict). reason_of x.reply) c.judge-judged.ensures in
    let next : c.with_last-next.result ≡ with_last (answer_with a.self judgement.reply)
    judgement.next =
    c.with_last-next.ensures
    ∙ ap₂ with_last (c.answer_with-answer.ensures ∙ ap (λ (x : Verdict). answer_with a.self
    x.reply) c.judge-judged.ensures)
    (ap (λ (x : Verdict). x.next) c.judge-judged.ensures) in
    let written : c.write_reply-written.result ≡ length reply =
    c.write_reply-written.ensures.0
    ∙ written_whole _ b (reply_fits a.self.terms a.self.id c.judge-judged.result.reply)
    ok.readable.room
    ∙ ap length same in (
      ap (λ (x : Verdict). answer x c.with_last-next.result c.write_reply-written.result
          c.reason_of-reason.result) c.judge-judged.ensures
          ∙ ap (λ (x : Conversation). answer judgement x c.write_reply-written.result
          c.reason_of-reason.result) next
          ∙ ap₂ (answer judgement (with_last (answer_with a.self judgement.reply)
          judgement.next)) written reason
          ∙ sym (ap (λ (o : Outcome). stepped_of o.answer) whole),
      c.write_reply-written.ensures.1 ∙ ap (λ (r : List ℕ). written_over r b) same
          ∙ sym (ap (λ (o : Outcome). o.buffer) whole),
    )
