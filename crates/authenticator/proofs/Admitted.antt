-- A packet is admitted to judgement exactly where it passes every check; a repeat passes the first
-- two.
-- Assumes nothing.
use mathlib.Core.Bool.{Bool, true, false, cond, not, ◌&&◌, and-false}
use mathlib.Core.List.{List}
use mathlib.Core.Path.{◌≡◌, refl, sym, ap, ◌∙◌}
use Prim.Native.Nat.{ℕ, ◌≤◌}
use native.Mathlib.Omega.{arith}
use borrow.Author.Tests.{le-ltb, ltb-false, eq-eqb, eqb-true, not-false}
use lib.Dec.{eqb}
use lib.ListN.{length}
use Rattle.refusals.proofs.Laws.{none_refused}
use Rattle.packets.specs.Frame.{octet, bad_frame, bad_id}
use Rattle.packets.specs.Reply.{longest_reply, bad_reply_buffer}
use Rattle.authenticator.specs.Conversation.{awaited_code, is_ended}
use Rattle.authenticator.specs.Admit.{is_repeat, bad_code, body_refusal, refusal_for, step_refusal}
use Rattle.authenticator.specs.declared.Conversation.{Conversation}

-- what a packet and a buffer need to draw any reply
pub record Readable (p b : List ℕ) : Type 0 where
  pub room : longest_reply ≤ length b
  pub frame : bad_frame p ≡ false

-- and what they need to be judged
pub record Passes (c : Conversation) (p b : List ℕ) : Type 0 where
  pub readable : Readable p b
  pub fresh : is_repeat c.last p ≡ false
  pub live : is_ended c.phase ≡ false
  pub code : octet 0 p ≡ awaited_code c.terms.change c.phase
  pub id : octet 1 p ≡ c.id
  pub body : body_refusal c.terms.change c.phase p ≡ 0

-- six tests and the body's
pass : (t₁ t₂ t₃ t₄ t₅ t₆ : Bool) (n : ℕ)
    → t₁ ≡ false → t₂ ≡ false → t₃ ≡ false → t₄ ≡ false → t₅ ≡ false → t₆ ≡ false → n ≡ 0
    → ◌≡◌ {A = ℕ} (cond t₁ 2 (cond t₂ 3 (cond t₃ 0 (cond t₄ 1 (cond t₅ 4 (cond t₆ 5 n)))))) 0
pass t₁ t₂ t₃ t₄ t₅ t₆ n h₁ h₂ h₃ h₄ h₅ h₆ e = rw (h₁, h₂, h₃, h₄, h₅, h₆, e)

-- a repeat is not refused where the first two tests are passed
pass_repeat : (t₁ t₂ t₃ : Bool) (n : ℕ) → t₁ ≡ false → t₂ ≡ false → t₃ ≡ true
    → ◌≡◌ {A = ℕ} (cond t₁ 2 (cond t₂ 3 (cond t₃ 0 n))) 0
pass_repeat t₁ t₂ t₃ n h₁ h₂ h₃ = rw (h₁, h₂, h₃)

-- the first two tests and the repeat, against the whole chain: it is seen to be a repeat exactly
-- where it is not refused and is one
seen_repeat : (t₁ t₂ t₃ : Bool) (n : ℕ)
    → (not t₁ && (not t₂ && t₃)) ≡ (eqb (cond t₁ 2 (cond t₂ 3 (cond t₃ 0 n))) 0 && t₃)
seen_repeat true t₂ t₃ n = refl
seen_repeat false true t₃ n = refl
seen_repeat false false true n = refl
seen_repeat false false false n = sym (and-false (eqb n 0))

module _ (c : Conversation) (p b : List ℕ) where
  pub passes : Passes c p b → step_refusal c p b ≡ 0
  unfolding refusal_for
  passes h =
      pass (bad_reply_buffer b) (bad_frame p) (is_repeat c.last p) (is_ended c.phase)
      (bad_code c.terms.change c.phase p) (bad_id c.id p) (body_refusal c.terms.change
      c.phase p)
      (le-ltb (length b) longest_reply h.readable.room) h.readable.frame h.fresh
      h.live (ap not (eq-eqb (octet 0 p) (awaited_code c.terms.change c.phase) h.code))
      (ap not (eq-eqb (octet 1 p) c.id h.id)) h.body

  pub repeat_passes : Readable p b → is_repeat c.last p ≡ true → step_refusal c p b ≡ 0
  unfolding refusal_for
  repeat_passes h r =
      pass_repeat (bad_reply_buffer b) (bad_frame p) (is_repeat c.last p) _
      (le-ltb (length b) longest_reply h.room) h.frame r

  pub readable_by : (t : Bool) → refusal_for t c p b ≡ 0 → Readable p b
  unfolding refusal_for
  readable_by t e =
      let two = none_refused (bad_reply_buffer b) (omega arith) e in
      let three = none_refused (bad_frame p) (omega arith) two.1 in
      record { room = ltb-false (length b) longest_reply two.0; frame = three.0 }

  pub passed : step_refusal c p b ≡ 0 → is_repeat c.last p ≡ false → Passes c p b
  unfolding refusal_for
  passed e fresh =
      let two = none_refused (bad_reply_buffer b) (omega arith) e in
      let three = none_refused (bad_frame p) (omega arith) two.1 in
      let rest = sym (ap (λ (t : Bool). cond t 0 (cond (is_ended c.phase) 1
      (cond (bad_code c.terms.change c.phase p) 4 (cond (bad_id c.id p) 5 (body_refusal
      c.terms.change c.phase p))))) fresh)
      ∙ three.1 in
      let one = none_refused (is_ended c.phase) (omega arith) rest in
      let four = none_refused (bad_code c.terms.change c.phase p) (omega arith) one.1 in
      let five = none_refused (bad_id c.id p) (omega arith) four.1 in
      record {
        readable = record { room = ltb-false (length b) longest_reply two.0; frame = three.0 };
        fresh = fresh;
        live = one.0;
        code = eqb-true (octet 0 p) (awaited_code c.terms.change c.phase) (not-false _
            four.0);
        id = eqb-true (octet 1 p) c.id (not-false _ five.0);
        body = five.1;
      }

  -- what is seen of the packet and the buffer, and the refusal, say the same of a repeat
  pub repeat_seen : (t : Bool)
      → (not (bad_reply_buffer b) && (not (bad_frame p) && t)) ≡ (eqb (refusal_for t c p b) 0 && t)
  unfolding refusal_for
  repeat_seen t = seen_repeat (bad_reply_buffer b) (bad_frame p) t _
