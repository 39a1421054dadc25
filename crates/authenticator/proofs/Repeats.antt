-- The law of repeats: once a packet was answered, any packet with its code and identifier, room and
-- a good frame draws the same reply, whatever else is in it and whatever record is passed, and
-- leaves the conversation as it was. And no packet that was answered is judged again right behind
-- it.
-- Assumes nothing.
use mathlib.Core.Bool.{Bool, true, false, not, ◌&&◌, false≢true}
use mathlib.Core.Logic.{◌≢◌}
use mathlib.Core.List.{List}
use mathlib.Core.Path.{◌≡◌, refl, sym, ap, ap₂, ◌∙◌, subst}
use Prim.Native.Nat.{ℕ}
use borrow.Author.Tests.{eq-eqb, ne_eqb, eqb-true}
use lib.Dec.{eqb}
use Rattle.packets.specs.Frame.{octet}
use Rattle.authenticator.specs.Admit.{is_repeat, step_refusal}
use Rattle.authenticator.specs.Judge.{judge}
use Rattle.authenticator.specs.Encode.{reply_packet}
use Rattle.authenticator.specs.Step.{Outcome, repeated_as}
use Rattle.authenticator.specs.Steps.{StepInput, step_on, reply_of, BoxState, next_after}
use Rattle.authenticator.specs.Steps.{refusal_at, is_judged, next_state}
use Rattle.authenticator.specs.Repeats.{Again, Drawn}
use Rattle.verify.specs.declared.Terms.{Terms}
use Rattle.authenticator.specs.declared.Conversation.{Conversation}
use Rattle.authenticator.proofs.Admitted.{passes, readable_by, repeat_passes}
use Rattle.authenticator.proofs.Seen.{Tracks, judged_exactly, tracks_next}
use Rattle.authenticator.proofs.Steps.{Case, refused, repeated, judged, case_of, number_step}
use Rattle.authenticator.proofs.Steps.{repeated_step, reply_of_lem, repeated_reply}
use Rattle.authenticator.proofs.Terms.{judge_terms}

-- ---- what was answered is what is kept

-- the last answer is the reply to a packet
pub record Keeps (c : Conversation) (p reply : List ℕ) : Type 0 where
  pub present : c.last.present ≡ true
  pub code : c.last.code ≡ octet 0 p
  pub id : c.last.id ≡ octet 1 p
  pub drawn : reply_packet c.terms c.last.id c.last.reply ≡ reply

pub all_three : (s t u : Bool) → (s && (t && u)) ≡ true → (s ≡ true) × (t ≡ true) × (u ≡ true)
all_three true true true e = (e, e, e)
all_three true true false e = absurd (false≢true e)
all_three true false u e = absurd (false≢true e)
all_three false t u e = absurd (false≢true e)

module _ (c : Conversation) (s : StepInput) (ok : refusal_at step_on c s ≡ 0) where
  pub answered : Keeps (next_after step_on c s) s.packet (reply_of (step_on c s))
  answered = which (case_of c s.packet s.account s.buffer)
    where
      number : refusal_at step_on c s ≡ step_refusal c s.packet s.buffer
      number = number_step c s.packet s.account s.buffer

      which : Case c s.packet s.account s.buffer
          → Keeps (next_after step_on c s) s.packet (reply_of (step_on c s))
      which (refused n e) = absurd (n (sym number ∙ ok))
      which (repeated z r e) =
          let a = all_three c.last.present _ _ r in
          let b = readable_by c s.packet s.buffer (is_repeat c.last s.packet) z in
          subst (λ (o : Outcome). Keeps o.answer.next s.packet (reply_of o)) (sym e)
          (record {
            present = a.0;
            code = sym (eqb-true (octet 0 s.packet) c.last.code a.1);
            id = sym (eqb-true (octet 1 s.packet) c.last.id a.2);
            drawn = sym (repeated_reply c s.buffer b.room);
          })
      which (judged h e) =
          let j = judge c s.packet s.account in
          subst (λ (o : Outcome). Keeps o.answer.next s.packet (reply_of o)) (sym e)
          (record {
            present = refl;
            code = sym h.code;
            id = sym h.id;
            drawn = ap (λ (t : Terms). reply_packet t c.id j.reply)
                (judge_terms c s.packet s.account)
                ∙ sym (reply_of_lem c j s.buffer h.readable.room);
          })

-- ---- and is drawn again

kept_repeat : {c : Conversation} {p reply : List ℕ} (q : List ℕ) → Keeps c p reply
    → octet 0 q ≡ octet 0 p → octet 1 q ≡ octet 1 p → is_repeat c.last q ≡ true
kept_repeat {c} q k code id =
    ap₂ (λ (x y : Bool). x && y) k.present
    (ap₂ (λ (x y : Bool). x && y) (eq-eqb (octet 0 q) c.last.code (code ∙ sym k.code))
    (eq-eqb (octet 1 q) c.last.id (id ∙ sym k.id)))

pub repeats_again : (c : Conversation) {reply : List ℕ} (s t : StepInput)
    → Keeps c s.packet reply → Again s t
    → step_on c t ≡ repeated_as c t.buffer
repeats_again c s t k a =
    let r = kept_repeat t.packet k a.code a.id in
    repeated_step c t.packet t.account t.buffer
    (repeat_passes c t.packet t.buffer (record { room = a.room; frame = a.frame }) r) r

pub drawn_again : (c : Conversation) (reply : List ℕ) (s t : StepInput)
    → Keeps c s.packet reply → Again s t → Drawn reply c t
drawn_again c reply s t k a =
    let e = repeats_again c s t k a in (
      ap reply_of e ∙ repeated_reply c t.buffer a.room ∙ k.drawn,
      ap (λ (o : Outcome). o.answer.next) e,
      ap (λ (o : Outcome). o.answer.updated.found) e,
    )

-- ---- a packet given again is not judged

not_both : (x y : Bool) → y ≡ true → (x && not (x && y)) ≡ false
not_both true y h = ap not h
not_both false y h = refl

module _ (p : BoxState) (s t : StepInput) (kept : Tracks p) where
  abbrev c : Conversation
  c = p.conversation

  abbrev n : Conversation
  n = next_after step_on c s

  -- after an answer, whatever buffer is passed
  pub answered_not_judged : refusal_at step_on c s ≡ 0
      → octet 0 t.packet ≡ octet 0 s.packet → octet 1 t.packet ≡ octet 1 s.packet
      → is_judged step_on (next_state step_on p s) t ≡ false
  answered_not_judged ok code id =
      judged_exactly (next_state step_on p s) t (tracks_next p s kept)
      ∙ not_both (eqb (step_refusal n t.packet t.buffer) 0) (is_repeat n.last t.packet)
      (kept_repeat t.packet (answered c s ok) code id)

  -- whatever came of it the first time, with the same buffer: it is refused again, or a repeat
  pub twice_not_judged : t.packet ≡ s.packet → t.buffer ≡ s.buffer
      → is_judged step_on (next_state step_on p s) t ≡ false
  twice_not_judged e b = which (case_of c s.packet s.account s.buffer)
    where
      refused_again : step_refusal c s.packet s.buffer ≢ 0 → n ≡ c
          → step_refusal n t.packet t.buffer ≢ 0
      refused_again bad same z =
          bad (sym (ap (λ (x : Conversation). step_refusal x t.packet t.buffer) same
          ∙ ap₂ (step_refusal c) e b) ∙ z)

      number : refusal_at step_on c s ≡ step_refusal c s.packet s.buffer
      number = number_step c s.packet s.account s.buffer

      which : Case c s.packet s.account s.buffer
          → is_judged step_on (next_state step_on p s) t ≡ false
      which (refused bad o) =
          judged_exactly (next_state step_on p s) t (tracks_next p s kept)
          ∙ rw (ne_eqb (step_refusal n t.packet t.buffer) 0
          (refused_again bad (ap (λ (x : Outcome). x.answer.next) o)))
      which (repeated z r o) =
          answered_not_judged (number ∙ z) (ap (octet 0) e) (ap (octet 1) e)
      which (judged h o) =
          answered_not_judged (number ∙ passes c s.packet s.buffer h) (ap (octet 0) e)
          (ap (octet 1) e)
