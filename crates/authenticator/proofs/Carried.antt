-- A step reads the round keys beside the hash that counts, and no others; and the record that it
-- hands out has those that it was passed with or, after a change, those of its own hash (document
-- 02, request 2026-10).
-- Assumes nothing.
use Rattle.std.specs.Prelude.{None}
use mathlib.Core.Bool.{Bool, true, false, cond, false≢true}
use mathlib.Core.List.{List}
use mathlib.Core.Path.{◌≡◌, refl, sym, ap, ◌∙◌, subst}
use Prim.Native.Nat.{ℕ}
use lib.ListN.{length}
use Rattle.accounts.specs.Account.{not_found, found, changed, entry_lookup_of, AgreeIn}
use Rattle.accounts.specs.declared.Lookup.{Lookup}
use Rattle.accounts.proofs.Agreeing.{changed_agrees, counted_agrees}
use Rattle.packets.specs.Frame.{written_over}
use Rattle.packets.specs.Response.{read_response}
use Rattle.verify.specs.Faults.{is_faultless}
use Rattle.verify.specs.Response.{judging_keys, carrying_lookup, checked_response}
use Rattle.verify.specs.declared.CheckedResponse.{CheckedResponse}
use Rattle.verify.proofs.Carried.{checked_carried}
use Rattle.authenticator.specs.Conversation.{answer_with, with_last}
use Rattle.authenticator.specs.Encode.{reply_packet}
use Rattle.authenticator.specs.Judge.{reason_of, reply_for, after_reason}
use Rattle.authenticator.specs.Judge.{judge_response, checked_for, judge_change, judge_in, judge}
use Rattle.authenticator.specs.Step.{Outcome, judged_as, step}
use Rattle.authenticator.specs.Step.{stepped_of, hands_back, handed_out}
use Rattle.authenticator.specs.declared.Conversation.{Conversation}
use Rattle.authenticator.specs.Step.{Judged}
use Rattle.authenticator.specs.declared.Phase.{Phase}
use Rattle.authenticator.specs.declared.Phase.TheVariants.{Response, Change, Ended}
use Rattle.authenticator.specs.Step.{Stepped}
use Rattle.authenticator.proofs.Admitted.{Passes}
use Rattle.authenticator.proofs.Judged.{by_case, step_in, response_step}
use Rattle.authenticator.proofs.Steps.{Case, refused, repeated, judged, case_of}

-- what is seen of an outcome but for the round keys of its record
pub record Seen : Type 0 where
  pub stepped : Stepped
  pub buffer : List ℕ

abbrev pub seen_of : Outcome → Seen
seen_of o = record { stepped = stepped_of o.answer; buffer = o.buffer }

-- ---- the round keys that are read

-- a record in which the round keys that are read stand beside either hash
abbrev pub read_only : Lookup → List ℕ → Lookup
read_only l p = carrying_lookup (entry_lookup_of l) (judging_keys l.account (read_response p))

module _ (c : Conversation) (p b : List ℕ) where
  -- of a Response that was checked
  abbrev shown : CheckedResponse → Seen
  shown v =
      let r = reply_for c v.reason in
      record {
        stepped = record {
          kind = Judged (reason_of r);
          fault = None;
          next = with_last (answer_with c r) (after_reason c v.updated.entry v.reason);
          written = length (reply_packet c.terms c.id r);
          updated = v.updated;
        };
        buffer = written_over (reply_packet c.terms c.id r) b;
      }

  pub same_read : (l : Lookup) → seen_of (step c p l b) ≡ seen_of (step c p (read_only l p) b)
  unfolding judge_change
  same_read l = by_case c p b l (read_only l p) seen_of (λ ok. which c.phase ok refl)
    where
      checked : Lookup → Seen
      checked k = shown (checked_response c.terms c.challenge k (read_response p))

      which : (ph : Phase) → Passes c p b → c.phase ≡ ph
          → seen_of (step c p l b) ≡ seen_of (step c p (read_only l p) b)
      which Response ok e =
          ap seen_of (response_step c p b ok l e)
          ∙ ap shown (checked_carried c.terms c.challenge (read_response p) l)
          ∙ sym (ap seen_of (response_step c p b ok (read_only l p) e))
      which Change ok e =
          ap seen_of (step_in c p b ok l e) ∙ sym (ap seen_of (step_in c p b ok (read_only l p) e))
      which Ended ok e =
          ap seen_of (step_in c p b ok l e) ∙ sym (ap seen_of (step_in c p b ok (read_only l p) e))

-- ---- the round keys that are handed out

module _ (c : Conversation) (p : List ℕ) (l : Lookup) (b : List ℕ) where
  -- an outcome whose record has its round keys by what was awaited and by the kind of the answer
  abbrev pub Back : Phase → Outcome → Type 0
  Back ph o =
      o.answer.updated
      ≡ handed_out (hands_back ph o.answer.kind) l.account (entry_lookup_of o.answer.updated)

  back_judged : (ph : Phase) → Back ph (judged_as c (judge_in ph c p l) b)
  unfolding judge_response judge_change
  back_judged Response = refl
  back_judged Change =
      which (is_faultless (checked_for c.terms.change c p).fault)
    where
      record_for : Bool → Lookup
      record_for t =
          cond t (found (changed c.kept (checked_for c.terms.change c p).nt
          (checked_for c.terms.change c p).lm)) not_found

      which : (t : Bool) → record_for t ≡ handed_out false l.account (entry_lookup_of (record_for t))
      which true = refl
      which false = refl
  back_judged Ended = refl

  pub handed_back : Back c.phase (step c p l b)
  unfolding judge
  handed_back = which (case_of c p l b)
    where
      which : Case c p l b → Back c.phase (step c p l b)
      which (refused n e) = subst (Back c.phase) (sym e) refl
      which (repeated z r e) = subst (Back c.phase) (sym e) refl
      which (judged h e) = subst (Back c.phase) (sym e) (back_judged c.phase)

  -- "They agree with the hash after every operation that .. is lent one in which they agree": the
  -- record that a step hands out, where they agree in the one that was passed
  pub step_agrees : AgreeIn l → AgreeIn (step c p l b).answer.updated
  unfolding judge judge_response judge_change
  step_agrees g = which (case_of c p l b)
    where
      in_judged : (ph : Phase) → AgreeIn (judge_in ph c p l).updated
      in_judged Response = λ there. counted_agrees _ l.account (g there)
      in_judged Change =
          by (is_faultless (checked_for c.terms.change c p).fault)
        where
          by : (t : Bool) → AgreeIn (cond t (found (changed c.kept
              (checked_for c.terms.change c p).nt (checked_for c.terms.change c p).lm))
              not_found)
          by true = λ there. changed_agrees c.kept _ _
          by false = λ there. absurd (false≢true there)
      in_judged Ended = λ there. absurd (false≢true there)

      which : Case c p l b → AgreeIn (step c p l b).answer.updated
      which (refused n e) = subst (λ (o : Outcome). AgreeIn o.answer.updated) (sym e)
          (λ there. absurd (false≢true there))
      which (repeated z r e) = subst (λ (o : Outcome). AgreeIn o.answer.updated) (sym e)
          (λ there. absurd (false≢true there))
      which (judged h e) = subst (λ (o : Outcome). AgreeIn o.answer.updated) (sym e)
          (in_judged c.phase)
