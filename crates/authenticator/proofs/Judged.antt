-- What a packet that passes the checks draws: an invalid Response, a valid one of an account that
-- is permitted to log on, an accepted change. And "No record and an invalid response give the same
-- reply and the same next conversation, octet for octet", and so does a locked account.
-- Assumes nothing.
use Rattle.std.specs.Prelude.{None}
use mathlib.Core.Bool.{Bool, true, false, cond}
use mathlib.Core.List.{List}
use mathlib.Core.Logic.{◌≢◌}
use mathlib.Core.Path.{◌≡◌, refl, sym, ap, ap₂, ◌∙◌}
use Prim.Native.Nat.{ℕ, ◌≤◌, ◌<◌}
use native.Mathlib.Omega.{arith}
use borrow.Author.Tests.{lt-ltb}
use Rattle.accounts.specs.Account.{
  hash_of,
  not_found,
  found,
  entry_of,
  changed,
  with_failures,
  LogonPermitted,
  Rightful,
}
use Rattle.accounts.specs.declared.Account.{Account}
use Rattle.accounts.specs.declared.Hash.{Hash}
use Rattle.accounts.specs.declared.Lookup.{Lookup}
use Rattle.message.specs.Reasons.{authentication_failure, password_expired, no_reason}
use Rattle.packets.specs.Response.{read_response}
use Rattle.packets.specs.Change.{read_change}
use Rattle.verify.specs.Response.{judged_valid, found_valid, response_reason, counted_lookup}
use Rattle.verify.specs.Change.{checked_with}
use Rattle.verify.specs.Accepted.{SameButIgnored}
use Rattle.verify.specs.declared.ChangeVersion.{ChangeVersion}
use Rattle.verify.specs.declared.ChangeVersion.TheVariants.{Two}
use Rattle.verify.specs.Change.{CheckedChange}
use Rattle.verify.proofs.Accepted.{ignored_change}
use Rattle.verify.proofs.Reasons.{reason_invalid, permitted_reason}
use Rattle.verify.proofs.Counting.{judged_at_limit, counted_valid}
use Rattle.authenticator.specs.Conversation.{ended, retried, awaiting_change}
use Rattle.authenticator.specs.Judge.{
  judgement_for,
  judge_response,
  change_judgement,
  checked_for,
  judge_change,
  judge_in,
  judge,
}
use Rattle.authenticator.specs.Step.{Outcome, judged_as, without_record, step}
use Rattle.authenticator.specs.declared.Conversation.{Conversation}
use Rattle.authenticator.specs.Judge.{Judgement}
use Rattle.authenticator.specs.declared.Phase.{Phase}
use Rattle.authenticator.specs.declared.Phase.TheVariants.{Response, Change, Ended}
use Rattle.authenticator.specs.declared.Reply.TheVariants.{Success, Failure}
use Rattle.authenticator.proofs.Admitted.{Passes}
use Rattle.authenticator.proofs.Steps.{Case, refused, repeated, judged, case_of, judged_step}
use Rattle.authenticator.proofs.Steps.{repeated_step, refused_step}

-- ---- what is drawn

-- an authentication failure with a retry; an expired password; Success; Success and a changed
-- record
abbrev pub try_again : Conversation → Lookup → Judgement
try_again c updated =
    record {
      reply = Failure authentication_failure true;
      fault = None;
      next = retried c;
      updated = updated;
    }

abbrev pub expired_for : Conversation → Account → Judgement
expired_for c a =
    record {
      reply = Failure password_expired false;
      fault = None;
      next = awaiting_change c (entry_of a);
      updated = found a;
    }

abbrev pub accepted : Conversation → Account → Judgement
accepted c a = record { reply = Success; fault = None; next = ended c; updated = found a }

abbrev pub changed_to : Conversation → Hash → Hash → Judgement
changed_to c nt lm =
    record {
      reply = Success;
      fault = None;
      next = ended c;
      updated = found (changed c.kept nt lm);
    }

module _ (c : Conversation) (p b : List ℕ) (ok : Passes c p b) where
  pub step_in : (l : Lookup) {ph : Phase} → c.phase ≡ ph → step c p l b
      ≡ judged_as c (judge_in ph c p l) b
  unfolding judge
  step_in l e = judged_step c p l b ok ∙ ap (λ (x : Phase). judged_as c (judge_in x c p l) b) e

  pub response_step : (l : Lookup) → c.phase ≡ Response
      → step c p l b
      ≡ judged_as c (judgement_for c (counted_lookup c.terms c.challenge l (read_response p))
      (response_reason c.terms c.challenge l (read_response p))) b
  unfolding judge_response
  response_step l e = step_in l e

  change_step : (l : Lookup) → c.phase ≡ Change
      → step c p l b ≡ judged_as c (change_judgement c (checked_for c.terms.change c p)) b
  unfolding judge_change
  change_step l e = step_in l e

retry_judged : (c : Conversation) (u : Lookup) → 0 < c.retries
    → judgement_for c u authentication_failure ≡ try_again c u
retry_judged c u h = rw (lt-ltb 0 c.retries h)

permitted_judged : (x : Bool) (c : Conversation) (a : Account)
    → judgement_for c (found a) (cond x password_expired no_reason)
    ≡ cond x (expired_for c a) (accepted c a)
permitted_judged true c a = refl
permitted_judged false c a = refl

module _ (c : Conversation) (p b : List ℕ) (ok : Passes c p b) where
  pub invalid_law : (l : Lookup) → c.phase ≡ Response
      → found_valid c.terms c.challenge l (read_response p) ≡ false → 0 < c.retries
      → step c p l b
      ≡ judged_as c (try_again c (counted_lookup c.terms c.challenge l (read_response p))) b
  invalid_law l ph v pos =
      let u = counted_lookup c.terms c.challenge l (read_response p) in
      response_step c p b ok l ph
      ∙ ap (λ (e : ℕ). judged_as c (judgement_for c u e) b)
      (reason_invalid c.terms c.challenge (read_response p) l v)
      ∙ ap (λ (j : Judgement). judged_as c j b) (retry_judged c u pos)

  -- the record is handed out with no failures, and that one is kept
  pub valid_law : (a : Account) → c.phase ≡ Response → LogonPermitted a
      → judged_valid c.terms c.challenge a (read_response p) ≡ true
      → step c p (found a) b
      ≡ judged_as c (cond a.expired (expired_for c (with_failures 0 a))
      (accepted c (with_failures 0 a))) b
  valid_law a ph g v =
      response_step c p b ok (found a) ph
      ∙ ap₂ (λ (d : Account) (e : ℕ). judged_as c (judgement_for c (found d) e) b)
      (counted_valid c.terms c.challenge a (read_response p) v)
      (permitted_reason c.terms c.challenge (read_response p) a g v)
      ∙ ap (λ (j : Judgement). judged_as c j b) (permitted_judged a.expired c (with_failures 0 a))

  -- a change with no fault, of the version that the terms name; the record passed with it has no
  -- effect
  pub change_law : (l : Lookup) (nt lm : Hash) → c.phase ≡ Change
      → checked_for c.terms.change c p ≡ checked_with None nt lm
      → step c p l b ≡ judged_as c (changed_to c nt lm) b
  change_law l nt lm ph e =
      change_step c p b ok l ph
      ∙ ap (λ (v : CheckedChange). judged_as c (change_judgement c v) b) e

-- nor has what is to be ignored of a version 2 change
pub ignored_step : (c : Conversation) (p q b : List ℕ) (l m : Lookup) → c.phase ≡ Change
    → c.terms.change ≡ Two → Passes c p b → Passes c q b
    → SameButIgnored (read_change p) (read_change q)
    → step c p l b ≡ step c q m b
ignored_step c p q b l m ph two x y e =
    change_step c p b x l ph
    ∙ ap (λ (v : CheckedChange). judged_as c (change_judgement c v) b)
    (ap (λ (v : ChangeVersion). checked_for v c p) two
    ∙ ignored_change c.kept c.challenge (read_change p) (read_change q) e
    ∙ ap (λ (v : ChangeVersion). checked_for v c q) (sym two))
    ∙ sym (change_step c q b y m ph)

-- a changed record is rightful where the kept one is, is not expired, and has the new hash
pub changed_rightful : (a : Account) (h : List ℕ) (lm : Hash) → Rightful a
    → Rightful (changed (entry_of a) (hash_of h) lm)
    × ((changed (entry_of a) (hash_of h) lm).expired ≡ false)
    × ((changed (entry_of a) (hash_of h) lm).nt.octets ≡ h)
changed_rightful a h lm g =
    (record { nt = refl; enabled = g.enabled; hours = g.hours; dialin = g.dialin }, refl, refl)

-- ---- no record and an invalid Response

-- The whole outcome, answer and buffer, but for the record that is handed out: by the phase, and by
-- whether the packet is judged.
module _ (c : Conversation) (p b : List ℕ) where
  -- a refused packet and a repeat are answered without the record
  pub by_case : {A : Type 0} (l m : Lookup) (seen : Outcome → A)
      → (Passes c p b → seen (step c p l b) ≡ seen (step c p m b))
      → seen (step c p l b) ≡ seen (step c p m b)
  by_case l m seen ok = which (case_of c p l b)
    where
      which : Case c p l b → seen (step c p l b) ≡ seen (step c p m b)
      which (refused n e) = ap seen (e ∙ sym (refused_step c p m b n))
      which (repeated z r e) = ap seen (e ∙ sym (repeated_step c p m b z r))
      which (judged h e) = ok h

  -- where no Response is awaited, the record passed has no effect
  pub same_record : (l m : Lookup) → c.phase ≢ Response → step c p l b ≡ step c p m b
  unfolding judge
  same_record l m h =
      by_case l m (λ o. o)
      (λ ok. judged_step c p l b ok ∙ ap (λ (j : Judgement). judged_as c j b) (which c.phase h)
      ∙ sym (judged_step c p m b ok))
    where
      which : (ph : Phase) → ph ≢ Response → judge_in ph c p l ≡ judge_in ph c p m
      which Response n = absurd (n refl)
      which Change n = refl
      which Ended n = refl

  -- two lookups with no record, or with one for which the Response is judged invalid, since it is
  -- or since the account is locked: in every phase, for any packet, refused or not
  pub same_invalid : (l m : Lookup) → found_valid c.terms c.challenge l (read_response p)
      ≡ false
      → found_valid c.terms c.challenge m (read_response p) ≡ false
      → without_record (step c p l b) ≡ without_record (step c p m b)
  same_invalid l m v w = by_case l m without_record (λ ok. which c.phase ok refl)
    where
      unseen : Lookup → ℕ → Outcome
      unseen u n = without_record (judged_as c (judgement_for c u n) b)

      drawn : Lookup → Lookup
      drawn k = counted_lookup c.terms c.challenge k (read_response p)

      which : (ph : Phase) → Passes c p b → c.phase ≡ ph
          → without_record (step c p l b) ≡ without_record (step c p m b)
      which Response ok e =
          ap without_record (response_step c p b ok l e)
          ∙ ap (unseen (drawn l))
          (reason_invalid c.terms c.challenge (read_response p) l v)
          ∙ ap (unseen (drawn m))
          (sym (reason_invalid c.terms c.challenge (read_response p) m w))
          ∙ sym (ap without_record (response_step c p b ok m e))
      which Change ok e = ap without_record (same_record l m
          (λ f. let z : ◌≡◌ {A = ℕ} 0 1 = cc in absurd (omega arith)))
      which Ended ok e = ap without_record (same_record l m
          (λ f. let z : ◌≡◌ {A = ℕ} 0 1 = cc in absurd (omega arith)))

  pub same_answer : (a : Account) → judged_valid c.terms c.challenge a (read_response p) ≡ false
      → without_record (step c p not_found b) ≡ without_record (step c p (found a) b)
  same_answer a v = same_invalid not_found (found a) refl v

  -- so is a locked account, whatever the packet says
  pub same_locked : (a : Account) → c.terms.limit ≤ a.failures
      → without_record (step c p not_found b) ≡ without_record (step c p (found a) b)
  same_locked a h = same_answer a (judged_at_limit c.terms c.challenge a (read_response p) h)
