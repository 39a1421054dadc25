-- An opening that is not refused: the first conversation, the Challenge at the front of the buffer,
-- and its challenges in the list, where none of them was. A refused one: an ended conversation of
-- fixed values, and buffer and list as they were. Either leaves true counts true.
-- Assumes nothing.
use mathlib.Core.Bool.{Bool, true, false, cond}
use mathlib.Core.List.{List, ◌++◌}
use mathlib.Core.Logic.{◌≢◌}
use mathlib.Core.Path.{◌≡◌, refl, sym, ap, ap₂, ◌∙◌, subst}
use Rattle.std.specs.Prelude.{Result, Ok, Err}
use Rattle.refusals.specs.Refusal.{number}
use Rattle.refusals.specs.declared.Refusal.{Refusal}
use Rattle.refusals.proofs.Numbers.{number_some}
use Rattle.authenticator.specs.declared.Started.{Started}
use Prim.Native.Nat.{ℕ, suc, ◌+◌, ◌≤◌, ◌<◌}
use native.Mathlib.Omega.{arith}
use borrow.Author.Tests.{eqb-true, eqb-false, ne_eqb, le-ltb, ltb-false}
use lib.Dec.{eqb}
use lib.ListN.{length, take, replicate}
use Rattle.refusals.proofs.Laws.{none_refused}
use Rattle.refusals.proofs.Laws.{both_passed}
use Rattle.issued.specs.Issued.{Issued, places, listed, contains, Distinct, contains_any, counts_of}
use Rattle.issued.specs.Issued.{bad_buffer, bad_counts, spend_refusal, spent}
use Rattle.issued.proofs.Listing.{Wide}
use Rattle.issued.proofs.Spending.{spendable, may_spend, may_spend_empty, same_issued, spent_added}
use Rattle.issued.proofs.Spending.{spent_listed, spent_contains, spent_keeps, spent_true}
use Rattle.issued.proofs.Spending.{spent_sound}
use Rattle.packets.specs.Frame.{written_over}
use Rattle.packets.specs.Reply.{challenge_packet, bad_reply_buffer}
use Rattle.challenges.proofs.Laid.{length_challenges_from}
use Rattle.packets.proofs.Writing.{taken}
use Rattle.authenticator.specs.Conversation.{closed}
use Rattle.authenticator.specs.Opening.{Opening, retries_of, spends, no_limit, too_many_retries}
use Rattle.authenticator.specs.Opening.{open_refusal, opened_issued, first_conversation}
use Rattle.authenticator.specs.Opening.{opening_packet, opened_by, opened_as, opened, opened_buffer}
use Rattle.authenticator.specs.Opening.{places_after, OpenedAs}
use Rattle.authenticator.specs.declared.Conversation.{Conversation}
use Rattle.authenticator.specs.Opening.{Opened}
use Rattle.authenticator.proofs.Spends.{challenges_wide, challenges_distinct}

-- the answer's number is the refusal
pub opened_number : (o : Opening) → (opened o).refusal ≡ open_refusal o
unfolding opened
opened_number o = which (eqb (open_refusal o) 0) refl
  where
    which : (t : Bool) → eqb (open_refusal o) 0 ≡ t → (opened_by (open_refusal o) o).refusal ≡ open_refusal o
    which true e = let z = eqb-true (open_refusal o) 0 e in ap (λ (n : ℕ). (opened_by n o).refusal) z ∙ sym z
    which false e = rw e

-- ---- 18, 13 and 2, which are tested before the list is looked at

abbrev pub argument_refusal : Opening → ℕ
argument_refusal o = cond (no_limit o) 18 (cond (too_many_retries o) 13 (cond (bad_reply_buffer o.buffer) 2 0))

pub record GoodArguments (o : Opening) : Type 0 where
  pub limited : no_limit o ≡ false
  pub few : too_many_retries o ≡ false
  pub roomy : bad_reply_buffer o.buffer ≡ false

pub arguments_good : (o : Opening) → argument_refusal o ≡ 0 → GoodArguments o
arguments_good o e =
    let first = none_refused (no_limit o) (omega arith) e in
    let good = both_passed (too_many_retries o) 13 (bad_reply_buffer o.buffer) 2 (omega arith) (omega arith) first.1 in
    record { limited = first.0; few = good.0; roomy = good.1 }

pub list_refusal : (o : Opening) → GoodArguments o
    → open_refusal o ≡ spend_refusal 8 (spends o) o.issued
unfolding open_refusal
list_refusal o good = simp (good.limited, good.few, good.roomy)

pub argument_refusal_lem : (o : Opening) → argument_refusal o ≢ 0 → open_refusal o ≡ argument_refusal o
unfolding open_refusal
argument_refusal_lem o some = which (no_limit o) (too_many_retries o) (bad_reply_buffer o.buffer) some
  where
    which : (s t u : Bool) → ◌≢◌ {A = ℕ} (cond s 18 (cond t 13 (cond u 2 0))) 0
        → ◌≡◌ {A = ℕ} (cond s 18 (cond t 13 (cond u 2 (spend_refusal 8 (spends o) o.issued)))) (cond s 18 (cond t 13 (cond u 2 0)))
    which true t u h = refl
    which false true u h = refl
    which false false true h = refl
    which false false false h = absurd (h refl)

module _ (o : Opening) where
  module _ (ok : (opened o).refusal ≡ 0) where
    not_refused : open_refusal o ≡ 0
    not_refused = sym (opened_number o) ∙ ok

    good : opened o ≡ opened_by 0 o
    unfolding opened
    good = ap (λ (n : ℕ). opened_by n o) not_refused

    pub opened_first : (opened o).conversation ≡ first_conversation o
    opened_first = ap (λ (x : Opened). x.conversation) good

    passed : (too_many_retries o ≡ false) × (bad_reply_buffer o.buffer ≡ false) × (spend_refusal 8 (spends o) o.issued ≡ 0)
    unfolding open_refusal
    passed =
        let limited = none_refused (no_limit o) (omega arith) not_refused in
        let first = none_refused (too_many_retries o) (omega arith) limited.1 in
        let second = none_refused (bad_reply_buffer o.buffer) (omega arith) first.1 in
        (first.0, second.0, second.1)

    -- the limit is at least 1
    pub opened_limited : 0 < o.limit
    unfolding open_refusal
    opened_limited =
        let z = eqb-false o.limit 0 (none_refused (no_limit o) (omega arith) not_refused).0 in
        omega (arith, z)

    roomy : 17 ≤ length o.buffer
    roomy = ltb-false (length o.buffer) 17 passed.1

    written_over_buffer : opened_buffer o ≡ written_over (opening_packet o) o.buffer
    unfolding opened_buffer
    written_over_buffer = rw not_refused

    size : length (opening_packet o) ≡ 5 + length o.challenge
    unfolding challenge_packet
    size = omega arith

    pub opened_written : length o.challenge ≡ 8 → take (opened o).written (opened_buffer o) ≡ opening_packet o
    opened_written eight =
        ap (λ (x : Opened). take x.written (opened_buffer o)) good
        ∙ ap (take (length (opening_packet o))) written_over_buffer
        ∙ taken (opening_packet o) o.buffer (omega (arith, size, roomy))

    -- none of what it spends stood in the list
    pub opened_fresh : contains_any (spends o) (listed 8 o.issued) ≡ false
    opened_fresh = (spendable 8 (spends o) o.issued passed.2).fresh

    opened_spent : opened_issued o ≡ spent 8 (spends o) o.issued
    unfolding opened_issued
    opened_spent = rw not_refused (sym (spent_added 8 (spends o) o.issued passed.2))

  pub opened_not : (opened o).refusal ≢ 0
      → (opened o ≡ record { refusal = open_refusal o; conversation = closed; written = 0; used = o.issued.used })
      × (opened_issued o ≡ o.issued) × (opened_buffer o ≡ o.buffer)
  unfolding opened opened_issued opened_buffer
  opened_not h =
      let n : open_refusal o ≢ 0 = λ e. h (opened_number o ∙ e) in
      let e = ne_eqb (open_refusal o) 0 n in
      (rw e, rw e, rw e)

  -- what holds of the first conversation and of a refused opening's holds of what is handed out
  pub opened_either : (P : Conversation → Type 0) → P (first_conversation o) → P closed → P (opened o).conversation
  opened_either P first refused = which (eqb (opened o).refusal 0) refl
    where
      which : (t : Bool) → eqb (opened o).refusal 0 ≡ t → P (opened o).conversation
      which true e = subst P (sym (opened_first (eqb-true (opened o).refusal 0 e))) first
      which false e = subst (λ (x : Opened). P x.conversation) (sym (opened_not (eqb-false (opened o).refusal 0 e)).0) refused

  -- ---- the list afterwards

  module _ (eight : length o.challenge ≡ 8) where
    wide : Wide 8 (spends o)
    wide = challenges_wide (suc (retries_of o.retries)) o.challenge eight

    -- all that it spends is added, in that order
    pub opened_listed : (opened o).refusal ≡ 0 → listed 8 (opened_issued o) ≡ listed 8 o.issued ++ spends o
    opened_listed ok = ap (listed 8) (opened_spent ok) ∙ spent_listed 8 (spends o) o.issued wide (passed ok).2

    pub opened_contains : (opened o).refusal ≡ 0 → (c : List ℕ) → contains (spends o) c ≡ true → contains (listed 8 (opened_issued o)) c ≡ true
    opened_contains ok c h = ap (λ (i : Issued). contains (listed 8 i) c) (opened_spent ok) ∙ spent_contains 8 (spends o) o.issued wide (passed ok).2 c h

    -- refused or not
    either : (P : Issued → Type 0) → P (spent 8 (spends o) o.issued) → P o.issued → P (opened_issued o)
    either P a b = which (eqb (opened o).refusal 0) refl
      where
        which : (t : Bool) → eqb (opened o).refusal 0 ≡ t → P (opened_issued o)
        which true e = subst P (sym (opened_spent (eqb-true (opened o).refusal 0 e))) a
        which false e = subst P (sym (opened_not (eqb-false (opened o).refusal 0 e)).1) b

    -- what stands in the list stands there afterwards
    pub opened_keeps : (c : List ℕ) → contains (listed 8 o.issued) c ≡ true → contains (listed 8 (opened_issued o)) c ≡ true
    opened_keeps c h = either (λ (i : Issued). contains (listed 8 i) c ≡ true) (spent_keeps 8 (spends o) o.issued wide c h) h

    -- counts that are true are true afterwards
    pub opened_true : o.issued.counts ≡ counts_of (listed 8 o.issued) → (opened_issued o).counts ≡ counts_of (listed 8 (opened_issued o))
    opened_true e = either (λ (i : Issued). i.counts ≡ counts_of (listed 8 i)) (spent_true 8 (spends o) o.issued wide e) e

    -- and the list that an opening leaves draws no 24 at the next
    pub opened_sound : (opened o).refusal ≡ 0 → (bad_buffer 8 (opened_issued o).buffer (opened_issued o).used ≡ false) × (bad_counts 8 (opened_issued o) ≡ false)
    opened_sound ok =
        subst (λ (i : Issued). (bad_buffer 8 i.buffer i.used ≡ false) × (bad_counts 8 i ≡ false)) (sym (opened_spent ok)) (spent_sound 8 (spends o) o.issued wide (passed ok).2)

    -- what it spends is distinct
    pub opened_distinct : (opened o).refusal ≡ 0 → Distinct (spends o)
    opened_distinct ok =
        let few = ltb-false 7 (retries_of o.retries) (passed ok).0 in
        challenges_distinct (suc (retries_of o.retries)) o.challenge (omega arith) (omega arith)

-- ---- what is not refused

module _ (o : Opening) (limited : 0 < o.limit) (few : retries_of o.retries ≤ 7) (room : 17 ≤ length o.buffer) where
  may_open_by : spend_refusal 8 (spends o) o.issued ≡ 0 → (opened o).refusal ≡ 0
  unfolding open_refusal
  may_open_by e = opened_number o ∙ simp (ne_eqb o.limit 0 (λ z. omega (arith, z)), le-ltb 7 (retries_of o.retries) few, le-ltb (length o.buffer) 17 room, e)

  -- on a sound list, with challenges that were not issued and places for them
  pub may_open_lem : bad_buffer 8 o.issued.buffer o.issued.used ≡ false → o.issued.counts ≡ counts_of (listed 8 o.issued)
      → contains_any (spends o) (listed 8 o.issued) ≡ false → o.issued.used + suc (retries_of o.retries) ≤ places 8 o.issued.buffer
      → (opened o).refusal ≡ 0
  may_open_lem sound counts fresh left =
      may_open_by (may_spend 8 (spends o) o.issued sound counts fresh (omega (arith, length_challenges_from (suc (retries_of o.retries)) o.challenge)))

  -- on an empty one, whatever lies in its places
  pub may_open_empty : bad_buffer 8 o.issued.buffer o.issued.used ≡ false → o.issued.used ≡ 0 → o.issued.counts ≡ replicate 256 0
      → suc (retries_of o.retries) ≤ places 8 o.issued.buffer → (opened o).refusal ≡ 0
  may_open_empty sound none zeros left =
      may_open_by (may_spend_empty 8 (spends o) o.issued sound none zeros (omega (arith, length_challenges_from (suc (retries_of o.retries)) o.challenge)))

-- ---- how the code shows its promise at a return

module _ (o : Opening) {list counts buffer : List ℕ} where
  pub refused_promise : (answer : Result Started Refusal) (r : Refusal) → answer ≡ Err r
      → open_refusal o ≡ number r → list ≡ o.issued.buffer → counts ≡ o.issued.counts
      → buffer ≡ o.buffer
      → OpenedAs o answer
      (record { buffer = list; used = places_after o.issued.used answer; counts = counts }) buffer
  refused_promise answer r g e e₂ e₃ e₄ =
      let k = opened_not o (λ f. number_some r (sym e ∙ sym (opened_number o) ∙ f)) in
      let u = ap (places_after o.issued.used) g in
      record {
        answer =
            ap (opened_as o) g
            ∙ ap (λ (m : ℕ). record {
              refusal = m;
              conversation = closed;
              written = 0;
              used = o.issued.used;
            }) (sym e)
            ∙ sym k.0;
        list = same_issued e₂ u e₃ ∙ sym k.1;
        reply = e₄ ∙ sym k.2;
      }

  pub accepted_promise : (s : Started) → open_refusal o ≡ 0
      → record { buffer = list; used = s.used; counts = counts } ≡ spent 8 (spends o) o.issued
      → s.conversation ≡ first_conversation o → s.written ≡ length (opening_packet o)
      → buffer ≡ written_over (opening_packet o) o.buffer
      → OpenedAs o (Ok s) (record { buffer = list; used = s.used; counts = counts }) buffer
  accepted_promise s e h e₀ e₁ e₂ =
      let ok = opened_number o ∙ e in
      let after = h ∙ sym (opened_spent o ok) in
      record {
        answer =
            ap₂ (λ (c : Conversation) (n : ℕ). record {
              refusal = 0;
              conversation = c;
              written = n;
              used = s.used;
            }) e₀ e₁
            ∙ ap (λ (u : ℕ). record {
              refusal = 0;
              conversation = first_conversation o;
              written = length (opening_packet o);
              used = u;
            }) (ap (λ (i : Issued). i.used) after)
            ∙ sym (good o ok);
        list = after;
        reply = e₂ ∙ sym (written_over_buffer o ok);
      }
