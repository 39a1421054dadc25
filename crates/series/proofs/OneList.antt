-- Many boxes on one list: an opening that needs nothing more is not refused, no challenge is put in
-- force by two openings, no recorded answer or version 2 change is right in two conversations, and
-- nothing that was recorded opens a second box.
-- Assumes nothing.
use Rattle.std.specs.Prelude.{Option, Some, None}
use mathlib.Core.Bool.{Bool, true, false, cond, ◌&&◌, false≢true}
use mathlib.Core.List.{List, [], ◌∷◌, ◌++◌}
use mathlib.Core.Logic.{◌≢◌, inl, inr}
use mathlib.Core.Path.{◌≡◌, refl, sym, ap, ◌∙◌, subst}
use Prim.Native.Nat.{ℕ}
use native.Mathlib.Omega.{arith}
use borrow.Author.Tests.{eqb-true, eqb-false}
use lib.Dec.{eqb}
use lib.ListN.{length}
use Rattle.octets.specs.Parts.{agrees}
use Rattle.octets.proofs.Parts.{agrees_equal}
use Rattle.octets.proofs.Numbers.{Octets}
use Rattle.issued.specs.Issued.{Issued, listed, contains}
use Rattle.issued.proofs.Listing.{not_met}
use Rattle.credentials.specs.Credentials.{
  nt_hash_of,
  response_of,
  response_under,
  schedules_of,
  length_under,
  unsealed_as,
  password_in,
}
use Rattle.credentials.proofs.Laws.{response_under_lem, response_under_tells}
use Rattle.packets.specs.Codes.{response_code}
use Rattle.packets.specs.Frame.{octet}
use Rattle.packets.specs.Response.{read_response}
use Rattle.packets.specs.declared.Change.{Change}
use Rattle.packets.specs.declared.Response.{Response}
use Rattle.verify.specs.Response.{answers, valid}
use Rattle.authenticator.specs.Judge.{valid_in, new_hash_in}
use Rattle.authenticator.specs.Conversation.{is_ended}
use Rattle.authenticator.specs.Opening.{Opening, spends, opened, opened_issued}
use Rattle.authenticator.specs.Steps.{StepInput, step_on, next_after}
use Rattle.accounts.specs.declared.Account.{Account}
use Rattle.accounts.specs.declared.Hash.{Hash}
use Rattle.accounts.specs.declared.Schedules.{Schedules}
use Rattle.verify.proofs.Accepted.{accepted_only}
use Rattle.authenticator.specs.declared.Conversation.{Conversation}
use Rattle.authenticator.specs.Opening.{Opened}
use Rattle.authenticator.proofs.Spends.{challenges_octets}
use Rattle.authenticator.proofs.Openings.{opened_first, opened_written, opened_fresh, opened_not}
use Rattle.authenticator.proofs.Openings.{opened_contains, opened_keeps, may_open_lem}
use Rattle.authenticator.proofs.InForce.{CanBeInForce, now_in_force, step_adds_none}
use Rattle.series.specs.Course.{end, Along}
use Rattle.series.specs.Openers.{spends_all, our_opener}
use Rattle.series.specs.OneList.{PassedOn, left_by, OnOneList, Opens, Two, reached, NoneTwice}
use Rattle.series.specs.OneList.{NoneAnsweredTwice, NoneValidTwice, NoneChangedTwice, MayOpen}
use Rattle.series.specs.OneList.{OneList}
use Rattle.series.specs.OneList.{Recorded, NoneOpened}
use Rattle.series.proofs.Invariant.{along_behind}
use Rattle.series.proofs.Recorded.{Shut, shut_along}

-- ---- an opening that hands out a conversation that goes on was not refused

opens : (o : Opening) → Opens spends_all o → (opened o).refusal ≡ 0
opens o live = which (eqb (opened o).refusal 0) refl
  where
    which : (t : Bool) → eqb (opened o).refusal 0 ≡ t → (opened o).refusal ≡ 0
    which true e = eqb-true (opened o).refusal 0 e
    which false e =
        let ended = ap (λ (x : Opened). is_ended x.conversation.phase) (opened_not o (eqb-false (opened o).refusal 0 e)).0 in
        absurd (false≢true (sym live ∙ ended))

-- ---- what a conversation can put in force is what its opening spent

steps_add_none : (c : Conversation) (ss : List StepInput) (x : List ℕ) → CanBeInForce (end (next_after step_on) c ss) x → CanBeInForce c x
steps_add_none c [] x h = h
steps_add_none c (s ∷ ss) x h = step_adds_none c s x (steps_add_none (next_after step_on c s) ss x h)

reached_spent : (o : Opening) → (opened o).refusal ≡ 0 → (ss : List StepInput) → contains (spends o) (reached spends_all o ss).challenge ≡ true
reached_spent o ok ss =
    subst (λ (c : Conversation). CanBeInForce c (reached spends_all o ss).challenge) (opened_first o ok)
    (steps_add_none (opened o).conversation ss (reached spends_all o ss).challenge (now_in_force (reached spends_all o ss)))

-- ---- what stands in the list stays there

listed_stays : (i : Issued) (os : List Opening) (p : Opening) (after : List Opening) (x : List ℕ) → OnOneList spends_all i (os ++ (p ∷ after))
    → contains (listed 8 i) x ≡ true → contains (listed 8 p.issued) x ≡ true
listed_stays i [] p after x h e = h.0.kept x e
listed_stays i (o ∷ os) p after x h e = listed_stays (opened_issued o) os p after x h.1 (opened_keeps o h.0.eight x (h.0.kept x e))

module _ (i : Issued) (first second : Opening) (two : Two spends_all i first second) where
  first_opens_lem : (opened first).refusal ≡ 0
  first_opens_lem = opens first two.first_opens

  second_opens_lem : (opened second).refusal ≡ 0
  second_opens_lem = opens second two.second_opens

  from_first : Along (left_by spends_all) PassedOn (end (left_by spends_all) i two.before) (first ∷ two.between ++ (second ∷ two.after))
  from_first = along_behind (left_by spends_all) PassedOn i two.before (first ∷ two.between ++ (second ∷ two.after)) two.run

  of_second : Along (left_by spends_all) PassedOn (end (left_by spends_all) (opened_issued first) two.between) (second ∷ two.after)
  of_second = along_behind (left_by spends_all) PassedOn (opened_issued first) two.between (second ∷ two.after) from_first.1

  -- what the first opening spent, the second did not
  apart : (x : List ℕ) → contains (spends first) x ≡ true → contains (spends second) x ≡ true → ⊥
  apart x h k =
      let there = listed_stays (opened_issued first) two.between second two.after x from_first.1 (opened_contains first from_first.0.eight first_opens_lem x h) in
      false≢true (sym (not_met (spends second) (listed 8 second.issued) x (opened_fresh second second_opens_lem) k) ∙ there)

  module _ (ss ts : List StepInput) where
    abbrev in_first : Conversation
    in_first = reached spends_all first ss

    abbrev in_second : Conversation
    in_second = reached spends_all second ts

    never : in_first.challenge ≢ in_second.challenge
    never e =
        apart in_first.challenge (reached_spent first first_opens_lem ss)
        (subst (λ (x : List ℕ). contains (spends second) x ≡ true) (sym e) (reached_spent second second_opens_lem ts))

    -- ---- a recorded answer

    eight_octets : (o : Opening) → length o.challenge ≡ 8 → Octets o.challenge → (opened o).refusal ≡ 0 → (us : List StepInput)
        → (length (reached spends_all o us).challenge ≡ 8) × Octets (reached spends_all o us).challenge
    eight_octets o e k ok us = challenges_octets _ o.challenge (reached spends_all o us).challenge e k (reached_spent o ok us)

    -- 24 octets are the response of round keys to one challenge, and so a hash's
    under_apart : (ks r : List ℕ) → r ≡ response_under ks in_first.challenge
        → r ≡ response_under ks in_second.challenge → ⊥
    under_apart ks r p q =
        let a = eight_octets first from_first.0.eight from_first.0.octets first_opens_lem ss in
        let b = eight_octets second of_second.0.eight of_second.0.octets second_opens_lem ts in
        never (response_under_tells ks in_first.challenge in_second.challenge a.0 a.1
        b.0 b.1 (sym p ∙ q))

    responses_apart : (h r : List ℕ) → r ≡ response_of h in_first.challenge
        → r ≡ response_of h in_second.challenge → ⊥
    responses_apart h r p q =
        under_apart (schedules_of h) r (p ∙ sym (response_under_lem h in_first.challenge))
        (q ∙ sym (response_under_lem h in_second.challenge))

    answered_both : (h : Hash) (k : Schedules) (r : List ℕ)
        → answers h k in_first.challenge r ≡ true
        → answers h k in_second.challenge r ≡ true → ⊥
    unfolding answers
    answered_both h k r p q = which h.present p q
      where
        which : (t : Bool) → (t && agrees r (response_under k.keys in_first.challenge)) ≡ true
            → (t && agrees r (response_under k.keys in_second.challenge)) ≡ true → ⊥
        which true p q = under_apart k.keys r (agrees_equal r _ p) (agrees_equal r _ q)
        which false p q = false≢true p

    valid_both : (a : Account) (f : Response) → valid_in in_first a f ≡ true → valid_in in_second a f ≡ true → ⊥
    unfolding valid
    valid_both a f p q = which (eqb f.flag 1 && a.nt.present) in_first.terms.lm in_second.terms.lm p q
      where
        which : (t u w : Bool)
            → cond t (answers a.nt a.nt_keys in_first.challenge f.nt)
            (u && answers a.lm a.lm_keys in_first.challenge f.lm) ≡ true
            → cond t (answers a.nt a.nt_keys in_second.challenge f.nt)
            (w && answers a.lm a.lm_keys in_second.challenge f.lm) ≡ true → ⊥
        which true u w p q = answered_both a.nt a.nt_keys f.nt p q
        which false true true p q = answered_both a.lm a.lm_keys f.lm p q
        which false true false p q = false≢true q
        which false false w p q = false≢true p

    -- ---- a recorded change

    changed_both : (f : Change) (h : List ℕ) → new_hash_in in_first f ≡ Some h → new_hash_in in_second f ≡ Some h → ⊥
    changed_both f h p q =
        let a = accepted_only in_first.kept in_first.challenge f h p in
        let b = accepted_only in_second.kept in_second.challenge f h q in
        responses_apart h f.nt (a.0.response ∙ ap (λ (x : List ℕ). response_of x in_first.challenge) (sym a.1))
        (b.0.response ∙ ap (λ (x : List ℕ). response_of x in_second.challenge) (sym b.1))

    -- under the same NT hash the block holds the same password
    unchanged : (f : Change) (h : List ℕ) → new_hash_in in_first f ≡ Some h → in_second.kept.nt.octets ≡ in_first.kept.nt.octets → new_hash_in in_second f ≡ None
    unchanged f h p e = which (new_hash_in in_second f) refl
      where
        which : (o : Option (List ℕ)) → new_hash_in in_second f ≡ o → new_hash_in in_second f ≡ None
        which None q = q
        which (Some k) q =
            let same : k ≡ h = (accepted_only in_second.kept in_second.challenge f k q).1
            ∙ ap (λ (x : List ℕ). nt_hash_of (password_in (unsealed_as x f.block) (length_under x f.block))) e ∙ sym (accepted_only in_first.kept in_first.challenge f h p).1 in
            absurd (changed_both f h p (q ∙ ap Some same))

-- what is not true is false
refuted : (t : Bool) → (t ≡ true → ⊥) → t ≡ false
refuted true h = absurd (h refl)
refuted false h = refl

pub none_twice_lem : NoneTwice our_opener
none_twice_lem i first second two ss ts = never i first second two ss ts

pub none_answered_twice_lem : NoneAnsweredTwice our_opener
none_answered_twice_lem i first second two ss ts h k r p =
    refuted (answers h k (reached our_opener second ts).challenge r)
    (answered_both i first second two ss ts h k r p)

pub none_valid_twice_lem : NoneValidTwice our_opener
none_valid_twice_lem i first second two ss ts a f p = refuted (valid_in (reached our_opener second ts) a f) (valid_both i first second two ss ts a f p)

pub none_changed_twice_lem : NoneChangedTwice our_opener
none_changed_twice_lem i first second two ss ts f h p = (changed_both i first second two ss ts f h p, unchanged i first second two ss ts f h p)

-- ---- what was recorded

-- an opening that was not refused has accepted nothing yet
opened_shut : (o : Opening) → (opened o).refusal ≡ 0 → Shut (opened o).conversation
opened_shut o ok =
    subst Shut (sym (opened_first o ok)) (record {
      phase = λ e. absurd (let z : ◌≡◌ {A = ℕ} 0 1 = cc in omega arith);
      last = λ there. absurd (false≢true there);
    })

pub none_opened_lem : NoneOpened our_opener
none_opened_lem i first second two = (
  shut_along (opened second).conversation (Recorded our_opener first) forth
      (opened_shut second (second_opens_lem i first second two)),
  shut_along (opened first).conversation (Recorded our_opener second) back
      (opened_shut first (first_opens_lem i first second two)),
)
  where
    forth : (before : List StepInput) (s : StepInput) → Recorded our_opener first s
        → octet 0 s.packet ≡ response_code
        → valid_in (reached our_opener second before) s.account.account
        (read_response s.packet) ≡ false
    forth before s (inl other) code = absurd (other code)
    forth before s (inr r) code =
        none_valid_twice_lem i first second two r.steps before s.account.account
        (read_response s.packet) r.valid

    back : (before : List StepInput) (s : StepInput) → Recorded our_opener second s
        → octet 0 s.packet ≡ response_code
        → valid_in (reached our_opener first before) s.account.account
        (read_response s.packet) ≡ false
    back before s (inl other) code = absurd (other code)
    back before s (inr r) code =
        refuted (valid_in (reached our_opener first before) s.account.account
        (read_response s.packet))
        (λ p. valid_both i first second two before r.steps s.account.account
        (read_response s.packet) p r.valid)

pub opens_where_it_may : MayOpen our_opener
opens_where_it_may o h =
    let ok = may_open_lem o h.not18 h.not13 h.not2 h.buffer24 h.counts24 h.not16 h.not17 in
    (ok, opened_first o ok, opened_written o ok h.eight)

pub one_list : OneList our_opener
one_list =
    record {
      may_open = opens_where_it_may;
      none_twice = none_twice_lem;
      none_answered_twice = none_answered_twice_lem;
      none_valid_twice = none_valid_twice_lem;
      none_changed_twice = none_changed_twice_lem;
      none_opened = none_opened_lem;
    }
