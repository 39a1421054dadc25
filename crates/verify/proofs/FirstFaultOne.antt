-- "its reason the first of ..": what is told of a version 1 change holds, and none before it does;
-- a change is accepted exactly where none is told, and what its record then gets.
-- Assumes nothing.
use Rattle.std.specs.Prelude.{Option, Some, None}
use mathlib.Core.Bool.{Bool, true, false, cond, not, false≢true}
use mathlib.Core.List.{List}
use mathlib.Core.Logic.{inl, inr}
use mathlib.Core.Path.{◌≡◌, refl, sym, ap, ◌∙◌, subst}
use Prim.Native.Nat.{ℕ, ◌%◌, ◌<◌}
use native.Mathlib.Omega.{arith}
use borrow.Author.Tests.{eq-eqb, ne_eqb, eqb-true, eqb-false, le-ltb, ltb-true, ltb-false}
use Rattle.octets.proofs.Parts.{agrees_equal}
use Rattle.credentials.specs.Credentials.{challenge_key, hash_under_challenge, hash_from_challenge}
use Rattle.accounts.specs.Account.{no_hash}
use Rattle.accounts.specs.declared.Entry.{Entry}
use Rattle.accounts.specs.declared.Hash.{Hash}
use Rattle.packets.specs.declared.ChangeOne.{ChangeOne}
use Rattle.verify.specs.Change.{checked_with}
use Rattle.verify.specs.Faults.{first_fault_one, fault_number, is_faultless}
use Rattle.verify.specs.AcceptedOne.{AcceptedNt, AcceptedLm, AcceptedOne}
use Rattle.verify.specs.ChangeOne.{
  nt_asked,
  over_lm,
  bad_old,
  new_in,
  nt_fault,
  checked_nt,
  lm_fault,
  checked_lm,
  change_one_fault,
  checked_change_one,
}
use Rattle.verify.specs.FirstFault.{asked_hash, asked_field, HoldsOne, IsFirst}
use Rattle.verify.specs.declared.ChangeFault.{ChangeFault}
use Rattle.verify.specs.declared.ChangeFault.TheVariants.{NoNtHash, NoNtResponse}
use Rattle.verify.specs.declared.ChangeFault.TheVariants.{LengthOver, LengthOdd}
use Rattle.verify.specs.declared.ChangeFault.TheVariants.{OldHashWrong, ResponseWrong}
use Rattle.verify.specs.declared.ChangeFault.TheVariants.{LmNotAllowed, LengthOverLm}
use Rattle.verify.specs.declared.ChangeFault.TheVariants.{HashAbsent, HashWrong}
use Rattle.verify.specs.declared.Terms.{Terms}
use Rattle.verify.proofs.Accepted.{denied, agreed}
use Rattle.verify.proofs.FirstFault.{
  same_number,
  affirmed,
  differ,
  Below,
  below_next,
  below_none,
}

module _ (t : Terms) (kept : Entry) (challenge : List ℕ) (f : ChangeOne) where
  asked : f.flags % 2 ≡ 1 → nt_asked f ≡ true
  asked e = eq-eqb (f.flags % 2) 1 e

  not_asked : f.flags % 2 ≡ 0 → nt_asked f ≡ false
  not_asked e = ne_eqb (f.flags % 2) 1 (λ o. omega (arith, o, e))

  -- ---- if

  nt_faultless : AcceptedNt kept challenge f → nt_fault kept challenge f ≡ None
  unfolding first_fault_one
  nt_faultless a = rw (ap not a.has_hash, agreed f.ntold _ a.old_hash)

  lm_faultless : AcceptedLm t kept challenge f → lm_fault t kept challenge f ≡ None
  unfolding first_fault_one
  lm_faultless a =
      rw (
        ap not a.allowed,
        le-ltb 14 f.length a.at_most_14,
        ap not a.has_hash,
        agreed f.lmold _ a.old_hash,
      )

  pub accepted_fault_one : AcceptedOne t kept challenge f
      → change_one_fault t kept challenge f ≡ None
  unfolding change_one_fault
  accepted_fault_one (inl a) =
      ap (λ (b : Bool). cond b (nt_fault kept challenge f) (lm_fault t kept challenge f))
      (asked a.bit0)
      ∙ nt_faultless a
  accepted_fault_one (inr a) =
      ap (λ (b : Bool). cond b (nt_fault kept challenge f) (lm_fault t kept challenge f))
      (not_asked a.bit0)
      ∙ lm_faultless a

  -- "the record gets the new NT hash, and the new LM hash if the password length is at most 14,
  -- else none"
  pub accepted_nt : AcceptedNt kept challenge f
      → checked_change_one t kept challenge f
      ≡ checked_with None (new_in challenge f.ntnew)
      (cond (over_lm f) no_hash (new_in challenge f.lmnew))
  unfolding checked_change_one
  accepted_nt a =
      ap (λ (b : Bool). cond b (checked_nt kept challenge f) (checked_lm t kept challenge f))
      (asked a.bit0)
      ∙ ap (λ (x : Option ChangeFault). checked_with x (new_in challenge f.ntnew)
      (cond (over_lm f) no_hash (new_in challenge f.lmnew))) (nt_faultless a)

  -- "the record gets the new LM hash and no NT hash"
  pub accepted_lm : AcceptedLm t kept challenge f
      → checked_change_one t kept challenge f
      ≡ checked_with None no_hash (new_in challenge f.lmnew)
  unfolding checked_change_one
  accepted_lm a =
      ap (λ (b : Bool). cond b (checked_nt kept challenge f) (checked_lm t kept challenge f))
      (not_asked a.bit0)
      ∙ ap (λ (x : Option ChangeFault). checked_with x no_hash (new_in challenge f.lmnew))
      (lm_faultless a)

  -- the fault that is told is that of the definition
  pub fault_one : (checked_change_one t kept challenge f).fault ≡ change_one_fault t kept challenge f
  unfolding checked_change_one change_one_fault
  fault_one = which (nt_asked f)
    where
      which : (b : Bool)
          → (cond b (checked_nt kept challenge f) (checked_lm t kept challenge f)).fault
          ≡ cond b (nt_fault kept challenge f) (lm_fault t kept challenge f)
      which true = refl
      which false = refl

  -- ---- the first

  abbrev H : Option ChangeFault → Type 0
  H x = HoldsOne t kept challenge f x

  -- where a fault is told, the change is not accepted, and none of version 2's holds
  below_one : {x : Option ChangeFault} → change_one_fault t kept challenge f ≡ x → 0 < fault_number x
      → Below H 7
  below_one e pos =
      below_next H (Some ResponseWrong) (below_next H (Some OldHashWrong) (below_next H (Some LengthOdd)
      (below_next H (Some LengthOver) (below_next H (Some NoNtResponse) (below_next H (Some NoNtHash)
      (below_next H None (below_none H)
      (λ h. omega (arith, pos, ap fault_number (sym e ∙ accepted_fault_one h))))
      (λ h. h)) (λ h. h)) (λ h. h)) (λ h. h)) (λ h. h)) (λ h. h)

  -- the hash and the field that are asked for
  asked_hash_lem : {b : Bool} → nt_asked f ≡ b → asked_hash kept f ≡ cond b kept.nt kept.lm
  asked_hash_lem e = ap (λ (b : Bool). cond b kept.nt kept.lm) e

  asked_field_lem : {b : Bool} → nt_asked f ≡ b → asked_field f ≡ cond b f.ntold f.lmold
  asked_field_lem e = ap (λ (b : Bool). cond b f.ntold f.lmold) e

  absent_holds : {b : Bool} → nt_asked f ≡ b → not (cond b kept.nt kept.lm).present ≡ true
      → H (Some HashAbsent)
  absent_holds e n = ap (λ (h : Hash). h.present) (asked_hash_lem e) ∙ affirmed _ n

  absent_fails : {b : Bool} → nt_asked f ≡ b → not (cond b kept.nt kept.lm).present ≡ false
      → H (Some HashAbsent) → ⊥
  absent_fails e n h =
      false≢true (sym h ∙ ap (λ (h : Hash). h.present) (asked_hash_lem e) ∙ denied _ n)

  wrong_holds : {b : Bool} → nt_asked f ≡ b
      → bad_old (cond b kept.nt kept.lm) challenge (cond b f.ntold f.lmold) ≡ true
      → H (Some HashWrong)
  wrong_holds e n h =
      differ _ _ n (sym (asked_field_lem e) ∙ h
      ∙ ap (λ (x : Hash). hash_under_challenge x.octets challenge) (asked_hash_lem e))

  pub first_fault_one_lem : IsFirst H (change_one_fault t kept challenge f)
  unfolding change_one_fault first_fault_one
  first_fault_one_lem = which (nt_asked f) refl
    where
      nt : (a w : Bool) → nt_asked f ≡ true → not kept.nt.present ≡ a
          → bad_old kept.nt challenge f.ntold ≡ w
          → change_one_fault t kept challenge f ≡ first_fault_one false false a w
          → IsFirst H (first_fault_one false false a w)
      nt a w e p q z =
          let odd = eqb-true (f.flags % 2) 1 e in
          let begin : 0 < fault_number (first_fault_one false false a w) → Below H 9 =
          λ pos. below_next H (Some LengthOverLm) (below_next H (Some LmNotAllowed) (below_one z pos)
          (λ h. omega (arith, h.0, odd))) (λ h. omega (arith, h.0, odd)) in
          by a w e p q odd begin
        where
          by : (a w : Bool) → nt_asked f ≡ true → not kept.nt.present ≡ a
              → bad_old kept.nt challenge f.ntold ≡ w → f.flags % 2 ≡ 1
              → (0 < fault_number (first_fault_one false false a w) → Below H 9)
              → IsFirst H (first_fault_one false false a w)
          by true w e p q odd begin =
              record { holds = absent_holds e p; none_before = begin (omega arith) }
          by false true e p q odd begin =
              record {
                holds = wrong_holds e q;
                none_before = below_next H (Some HashAbsent) (begin (omega arith)) (absent_fails e p);
              }
          by false false e p q odd begin =
              record {
                holds = inl (record {
                  bit0 = odd;
                  has_hash = denied _ p;
                  old_hash = agrees_equal f.ntold _ (denied _ q);
                });
                none_before = λ y lt h. omega (arith, lt);
              }

      lm : (l o a w : Bool) → nt_asked f ≡ false → not t.lm ≡ l → over_lm f ≡ o
          → not kept.lm.present ≡ a → bad_old kept.lm challenge f.lmold ≡ w
          → change_one_fault t kept challenge f ≡ first_fault_one l o a w
          → IsFirst H (first_fault_one l o a w)
      lm l o a w e p q r s z = by l o a w p q r s (below_one z)
        where
          even : f.flags % 2 ≡ 0
          even = omega (arith, eqb-false (f.flags % 2) 1 e)

          allowed : not t.lm ≡ false → Below H 7 → Below H 8
          allowed n b = below_next H (Some LmNotAllowed) b (λ h. false≢true (sym h.1 ∙ denied _ n))

          short : over_lm f ≡ false → Below H 8 → Below H 9
          short n b =
              below_next H (Some LengthOverLm) b (λ h. omega (arith, h.1, ltb-false 14 f.length n))

          by : (l o a w : Bool) → not t.lm ≡ l → over_lm f ≡ o → not kept.lm.present ≡ a
              → bad_old kept.lm challenge f.lmold ≡ w
              → (0 < fault_number (first_fault_one l o a w) → Below H 7)
              → IsFirst H (first_fault_one l o a w)
          by true o a w p q r s begin =
              record { holds = (even, affirmed _ p); none_before = begin (omega arith) }
          by false true a w p q r s begin =
              record {
                holds = (even, ltb-true 14 f.length q);
                none_before = allowed p (begin (omega arith));
              }
          by false false true w p q r s begin =
              record {
                holds = absent_holds e r;
                none_before = short q (allowed p (begin (omega arith)));
              }
          by false false false true p q r s begin =
              record {
                holds = wrong_holds e s;
                none_before = below_next H (Some HashAbsent) (short q (allowed p (begin (omega arith))))
                    (absent_fails e r);
              }
          by false false false false p q r s begin =
              record {
                holds = inr (record {
                  bit0 = even;
                  allowed = denied _ p;
                  at_most_14 = ltb-false 14 f.length q;
                  has_hash = denied _ r;
                  old_hash = agrees_equal f.lmold _ (denied _ s);
                });
                none_before = λ y lt h. omega (arith, lt);
              }

      which : (b : Bool) → nt_asked f ≡ b → IsFirst H (change_one_fault t kept challenge f)
      which true e =
          let z = ap (λ (b : Bool). cond b (nt_fault kept challenge f) (lm_fault t kept challenge f))
          e in
          subst (IsFirst H) (sym z)
          (nt (not kept.nt.present) (bad_old kept.nt challenge f.ntold) e refl refl z)
      which false e =
          let z = ap (λ (b : Bool). cond b (nt_fault kept challenge f) (lm_fault t kept challenge f))
          e in
          subst (IsFirst H) (sym z)
          (lm (not t.lm) (over_lm f) (not kept.lm.present)
          (bad_old kept.lm challenge f.lmold) e refl refl refl refl z)

  -- ---- only if

  pub no_fault_one : is_faultless (change_one_fault t kept challenge f) ≡ true
      → AcceptedOne t kept challenge f
  no_fault_one e =
      subst H (same_number (change_one_fault t kept challenge f) None (eqb-true _ 0 e))
      first_fault_one_lem.holds

-- ---- what the challenge decides

-- Its first seven octets alone: a change that is accepted under one challenge is accepted under any
-- other that begins so, by the same record. What keeps a recorded one from opening a second box is
-- the Response before it (`series` OneList `NoneOpened`).
pub seven_checked : (t : Terms) (kept : Entry) (c d : List ℕ) (f : ChangeOne)
    → challenge_key c ≡ challenge_key d
    → checked_change_one t kept c f ≡ checked_change_one t kept d f
unfolding checked_change_one hash_under_challenge hash_from_challenge
seven_checked t kept c d f e = rw e
