-- "the first that holds": what is told of a change holds, and none before it does; of an accepted
-- change none is told. Each fault has a number of its own.
-- Assumes nothing.
use Rattle.std.specs.Prelude.{Option, Some, None}
use mathlib.Core.Bool.{Bool, true, false, not, true≢false, false≢true}
use mathlib.Core.List.{List}
use mathlib.Core.Path.{◌≡◌, refl, sym, ap, ◌∙◌, subst}
use Prim.Native.Nat.{ℕ, suc, ◌%◌, ◌<◌}
use native.Mathlib.Omega.{arith}
use borrow.Author.Tests.{eqb-true, eqb-false, ltb-true, ltb-false}
use lib.Dec.{eqb, ltb}
use Rattle.octets.specs.Parts.{agrees}
use Rattle.octets.proofs.Parts.{agrees_refl, agrees_equal}
use Rattle.accounts.specs.declared.Entry.{Entry}
use Rattle.packets.specs.declared.Change.{Change}
use Rattle.verify.specs.Accepted.{length_for, hash_for}
use Rattle.verify.specs.Faults.{first_fault, fault_number, fault_with, is_faultless}
use Rattle.verify.specs.Change.{bad_verifier, bad_response, change_fault}
use Rattle.verify.specs.FirstFault.{Holds, IsFirst}
use Rattle.verify.specs.declared.ChangeFault.{ChangeFault}
use Rattle.verify.specs.declared.ChangeFault.TheVariants.{
  NoNtHash,
  NoNtResponse,
  LengthOver,
  LengthOdd,
  OldHashWrong,
  ResponseWrong,
  LmNotAllowed,
  LengthOverLm,
  HashAbsent,
  HashWrong,
}
use Rattle.verify.proofs.Accepted.{accepted_fault, no_fault_accepted, denied}

-- ---- numbers

pub fault_back : (fault : Option ChangeFault) → fault_with (fault_number fault) ≡ fault
fault_back None = refl
fault_back (Some NoNtHash) = refl
fault_back (Some NoNtResponse) = refl
fault_back (Some LengthOver) = refl
fault_back (Some LengthOdd) = refl
fault_back (Some OldHashWrong) = refl
fault_back (Some ResponseWrong) = refl
fault_back (Some LmNotAllowed) = refl
fault_back (Some LengthOverLm) = refl
fault_back (Some HashAbsent) = refl
fault_back (Some HashWrong) = refl

pub fault_small : (fault : Option ChangeFault) → fault_number fault < 11
fault_small None = omega arith
fault_small (Some NoNtHash) = omega arith
fault_small (Some NoNtResponse) = omega arith
fault_small (Some LengthOver) = omega arith
fault_small (Some LengthOdd) = omega arith
fault_small (Some OldHashWrong) = omega arith
fault_small (Some ResponseWrong) = omega arith
fault_small (Some LmNotAllowed) = omega arith
fault_small (Some LengthOverLm) = omega arith
fault_small (Some HashAbsent) = omega arith
fault_small (Some HashWrong) = omega arith

pub same_number : (x y : Option ChangeFault) → fault_number x ≡ fault_number y → x ≡ y
same_number x y e = sym (fault_back x) ∙ ap fault_with e ∙ fault_back y

-- ---- tests

pub affirmed : (t : Bool) → not t ≡ true → t ≡ false
affirmed true e = absurd (false≢true e)
affirmed false e = refl

pub differ : (x y : List ℕ) → not (agrees x y) ≡ true → x ≡ y → ⊥
differ x y n e =
    true≢false (sym (ap (agrees x) (sym e) ∙ agrees_refl x) ∙ affirmed (agrees x y) n)

-- ---- the first of them, whatever each says

module _ (Holds : Option ChangeFault → Type 0) where
  -- none with a number under this one holds
  abbrev pub Below : ℕ → Type 0
  Below n = (other : Option ChangeFault) → fault_number other < n → Holds other → ⊥

  -- one more that does not hold
  pub below_next : (x : Option ChangeFault) → Below (fault_number x) → (Holds x → ⊥)
      → Below (suc (fault_number x))
  below_next x below fails y lt h = which (eqb (fault_number y) (fault_number x)) refl
    where
      which : (t : Bool) → eqb (fault_number y) (fault_number x) ≡ t → ⊥
      which true e =
          fails (subst Holds (same_number y x (eqb-true (fault_number y) (fault_number x) e)) h)
      which false e = below y (omega (arith, lt, eqb-false (fault_number y) (fault_number x) e)) h

  pub below_none : Below 0
  below_none y lt h = omega (arith, lt)

  -- there is one alone, so that the sentence decides which is told
  pub one_first : (x y : Option ChangeFault) → IsFirst Holds x → IsFirst Holds y → x ≡ y
  one_first x y p q =
      which (ltb (fault_number x) (fault_number y)) (ltb (fault_number y) (fault_number x)) refl refl
    where
      which : (s t : Bool) → ltb (fault_number x) (fault_number y) ≡ s
          → ltb (fault_number y) (fault_number x) ≡ t → x ≡ y
      which true t e g = absurd (q.none_before x (ltb-true _ _ e) p.holds)
      which false true e g = absurd (p.none_before y (ltb-true _ _ g) q.holds)
      which false false e g =
          let least = ltb-false (fault_number x) (fault_number y) e in
          let most = ltb-false (fault_number y) (fault_number x) g in
          same_number x y (omega (arith, least, most))

-- ---- a version 2 change

module _ (kept : Entry) (challenge : List ℕ) (f : Change) where
  abbrev under : ℕ → Type 0
  under n = Below (Holds kept challenge f) n

  -- where a fault is told, the change is not accepted
  below_first : {x : Option ChangeFault} → change_fault kept challenge f ≡ x → 0 < fault_number x → under 1
  below_first e pos = below_next (Holds kept challenge f) None
      (below_none (Holds kept challenge f))
      (λ h. omega (arith, pos, ap fault_number (sym e ∙ accepted_fault kept challenge f h)))

  -- a test that fails
  absent : not kept.nt.present ≡ false → under 1 → under 2
  absent e b = below_next (Holds kept challenge f) (Some NoNtHash) b (λ h. false≢true (sym h ∙ denied
      kept.nt.present e))

  clear : not (eqb (f.flags % 2) 1) ≡ false → under 2 → under 3
  clear e b =
      below_next (Holds kept challenge f) (Some NoNtResponse) b (λ h. omega (
        arith,
        h,
        eqb-true
            (f.flags % 2) 1 (denied _ e),
      ))

  over : ltb 512 (length_for kept f) ≡ false → under 3 → under 4
  over e b = below_next (Holds kept challenge f) (Some LengthOver) b (λ h. omega (
    arith,
    h,
    ltb-false 512
        (length_for kept f) e,
  ))

  odd : eqb (length_for kept f % 2) 1 ≡ false → under 4 → under 5
  odd e b = below_next (Holds kept challenge f) (Some LengthOdd) b (eqb-false (length_for kept f % 2) 1 e)

  old : bad_verifier kept f (hash_for kept f) ≡ false → under 5 → under 6
  old e b = below_next (Holds kept challenge f) (Some OldHashWrong) b (λ h. h (agrees_equal
      f.verifier _ (denied _ e)))

  pub first_fault_lem : IsFirst (Holds kept challenge f) (change_fault kept challenge f)
  unfolding change_fault first_fault
  first_fault_lem =
      which (not kept.nt.present) (not (eqb (f.flags % 2) 1)) (ltb 512 (length_for kept f))
      (eqb (length_for kept f % 2) 1) (bad_verifier kept f (hash_for kept f))
      (bad_response challenge f (hash_for kept f)) refl refl refl refl refl refl refl
    where
      which : (a b c d e g : Bool) → not kept.nt.present ≡ a → not (eqb (f.flags % 2) 1) ≡ b
          → ltb 512 (length_for kept f) ≡ c → eqb (length_for kept f % 2) 1 ≡ d
          → bad_verifier kept f (hash_for kept f) ≡ e → bad_response challenge f (hash_for kept f) ≡ g
          → change_fault kept challenge f ≡ first_fault a b c d e g
          → IsFirst (Holds kept challenge f) (first_fault a b c d e g)
      which true b c d e g p q r s t u z =
          record { holds = affirmed _ p; none_before = below_first z (omega arith) }
      which false true c d e g p q r s t u z =
          record {
            holds = omega (arith, eqb-false (f.flags % 2) 1 (affirmed _ q));
            none_before = absent p (below_first z (omega arith));
          }
      which false false true d e g p q r s t u z =
          record {
            holds = ltb-true 512 (length_for kept f) r;
            none_before = clear q (absent p (below_first z (omega arith)));
          }
      which false false false true e g p q r s t u z =
          record {
            holds = eqb-true (length_for kept f % 2) 1 s;
            none_before = over r (clear q (absent p (below_first z (omega arith))));
          }
      which false false false false true g p q r s t u z =
          record {
            holds = differ f.verifier _ t;
            none_before = odd s (over r (clear q (absent p (below_first z (omega arith)))));
          }
      which false false false false false true p q r s t u z =
          record {
            holds = differ f.nt _ u;
            none_before =
                old t (odd s (over r (clear q (absent p (below_first z (omega arith))))));
          }
      which false false false false false false p q r s t u z =
          record {
            holds = no_fault_accepted kept challenge f (ap is_faultless z);
            none_before = λ y lt h. omega (arith, lt);
          }
