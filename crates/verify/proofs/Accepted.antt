-- "A change is accepted exactly when ..": the six conditions of document 01 give a new hash, and a
-- new hash is found only where all of them hold. What is to be ignored has no effect.
-- Assumes nothing.
use Rattle.std.specs.Prelude.{Option, Some, None}
use mathlib.Core.Bool.{Bool, true, false, cond, not, true≢false, false≢true}
use mathlib.Core.List.{List}
use mathlib.Core.Path.{◌≡◌, refl, sym, ap, ap₂, ◌∙◌}
use Prim.Native.Nat.{ℕ, ◌%◌, ◌≤◌}
use native.Mathlib.Omega.{arith}
use borrow.Author.Tests.{eq-eqb, eqb-true, eqb-false, le-ltb, ltb-false}
use lib.Dec.{eqb, ltb}
use lib.ListN.{length}
use Rattle.octets.specs.Parts.{agrees}
use Rattle.octets.proofs.Parts.{agrees_refl, agrees_equal}
use Rattle.credentials.specs.Credentials.{nt_hash_of, sealed_block, length_under, unsealed_as}
use Rattle.credentials.specs.Credentials.{password_in}
use Rattle.credentials.proofs.Laws.{length_under_lem, password_sealed}
use Rattle.accounts.specs.Account.{no_hash, hash_of}
use Rattle.accounts.specs.declared.Entry.{Entry}
use Rattle.packets.specs.declared.Change.{Change}
use Rattle.verify.specs.Accepted.{length_for, hash_for, Accepted, SameButIgnored}
use Rattle.verify.specs.Faults.{first_fault, is_faultless}
use Rattle.verify.specs.Change.{bad_verifier, bad_response, change_fault, checked_with}
use Rattle.verify.specs.Change.{checked_change, new_hash}
use Rattle.verify.specs.declared.ChangeFault.{ChangeFault}

-- ---- what a writer makes

-- the length and the hash inside a block that was sealed under the kept record's NT hash
module _ (old filler new : List ℕ) (full : length filler ≡ 512) (fits : length new ≤ 512)
    (kept : Entry) (f : Change) (right : old ≡ kept.nt.octets)
    (block : f.block ≡ sealed_block old filler new) where
  pub length_inside : length_for kept f ≡ length new
  length_inside = ap₂ length_under (sym right) block ∙ length_under_lem filler new full fits old

  pub hash_inside : hash_for kept f ≡ nt_hash_of new
  hash_inside =
      ap₂ (λ (x y : List ℕ). nt_hash_of (password_in (unsealed_as x y) (length_under x y)))
      (sym right) block
      ∙ ap (λ (n : ℕ). nt_hash_of (password_in (unsealed_as old (sealed_block old filler new)) n))
      (length_under_lem filler new full fits old)
      ∙ ap nt_hash_of (password_sealed filler new full fits old)

-- ---- the six tests

none_holds : {a b c d e g : Bool} → a ≡ false → b ≡ false → c ≡ false → d ≡ false → e ≡ false
    → g ≡ false → first_fault a b c d e g ≡ None
unfolding first_fault
none_holds p q r s t u = rw (p, q, r, s, t, u)

each_fails : (a b c d e g : Bool) → is_faultless (first_fault a b c d e g) ≡ true
    → (a ≡ false) × (b ≡ false) × (c ≡ false) × (d ≡ false) × (e ≡ false) × (g ≡ false)
unfolding first_fault
each_fails true b c d e g h = absurd (false≢true h)
each_fails false true c d e g h = absurd (false≢true h)
each_fails false false true d e g h = absurd (false≢true h)
each_fails false false false true e g h = absurd (false≢true h)
each_fails false false false false true g h = absurd (false≢true h)
each_fails false false false false false true h = absurd (false≢true h)
each_fails false false false false false false h = (refl, refl, refl, refl, refl, refl)

-- a test that is denied
pub denied : (t : Bool) → not t ≡ false → t ≡ true
denied true e = refl
denied false e = absurd (true≢false e)

pub agreed : (x y : List ℕ) → x ≡ y → not (agrees x y) ≡ false
agreed x y e = ap (λ (z : List ℕ). not (agrees x z)) (sym e) ∙ ap not (agrees_refl x)

module _ (kept : Entry) (challenge : List ℕ) (f : Change) where
  -- ---- if

  pub accepted_fault : Accepted kept challenge f → change_fault kept challenge f ≡ None
  unfolding change_fault
  accepted_fault a =
      none_holds (ap not a.has_hash) (ap not (eq-eqb (f.flags % 2) 1 a.bit0))
      (le-ltb 512 (length_for kept f) a.at_most_512) (ap (λ (n : ℕ). eqb n 1) a.even)
      (agreed f.verifier _ a.old_hash) (agreed f.nt _ a.response)

  pub accepted_if : Accepted kept challenge f → new_hash kept challenge f ≡ Some (hash_for kept f)
  accepted_if a =
      ap (λ (x : Option ChangeFault). cond (is_faultless x) (Some (hash_for kept f)) None) (accepted_fault a)

  -- ---- only if

  pub no_fault_accepted : is_faultless (change_fault kept challenge f) ≡ true
      → Accepted kept challenge f
  unfolding change_fault
  no_fault_accepted e =
      let t = each_fails (not kept.nt.present) (not (eqb (f.flags % 2) 1))
      (ltb 512 (length_for kept f)) (eqb (length_for kept f % 2) 1)
      (bad_verifier kept f (hash_for kept f)) (bad_response challenge f (hash_for kept f)) e in
      record {
        has_hash = denied _ t.0;
        bit0 = eqb-true (f.flags % 2) 1 (denied _ t.1);
        even = omega (arith, eqb-false (length_for kept f % 2) 1 t.3);
        at_most_512 = ltb-false 512 (length_for kept f) t.2;
        old_hash = agrees_equal f.verifier _ (denied _ t.4);
        response = agrees_equal f.nt _ (denied _ t.5);
      }

  pub accepted_only : (h : List ℕ) → new_hash kept challenge f ≡ Some h
      → Accepted kept challenge f × (h ≡ hash_for kept f)
  accepted_only h e = which (is_faultless (change_fault kept challenge f)) refl e
    where
      which : (t : Bool) → is_faultless (change_fault kept challenge f) ≡ t
          → cond t (Some (hash_for kept f)) None ≡ Some h
          → Accepted kept challenge f × (h ≡ hash_for kept f)
      which true p q = (no_fault_accepted p, cc)
      which false p q = absurd (let z : ◌≡◌ {A = ℕ} 0 1 = cc in omega arith)

  -- and what is checked is that hash, with no fault
  pub checked_accepted : (h : List ℕ) → new_hash kept challenge f ≡ Some h
      → checked_change kept challenge f ≡ checked_with None (hash_of h) no_hash
  unfolding checked_change
  checked_accepted h e =
      let a = accepted_only h e in
      ap₂ (λ (x : Option ChangeFault) (y : List ℕ). checked_with x (hash_of y) no_hash) (accepted_fault
      a.0)
      (sym a.1)

-- ---- what is ignored

-- bit 1 of the flags, the LM block, the old LM hash and the LM response have no effect
pub ignored_change : (kept : Entry) (challenge : List ℕ) (f g : Change) → SameButIgnored f g
    → checked_change kept challenge f ≡ checked_change kept challenge g
unfolding checked_change change_fault
ignored_change kept challenge f g e = simp (e.block, e.bit0, e.verifier, e.nt)
