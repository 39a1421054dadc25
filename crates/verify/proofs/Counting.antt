-- Lockout: when an account is locked, what a Response is judged then, and how its count moves.
-- Assumes nothing.
use mathlib.Core.Bool.{Bool, true, false, cond, not, ◌&&◌, true≢false, false≢true}
use mathlib.Core.List.{List}
use mathlib.Core.Logic.{◌⊎◌, inl, inr}
use mathlib.Core.Path.{◌≡◌, refl, ap, ◌∙◌}
use Prim.Native.Nat.{ℕ, suc, ◌≤◌, ◌<◌}
use native.Mathlib.Omega.{arith}
use borrow.Author.Tests.{ltb-true, lt-ltb, leb-true, le-leb, lt-leb}
use lib.Dec.{ltb}
use Rattle.accounts.specs.Account.{with_failures, found, entry_of}
use Rattle.accounts.specs.declared.Account.{Account}
use Rattle.packets.specs.declared.Response.{Response}
use Rattle.message.specs.Reasons.{authentication_failure}
use Rattle.verify.specs.Lockout.{is_locked, most_failures, one_more, failures_after}
use Rattle.verify.specs.Response.{valid, judged_valid, counted, response_reason}
use Rattle.verify.specs.declared.Terms.{Terms}
use Rattle.verify.proofs.Reasons.{failed_invalid}

-- ---- "at or over a limit"

pub at_limit : (t : Terms) (a : Account) → t.limit ≤ a.failures → is_locked t a ≡ true
at_limit t a h = le-leb t.limit a.failures h

pub below_limit : (t : Terms) (a : Account) → a.failures < t.limit → is_locked t a ≡ false
below_limit t a h = lt-leb t.limit a.failures h

-- ---- the count

-- "adds 1": there is room for one more below 255
pub one_more_lem : (n : ℕ) → n < most_failures → one_more n ≡ suc n
one_more_lem n h = rw (lt-ltb n most_failures h)

-- "to at most 255": it neither wraps nor falls
pub never_falls : (n : ℕ) → n ≤ one_more n
never_falls n = which (ltb n most_failures)
  where
    which : (t : Bool) → n ≤ cond t (suc n) n
    which true = omega arith
    which false = omega arith

pub at_most_one_more : (n : ℕ) → one_more n ≤ suc n
at_most_one_more n = which (ltb n most_failures)
  where
    which : (t : Bool) → cond t (suc n) n ≤ suc n
    which true = omega arith
    which false = omega arith

pub at_most : (n : ℕ) → n ≤ most_failures → one_more n ≤ most_failures
at_most n h = which (ltb n most_failures) refl
  where
    which : (t : Bool) → ltb n most_failures ≡ t → cond t (suc n) n ≤ most_failures
    which true e = omega (arith, ltb-true n most_failures e)
    which false e = omega arith

-- "a valid one sets it to 0", and one that is judged invalid leaves no less than there was: at a
-- locked account a right guess clears nothing
pub clears : (n : ℕ) → failures_after false true n ≡ 0
unfolding failures_after
clears n = refl

pub keeps_locked : (v : Bool) (n : ℕ) → n ≤ failures_after true v n
unfolding failures_after
keeps_locked true n = omega arith
keeps_locked false n = never_falls n

-- "a valid one adds nothing"
pub adds_nothing : (n : ℕ) → failures_after true true n ≡ n
unfolding failures_after
adds_nothing n = refl

-- "each judged invalid Response adds 1"
pub adds_one : (locked : Bool) (n : ℕ) → failures_after locked false n ≡ one_more n
unfolding failures_after
adds_one locked n = refl

-- ---- a Response

module _ (t : Terms) (challenge : List ℕ) (a : Account) (f : Response) where
  -- below the limit the Response itself decides
  pub judged_below : a.failures < t.limit → judged_valid t challenge a f ≡ valid t challenge a f
  judged_below h = ap (λ (l : Bool). not l && valid t challenge a f) (below_limit t a h)

  -- at the limit none is judged valid
  pub judged_at_limit : t.limit ≤ a.failures → judged_valid t challenge a f ≡ false
  judged_at_limit h = ap (λ (l : Bool). not l && valid t challenge a f) (at_limit t a h)

  -- one that is judged valid clears the count
  pub counted_valid : judged_valid t challenge a f ≡ true → counted t challenge a f ≡ with_failures 0 a
  counted_valid h =
      which (is_locked t a) (valid t challenge a f) h
    where
      which : (l v : Bool) → (not l && v) ≡ true
          → with_failures (failures_after l v a.failures) a ≡ with_failures 0 a
      which true v e = absurd (false≢true e)
      which false true e = ap (λ (n : ℕ). with_failures n a) (clears a.failures)
      which false false e = absurd (false≢true e)

  -- an invalid one adds 1
  pub counted_invalid : valid t challenge a f ≡ false
      → counted t challenge a f ≡ with_failures (one_more a.failures) a
  counted_invalid h =
      ap (λ (v : Bool). with_failures (failures_after (is_locked t a) v a.failures) a) h
      ∙ ap (λ (n : ℕ). with_failures n a) (adds_one (is_locked t a) a.failures)

  -- one that draws 691 adds 1, or the account is locked and its count does not fall
  pub counted_failed : response_reason t challenge (found a) f ≡ authentication_failure
      → ((counted t challenge a f).failures ≡ one_more a.failures)
      ⊎ ((t.limit ≤ a.failures) × (a.failures ≤ (counted t challenge a f).failures))
  unfolding response_reason
  counted_failed e = which (is_locked t a) (valid t challenge a f) refl
      (failed_invalid (judged_valid t challenge a f) (entry_of a) e)
    where
      which : (l v : Bool) → is_locked t a ≡ l → (not l && v) ≡ false
          → (failures_after l v a.failures ≡ one_more a.failures)
          ⊎ ((t.limit ≤ a.failures) × (a.failures ≤ failures_after l v a.failures))
      which true v p q = inr (leb-true t.limit a.failures p, keeps_locked v a.failures)
      which false true p q = absurd (true≢false q)
      which false false p q = inl (adds_one false a.failures)
