-- The reasons that a Response draws: which there are, and which an invalid one draws, and a valid
-- one of an account that is permitted to log on. And what makes a response right. -- Assumes nothing.
use mathlib.Core.Bool.{Bool, true, false, cond, not, ◌&&◌}
use mathlib.Core.List.{List}
use mathlib.Core.Logic.{◌≢◌}
use mathlib.Core.Path.{◌≡◌, refl, ap, ap₂, ◌∙◌}
use Prim.Native.Nat.{ℕ, ◌<◌}
use native.Mathlib.Omega.{arith}
use Rattle.octets.specs.Parts.{agrees}
use Rattle.octets.proofs.Parts.{agrees_refl}
use Rattle.credentials.specs.Credentials.{response_of}
use Rattle.accounts.specs.Account.{found, LogonPermitted}
use Rattle.accounts.specs.declared.Account.{Account}
use Rattle.accounts.specs.declared.Entry.{Entry}
use Rattle.accounts.specs.declared.Hash.{Hash}
use Rattle.accounts.specs.declared.Lookup.{Lookup}
use Rattle.message.specs.Reasons.{
  authentication_failure,
  account_disabled,
  restricted_logon_hours,
  no_dialin_permission,
  password_expired,
  changing_password,
  no_reason,
}
use Rattle.packets.specs.declared.Response.{Response}
use Rattle.verify.specs.Response.{
  answers_by_hash,
  judged_valid,
  found_valid,
  first_reason,
  response_reason,
}
use Rattle.verify.specs.declared.Terms.{Terms}

-- a hash's own response to the challenge is right
pub answers_right : (h : Hash) (challenge response : List ℕ) → h.present ≡ true
    → response ≡ response_of h.octets challenge → answers_by_hash h challenge response ≡ true
unfolding answers_by_hash
answers_right h challenge response there e =
    ap₂ (λ (t u : Bool). t && u) there
    (ap (λ (r : List ℕ). agrees r (response_of h.octets challenge)) e
    ∙ agrees_refl (response_of h.octets challenge))

-- RFC 2433's six, and Success
pub data Reason : ℕ → Type 0 where
  success : Reason no_reason
  hours : Reason restricted_logon_hours
  disabled : Reason account_disabled
  expired : Reason password_expired
  dialin : Reason no_dialin_permission
  invalid : Reason authentication_failure
  change : Reason changing_password

-- so a message of three decimal digits tells each
pub three_digits : {e : ℕ} → Reason e → e < 1000
three_digits success = omega arith
three_digits hours = omega arith
three_digits disabled = omega arith
three_digits expired = omega arith
three_digits dialin = omega arith
three_digits invalid = omega arith
three_digits change = omega arith

first_reason_lem : (v : Bool) (a : Entry) → Reason (first_reason v a)
unfolding first_reason
first_reason_lem v a = which v a.disabled a.hours_denied a.dialin_denied a.expired
  where
    which : (v d h n x : Bool)
        → Reason (cond (not v) authentication_failure (cond d account_disabled (cond h restricted_logon_hours (cond n no_dialin_permission (cond x password_expired no_reason)))))
    which false d h n x = invalid
    which true true h n x = disabled
    which true false true n x = hours
    which true false false true x = dialin
    which true false false false true = expired
    which true false false false false = success

-- no Response draws the reason of a change
not_changing : (v : Bool) (a : Entry) → first_reason v a ≢ changing_password
unfolding first_reason
not_changing v a = which v a.disabled a.hours_denied a.dialin_denied a.expired
  where
    which : (v d h n x : Bool)
        → cond (not v) authentication_failure (cond d account_disabled (cond h restricted_logon_hours
        (cond n no_dialin_permission (cond x password_expired no_reason)))) ≢ changing_password
    which false d h n x e = omega (arith, e)
    which true true h n x e = omega (arith, e)
    which true false true n x e = omega (arith, e)
    which true false false true x e = omega (arith, e)
    which true false false false true e = omega (arith, e)
    which true false false false false e = omega (arith, e)

-- and only what is not judged valid draws that of an invalid one
pub failed_invalid : (v : Bool) (a : Entry) → first_reason v a ≡ authentication_failure → v ≡ false
unfolding first_reason
failed_invalid v a = which v a.disabled a.hours_denied a.dialin_denied a.expired
  where
    which : (v d h n x : Bool)
        → cond (not v) authentication_failure (cond d account_disabled (cond h restricted_logon_hours
        (cond n no_dialin_permission (cond x password_expired no_reason)))) ≡ authentication_failure
        → v ≡ false
    which false d h n x e = refl
    which true true h n x e = absurd (omega (arith, e))
    which true false true n x e = absurd (omega (arith, e))
    which true false false true x e = absurd (omega (arith, e))
    which true false false false true e = absurd (omega (arith, e))
    which true false false false false e = absurd (omega (arith, e))

module _ (t : Terms) (challenge : List ℕ) (f : Response) where
  pub response_not_changing : (l : Lookup) → response_reason t challenge l f ≢ changing_password
  unfolding response_reason
  response_not_changing l = not_changing _ _

  pub response_reason_lem : (l : Lookup) → Reason (response_reason t challenge l f)
  unfolding response_reason
  response_reason_lem l = first_reason_lem _ _

  -- no record, or an invalid Response
  pub reason_invalid : (l : Lookup) → found_valid t challenge l f ≡ false
      → response_reason t challenge l f ≡ authentication_failure
  unfolding response_reason first_reason
  reason_invalid l v = simp v

  -- one that is judged valid, of an account that is permitted to log on
  pub permitted_reason : (a : Account) → LogonPermitted a → judged_valid t challenge a f ≡ true
      → response_reason t challenge (found a) f ≡ cond a.expired password_expired no_reason
  unfolding response_reason first_reason
  permitted_reason a g v = rw (v, g.enabled, g.hours, g.dialin)
