-- A Response is judged by the round keys that the record carries (document 02, request 2026-10).
-- Those beside the hash that counts decide, and the others have no effect; and where they agree with
-- the hashes, the hashes decide as before.
-- Assumes nothing.
use mathlib.Core.Bool.{Bool, true, false, cond, ◌&&◌}
use mathlib.Core.List.{List}
use mathlib.Core.Path.{◌≡◌, refl, ap, ap₂, ◌∙◌}
use Prim.Native.Nat.{ℕ}
use Rattle.octets.specs.Parts.{agrees}
use Rattle.credentials.specs.Credentials.{response_of, response_under, schedules_of}
use Rattle.credentials.proofs.Laws.{response_under_lem}
use Rattle.accounts.specs.Account.{entry_of, entry_lookup_of, Agree}
use Rattle.accounts.specs.declared.Account.{Account}
use Rattle.accounts.specs.declared.Hash.{Hash}
use Rattle.accounts.specs.declared.Lookup.{Lookup}
use Rattle.accounts.specs.declared.Schedules.{Schedules}
use Rattle.packets.specs.declared.Response.{Response}
use Rattle.verify.specs.Response.{
  uses_nt,
  answers_by_hash,
  valid_by_hash,
  answers,
  valid,
  judging_keys,
  carrying,
  carrying_lookup,
  response_reason,
  checked_with,
  checked_response,
  checked_by_hash,
}
use Rattle.verify.specs.declared.Terms.{Terms}

-- ---- the round keys that are not read

module _ (t : Terms) (challenge : List ℕ) (f : Response) where
  -- each hash with those that are read
  pub valid_carried : (a : Account) → valid t challenge a f
      ≡ valid t challenge (carrying (entry_of a) (judging_keys a f)) f
  unfolding valid
  valid_carried a = which (uses_nt f.flag a.nt)
    where
      which : (u : Bool)
          → cond u (answers a.nt a.nt_keys challenge f.nt)
          (t.lm && answers a.lm a.lm_keys challenge f.lm)
          ≡ cond u (answers a.nt (cond u a.nt_keys a.lm_keys) challenge f.nt)
          (t.lm && answers a.lm (cond u a.nt_keys a.lm_keys) challenge f.lm)
      which true = refl
      which false = refl

  -- so a Response is checked alike
  pub checked_carried : (l : Lookup) → checked_response t challenge l f
      ≡ checked_response t challenge
      (carrying_lookup (entry_lookup_of l) (judging_keys l.account f)) f
  unfolding response_reason
  checked_carried l = ap (checked_with t l) (valid_carried l.account)

-- ---- round keys that agree

-- the response is the hash's own
response_own : (h : Hash) (s : Schedules) (challenge : List ℕ)
    → s.keys ≡ schedules_of h.octets
    → response_under s.keys challenge ≡ response_of h.octets challenge
response_own h s challenge e =
    ap (λ (ks : List ℕ). response_under ks challenge) e ∙ response_under_lem h.octets challenge

answers_own : (h : Hash) (s : Schedules) (challenge response : List ℕ)
    → (h.present ≡ true → s.keys ≡ schedules_of h.octets)
    → answers h s challenge response ≡ answers_by_hash h challenge response
unfolding answers answers_by_hash
answers_own h s challenge response g = which h.present g
  where
    which : (p : Bool) → (p ≡ true → s.keys ≡ schedules_of h.octets)
        → (p && agrees response (response_under s.keys challenge))
        ≡ (p && agrees response (response_of h.octets challenge))
    which true e = ap (agrees response) (response_own h s challenge (e refl))
    which false e = refl

-- The one theorem that ties the two judgements: where they agree, a Response is valid exactly when
-- it was before this request.
pub by_hash : (t : Terms) (challenge : List ℕ) (a : Account) (f : Response) → Agree a
    → valid t challenge a f ≡ valid_by_hash t challenge a f
unfolding valid valid_by_hash
by_hash t challenge a f g =
    ap₂ (λ (n l : Bool). cond (uses_nt f.flag a.nt) n (t.lm && l))
    (answers_own a.nt a.nt_keys challenge f.nt g.nt)
    (answers_own a.lm a.lm_keys challenge f.lm g.lm)

-- So is everything that a Response draws what it was: the reason, and the record's count.
pub checked_by_hash_lem : (t : Terms) (challenge : List ℕ) (l : Lookup) (f : Response)
    → Agree l.account → checked_response t challenge l f ≡ checked_by_hash t challenge l f
unfolding response_reason
checked_by_hash_lem t challenge l f g =
    ap (checked_with t l) (by_hash t challenge l.account f g)
