-- The steps that take our peer's packets, each as the outcome that it is equal to.
-- Assumes nothing.
use Rattle.std.specs.Prelude.{Some, None}
use mathlib.Core.Bool.{Bool, true, false, cond, ◌&&◌}
use mathlib.Core.List.{List, ◌++◌}
use mathlib.Core.Path.{◌≡◌, refl, sym, ap, ap₂, ◌∙◌}
use Prim.Native.Nat.{ℕ, ◌%◌, ◌≤◌, ◌<◌}
use native.Mathlib.Omega.{arith}
use borrow.Author.Tests.{eq-eqb}
use lib.Dec.{eqb}
use lib.ListN.{length}
use Rattle.credentials.specs.Credentials.{nt_hash_of, response_of, old_under_new}
use Rattle.credentials.specs.Credentials.{hash_under_challenge}
use Rattle.credentials.proofs.Laws.{length_nt, octets_nt}
use Rattle.credentials.proofs.UnderChallenge.{from_under}
use Rattle.packets.specs.Frame.{octet, bad_frame}
use Rattle.packets.specs.Response.{read_response}
use Rattle.accounts.specs.Account.{hash_of, no_hash, found, with_failures, Rightful, Agree}
use Rattle.verify.specs.Response.{answers_by_hash, valid_by_hash, found_valid, counted_lookup}
use Rattle.authenticator.specs.Judge.{valid_in, new_hash_in, checked_for}
use Rattle.authenticator.specs.Conversation.{change_code_of, awaited_code, is_ended}
use Rattle.authenticator.specs.Admit.{change_refusal_of, body_refusal}
use Rattle.verify.specs.AcceptedOne.{AcceptedNt}
use Rattle.verify.specs.Change.{checked_with, checked_change}
use Rattle.verify.specs.ChangeOne.{new_in, checked_change_one}
use Rattle.verify.specs.declared.ChangeVersion.{ChangeVersion}
use Rattle.verify.specs.declared.ChangeVersion.TheVariants.{One, Two}
use Rattle.verify.specs.Accepted.{hash_for, Accepted}
use Rattle.authenticator.specs.Step.{judged_as, step}
use Rattle.accounts.specs.declared.Account.{Account}
use Rattle.accounts.specs.declared.Hash.{Hash}
use Rattle.accounts.specs.declared.Lookup.{Lookup}
use Rattle.packets.specs.declared.Response as responses
use Rattle.packets.specs.declared.Change as twos
use Rattle.packets.specs.declared.ChangeOne as changes
use Rattle.authenticator.proofs.Admitted.{Passes}
use Rattle.authenticator.proofs.Fresh.{Fresh, new_packet}
use Rattle.authenticator.proofs.Judged.{
  try_again,
  expired_for,
  accepted,
  changed_to,
  invalid_law,
  valid_law,
  change_law,
}
use Rattle.verify.proofs.Accepted.{length_inside, hash_inside, accepted_if, checked_accepted}
use Rattle.verify.proofs.FirstFaultOne.{accepted_nt}
use Rattle.verify.proofs.Counting.{judged_below}
use Rattle.verify.proofs.Carried.{by_hash}
use Rattle.verify.proofs.Reasons.{answers_right}
use Rattle.authenticator.specs.declared.Conversation.{Conversation}
use Rattle.authenticator.specs.declared.Phase.{Phase}
use Rattle.authenticator.specs.declared.Phase.TheVariants.{Response, Change}
use Rattle.peer.specs.Write.{response_fields, change_fields, change_one_fields}
use Rattle.peer.specs.Write.{response_for, change_for, change_one_for}
use Rattle.peer.specs.declared.Turn.{Turn}
use Rattle.packets.proofs.ReadBack.{ResponseBack}
use Rattle.peer.proofs.Found.{response_flag, change_flags, change_one_flags}
use Rattle.peer.proofs.Found.{response_found, change_found, change_one_found}

-- the box awaits the identifier, and has in force the challenge, of our peer's turn
pub record InStep (c : Conversation) (t : Turn) : Type 0 where
  pub id : c.id ≡ t.id
  pub challenge : c.challenge ≡ t.challenge

valid_nt : (s t u v : Bool) → s ≡ true → t ≡ true → u ≡ true → cond (s && t) u v ≡ true
valid_nt s t u v p q r = rw (p, q, r)

-- a well-formed Response to the awaited identifier passes every check
pub response_passes : (c : Conversation) → Fresh c → c.phase ≡ Response
    → {b : List ℕ} → 17 ≤ length b → {id : ℕ} {f : responses.Response} {name p : List ℕ}
    → ResponseBack id f name p → c.id ≡ id → f.flag < 2 → Passes c p b
response_passes c fresh ph room {p = p} back id flag =
    record {
      readable = record { room = room; frame = back.frame };
      fresh = new_packet c p fresh (ap is_ended ph) (back.id ∙ sym id);
      live = ap is_ended ph;
      code = back.code ∙ sym (ap (awaited_code c.terms.change) ph);
      id = back.id ∙ sym id;
      body = ap (λ (x : Phase). body_refusal c.terms.change x p) ph ∙ back.fit flag;
    }

-- ---- a try

-- a Response from the right password to the challenge in force is valid, whatever its identifier
module _ (c : Conversation) (t : Turn) (same : c.challenge ≡ t.challenge)
    (password name after : List ℕ)
    (named : (1 ≤ length name) × (length name ≤ 256)) (a : Account) (there : a.nt.present ≡ true)
    (agree : Agree a) (right : nt_hash_of password ≡ a.nt.octets) where
  right_answers : answers_by_hash a.nt c.challenge (response_fields t.challenge password).nt
      ≡ true
  right_answers = answers_right a.nt c.challenge _ there (ap₂ response_of right (sym same))

  pub right_valid : valid_in c a (read_response (response_for t password name ++ after)) ≡ true
  unfolding valid_by_hash
  right_valid =
      let f = response_fields t.challenge password in
      ap (valid_in c a) (response_found t password name after named.0 named.1).fields
      ∙ by_hash c.terms c.challenge a f agree
      ∙ valid_nt (eqb f.flag 1) a.nt.present (answers_by_hash a.nt c.challenge f.nt)
      (c.terms.lm && answers_by_hash a.lm c.challenge f.lm)
      (eq-eqb f.flag 1 (response_flag t.challenge password)) there right_answers

module _ (c : Conversation) (t : Turn) (h : InStep c t) (fresh : Fresh c) (ph : c.phase ≡ Response)
    (password name after b : List ℕ) (room : 17 ≤ length b)
    (named : (1 ≤ length name) × (length name ≤ 256)) where
  abbrev try : List ℕ
  try = response_for t password name ++ after

  try_found : ResponseBack t.id (response_fields t.challenge password) name try
  try_found = response_found t password name after named.0 named.1

  try_passes : Passes c try b
  try_passes = response_passes c fresh ph room try_found h.id (omega arith)

  -- the record is handed out as it is counted
  pub invalid_taken : (l : Lookup)
      → found_valid c.terms c.challenge l (read_response try) ≡ false → 0 < c.retries
      → step c try l b
      ≡ judged_as c (try_again c (counted_lookup c.terms c.challenge l (read_response try))) b
  invalid_taken l v pos = invalid_law c try b try_passes l ph v pos

  -- below the limit
  module _ (a : Account) (g : Rightful a) (agree : Agree a) (below : a.failures < c.terms.limit)
      (right : nt_hash_of password ≡ a.nt.octets) where
    pub right_taken : step c try (found a) b ≡ judged_as c
        (cond a.expired (expired_for c (with_failures 0 a)) (accepted c (with_failures 0 a))) b
    right_taken =
        valid_law c try b try_passes a ph
        (record { enabled = g.enabled; hours = g.hours; dialin = g.dialin })
        (judged_below c.terms c.challenge a (read_response try) below
        ∙ right_valid c t h.challenge password name after named a g.nt agree right)

-- ---- the change

-- what our box needs to judge a change: its code, identifier and good form
pub record ChangeFits (v : ChangeVersion) (i : ℕ) (p : List ℕ) : Type 0 where
  pub frame : bad_frame p ≡ false
  pub code : octet 0 p ≡ change_code_of v
  pub id : octet 1 p ≡ i
  pub body : change_refusal_of v p ≡ 0

-- our peer's change of either version, with padding behind it
abbrev pub change_as : ChangeVersion → Turn → List ℕ → List ℕ → List ℕ → List ℕ
change_as One t old new filler = change_one_for t old new
change_as Two t old new filler = change_for t old new filler

-- what a filler has to be
abbrev pub Full : ChangeVersion → List ℕ → Type 0
Full One filler = Unit {0}
Full Two filler = length filler ≡ 512

module _ (c : Conversation) (t : Turn) (h : InStep c t) (fresh : Fresh c) (ph : c.phase ≡ Change)
    (old new filler after b : List ℕ) (room : 17 ≤ length b)
    (fits : (length new ≤ 512) × (length new % 2 ≡ 0))
    (there : c.kept.nt.present ≡ true) (right : nt_hash_of old ≡ c.kept.nt.octets) where
  abbrev change : ChangeVersion → List ℕ
  change v = change_as v t old new filler ++ after

  change_there : (v : ChangeVersion) → Full v filler → ChangeFits v t.id (change v)
  change_there One full =
      let f = change_one_found t old new after in
      record { frame = f.frame; code = f.code; id = f.id; body = f.fit (omega arith) }
  change_there Two full =
      let f = change_found t old new filler full fits.0 after in
      record { frame = f.frame; code = f.code; id = f.id; body = f.fit (omega arith) }

  change_passes : (v : ChangeVersion) → c.terms.change ≡ v → ChangeFits v t.id (change v)
      → Passes c (change v) b
  change_passes v e f =
      record {
        readable = record { room = room; frame = f.frame };
        fresh = new_packet c (change v) fresh (ap is_ended ph) (f.id ∙ sym h.id);
        live = ap is_ended ph;
        code = f.code ∙ sym (ap₂ awaited_code e ph);
        id = f.id ∙ sym h.id;
        body = ap₂ (λ (u : ChangeVersion) (x : Phase). body_refusal u x (change v)) e ph ∙ f.body;
      }

  -- ---- version 1: the new hash comes back out of its field

  abbrev one : changes.ChangeOne
  one = change_one_fields t.challenge old new

  one_accepted : AcceptedNt c.kept c.challenge one
  one_accepted =
      record {
        bit0 = ap (λ (n : ℕ). n % 2) (change_one_flags t.challenge old new);
        has_hash = there;
        old_hash = ap₂ hash_under_challenge right (sym h.challenge);
      }

  one_new : new_in c.challenge one.ntnew ≡ hash_of (nt_hash_of new)
  one_new =
      ap (λ (x : List ℕ). new_in x one.ntnew) h.challenge
      ∙ ap hash_of (from_under t.challenge (nt_hash_of new) (length_nt new) (octets_nt new))

  -- ---- version 2: it is that of the password in the block

  abbrev fields : twos.Change
  fields = change_fields t.challenge old new filler

  module _ (full : length filler ≡ 512) where
    inside : hash_for c.kept fields ≡ nt_hash_of new
    inside = hash_inside (nt_hash_of old) filler new full fits.0 c.kept fields right refl

    change_accepted : Accepted c.kept c.challenge fields
    change_accepted =
        let size = length_inside (nt_hash_of old) filler new full fits.0 c.kept fields right
        refl in
        record {
          has_hash = there;
          bit0 = ap (λ (n : ℕ). n % 2) (change_flags t.challenge old new filler);
          even = ap (λ (n : ℕ). n % 2) size ∙ fits.1;
          at_most_512 = omega (arith, size, fits.0);
          old_hash = ap₂ old_under_new right (sym inside);
          response = ap₂ response_of (sym inside) (sym h.challenge);
        }

    change_hash : new_hash_in c fields ≡ Some (nt_hash_of new)
    change_hash = accepted_if c.kept c.challenge fields change_accepted ∙ ap Some inside

  -- either has no fault, and gives the new NT hash and no LM hash
  change_checked : (v : ChangeVersion) → Full v filler
      → checked_for v c (change v) ≡ checked_with None (hash_of (nt_hash_of new)) no_hash
  change_checked One full =
      ap (checked_change_one c.terms c.kept c.challenge)
      (change_one_found t old new after).fields
      ∙ accepted_nt c.terms c.kept c.challenge one one_accepted
      ∙ ap (λ (x : Hash). checked_with None x no_hash) one_new
  change_checked Two full =
      ap (checked_change c.kept c.challenge)
      (change_found t old new filler full fits.0 after).fields
      ∙ checked_accepted c.kept c.challenge fields (nt_hash_of new) (change_hash full)

  pub change_taken : (v : ChangeVersion) → c.terms.change ≡ v → Full v filler → (l : Lookup)
      → step c (change v) l b ≡ judged_as c (changed_to c (hash_of (nt_hash_of new)) no_hash) b
  change_taken v e full l =
      change_law c (change v) b (change_passes v e (change_there v full)) l
      (hash_of (nt_hash_of new)) no_hash ph
      (ap (λ (u : ChangeVersion). checked_for u c (change v)) e ∙ change_checked v full)
