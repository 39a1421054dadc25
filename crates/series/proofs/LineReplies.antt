-- The replies on a line that loses packets: what is due to a packet, that our peer reads it with any
-- padding and takes it, and that it refuses it with 5 once it awaits a reply with another
-- identifier.
-- Assumes nothing.
use mathlib.Core.Bool.{Bool, true, false, cond, not, false≢true}
use mathlib.Core.List.{List, [], ◌∷◌, ◌++◌}
use mathlib.Core.Logic.{◌≢◌}
use mathlib.Core.Option.{none, some}
use mathlib.Core.Path.{◌≡◌, refl, sym, ap, ap₂, ◌∙◌}
use Prim.Native.Nat.{ℕ, suc, ◌<◌}
use native.Mathlib.Omega.{arith}
use borrow.Author.Tests.{eqb-true, ne_eqb, not-false}
use lib.Dec.{eqb}
use Rattle.message.specs.Reasons.{authentication_failure, password_expired}
use Rattle.std.specs.Prelude.{Err}
use Rattle.refusals.specs.declared.Refusal.TheVariants.{Frame, Identifier}
use Rattle.message.specs.Message.{text_of}
use Rattle.packets.specs.Frame.{octet, bad_frame, bad_id}
use Rattle.packets.specs.Reply.{body_read, read_reply}
use Rattle.accounts.specs.declared.Account.{Account}
use Rattle.verify.specs.declared.ChangeVersion.{ChangeVersion}
use Rattle.verify.specs.declared.Terms.{Terms}
use Rattle.authenticator.specs.Encode.{version}
use Rattle.authenticator.specs.declared.Reply.TheVariants.{Success, Failure}
use Rattle.authenticator.proofs.Replies.{read_reply_lem}
use Rattle.series.specs.Series.{Packet, invalid, right, password_change}
use Rattle.series.specs.Line.{LineReply, is_taken, is_empty, reply_due, reading_due}
use Rattle.series.proofs.Wrong.{success_code_lem, failure_code_lem}

-- ---- what is due to a packet

module _ (a : Account) (v : ChangeVersion) where
  abbrev terms : Terms
  terms = record { lm = false; limit = 0; change = v }

  pub due_read : (id : ℕ) (t : Packet) (padding : List ℕ)
      → read_reply id (reply_due a v id t ++ padding) ≡ reading_due a v t
  due_read id (invalid w n) padding =
      read_reply_lem terms id (Failure authentication_failure true) padding (omega arith)
  due_read id (right w n) padding = which a.expired refl
    where
      which : (x : Bool) → a.expired ≡ x
          → read_reply id (reply_due a v id (right w n) ++ padding) ≡ reading_due a v (right w n)
      which true e =
          rw e (read_reply_lem terms id (Failure password_expired false) padding (omega arith))
      which false e = rw e (read_reply_lem terms id Success padding (omega arith))
  due_read id (password_change u o n f) padding = read_reply_lem terms id Success padding (omega arith)

  pub due_taken : (t : Packet) → is_taken (reading_due a v t) ≡ true
  due_taken (invalid w n) = refl
  due_taken (right w n) = which a.expired refl
    where
      which : (x : Bool) → a.expired ≡ x
          → is_taken (reading_due a v (right w n)) ≡ true
      which true e = rw e
      which false e = rw e
  due_taken (password_change u o n f) = refl

  -- it has a code, 3 or 4
  pub due_code : (id : ℕ) (t : Packet) → 0 < octet 0 (reply_due a v id t)
  due_code id (invalid w n) = omega (arith, failure_code_lem id (text_of authentication_failure 1 (version v)))
  due_code id (right w n) = which a.expired refl
    where
      which : (x : Bool) → a.expired ≡ x → 0 < octet 0 (reply_due a v id (right w n))
      which true e = rw e (omega (arith, failure_code_lem id (text_of password_expired 0 (version v))))
      which false e = rw e (omega (arith, success_code_lem id))
  due_code id (password_change u o n f) = omega (arith, success_code_lem id)

coded_there : (p : List ℕ) → 0 < octet 0 p → is_empty p ≡ false
coded_there [] h = absurd (omega arith)
coded_there (x ∷ xs) h = refl

pub due_there : (a : Account) (v : ChangeVersion) (id : ℕ) (t : Packet)
    → is_empty (reply_due a v id t) ≡ false
due_there a v id t = coded_there (reply_due a v id t) (due_code a v id t)

-- ---- another identifier

-- what is taken as a reply to one identifier is refused with 5 as one to another
pub other_refused : (id other : ℕ) (p : List ℕ) → is_taken (read_reply id p) ≡ true
    → other ≢ id → read_reply other p ≡ Err Identifier
unfolding read_reply
other_refused id other p taken differs =
    let h = which (bad_frame p) (bad_id id p) taken in
    let same = eqb-true (octet 1 p) id (not-false (eqb (octet 1 p) id) h.1) in
    ap₂ (λ (x y : Bool). cond x (Err Frame) (cond y (Err Identifier) (body_read p))) h.0
    (ap not (ne_eqb (octet 1 p) other (λ e. differs (sym e ∙ same))))
  where
    which : (x y : Bool)
        → is_taken (cond x (Err Frame) (cond y (Err Identifier) (body_read p))) ≡ true
        → (x ≡ false) × (y ≡ false)
    which true y e = absurd (false≢true e)
    which false true e = absurd (false≢true e)
    which false false e = (refl, refl)

-- ---- replies in flight

-- Our peer awaits a reply to its packet n, which has the identifier id. A stale one is nothing, or
-- it draws 5 and answers an earlier packet.
pub data Stale (id n : ℕ) (r : LineReply) : Type 0 where
  stale_blank : r.octets ≡ [] → r.answers ≡ none → Stale id n r
  stale : is_empty r.octets ≡ false
      → ((padding : List ℕ) → read_reply id (r.octets ++ padding) ≡ Err Identifier)
      → ((m : ℕ) → r.answers ≡ some m → m < n) → Stale id n r

-- one that is due is nothing, or what is due to that packet
pub data Due (a : Account) (v : ChangeVersion) (id n : ℕ) (t : Packet)
    (r : LineReply) : Type 0 where
  due_blank : r.octets ≡ [] → r.answers ≡ none → Due a v id n t r
  due : r.octets ≡ reply_due a v id t → ((m : ℕ) → r.answers ≡ some m → m ≡ n)
      → Due a v id n t r

-- what is due to one identifier is stale for another
pub stale_by : (a : Account) (v : ChangeVersion) (id other n : ℕ) (t : Packet) (r : LineReply)
    → r.octets ≡ reply_due a v id t → other ≢ id → ((m : ℕ) → r.answers ≡ some m → m < n)
    → Stale other n r
stale_by a v id other n t r e differs less =
    stale (ap is_empty e ∙ due_there a v id t)
    (λ padding. other_refused id other (r.octets ++ padding)
    (ap (λ (x : List ℕ). is_taken (read_reply id (x ++ padding))) e
    ∙ ap is_taken (due_read a v id t padding) ∙ due_taken a v t)
    differs)
    less

-- so all that was due is stale once our peer has gone on
pub due_stale : (a : Account) (v : ChangeVersion) (id other n : ℕ) (t : Packet) → other ≢ id
    → (r : LineReply) → Due a v id n t r → Stale other (suc n) r
due_stale a v id other n t differs r (due_blank e nothing) = stale_blank e nothing
due_stale a v id other n t differs r (due e same) =
    stale_by a v id other (suc n) t r e differs (λ m h. omega (arith, same m h))
