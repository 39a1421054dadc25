-- The record that an accepted change hands out, written back into the account file and looked up
-- again, lets the new password in.
-- Assumes nothing.
use mathlib.Core.Bool.{Bool, false, false≢true}
use mathlib.Core.List.{List, ◌++◌}
use mathlib.Core.Path.{◌≡◌, refl, sym, ap, ap₂, ◌∙◌, subst}
use Prim.Native.Nat.{ℕ, zero, suc, ◌<◌, ◌^◌}
use native.Mathlib.Omega.{arith}
use lib.ListN.{get_or, replicate}
use Rattle.credentials.specs.Credentials.{nt_hash_of}
use Rattle.credentials.proofs.Laws.{length_nt, octets_nt}
use Rattle.accounts.specs.Account.{no_hash, hash_of, account_with, found, entry_of, changed}
use Rattle.accounts.specs.Account.{with_failures, Rightful, Agree}
use Rattle.accounts.specs.declared.Account.{Account}
use Rattle.accounts.proofs.Agreeing.{made_agrees, changed_agrees}
use Rattle.accounts.specs.declared.Lookup.{Lookup}
use Rattle.authenticator.specs.Steps.{step_on}
use Rattle.authenticator.proofs.Judged.{changed_rightful}
use Rattle.smbpasswd.specs.Line.{letter_d, letter_x, field}
use Rattle.smbpasswd.specs.Record.{has_flag, is_expired, account_in}
use Rattle.smbpasswd.specs.File.{place_of, line_at, lookup_at, find_in}
use Rattle.smbpasswd.specs.Write.{written_in}
use Rattle.smbpasswd.specs.File.{Found}
use Rattle.smbpasswd.specs.File.{Place}
use Rattle.smbpasswd.specs.File.{Nowhere, Line, Doubled, Malformed}
use Rattle.smbpasswd.proofs.ChangedLine.{IsHash}
use Rattle.smbpasswd.proofs.ReadBack.{read_back, others_same}
use Rattle.verify.specs.declared.Terms.{Terms}
use Rattle.series.specs.Series.{invalid, right, password_change, Step, ours, other}
use Rattle.series.specs.Series.{PacketKind, packet_kinds, SeriesState, start, exchange}
use Rattle.series.specs.Series.{next, judged_at, Allowed, LetsIn}
use Rattle.series.specs.Boxes.{our_box}
use Rattle.series.specs.Writers.{our_writer}
use Rattle.series.specs.AccountFile.{our_file_writer, aged, again, KeptAt, KeptInFile}
use Rattle.series.proofs.Invariant.{Invariant, whole}
use Rattle.series.proofs.Demand3.{Ready, law, change_updated, lets_in, terms_of, ready_first}

-- ---- the record that is found again

-- a record that was found in a line has that line's flag for disabled, and neither of the two marks
-- that a line has not
pub record FromLine (a : Account) (l : List ℕ) : Type 0 where
  pub disabled : a.disabled ≡ has_flag letter_d (field 4 l)
  pub hours : a.hours_denied ≡ false
  pub dialin : a.dialin_denied ≡ false

-- and the round keys of its hashes
from_file : (now max_age : ℕ) (name file : List ℕ) (a : Account)
    → (find_in now max_age name file).lookup ≡ found (with_failures 0 a) → Agree a
unfolding find_in account_in
from_file now max_age name file a e = which (place_of name file) e
  where
    which : (at : Place) → lookup_at now max_age file at ≡ found (with_failures 0 a) → Agree a
    which Nowhere e = absurd (false≢true (ap (λ (l : Lookup). l.found) e))
    which (Line at) e =
        let made : Agree (with_failures 0 a) =
        subst (λ (l : Lookup). Agree l.account) e (made_agrees _) in
        record { nt = made.nt; lm = made.lm }
    which (Doubled at) e = absurd (false≢true (ap (λ (l : Lookup). l.found) e))
    which (Malformed at) e = absurd (false≢true (ap (λ (l : Lookup). l.found) e))

from_line : (now max_age : ℕ) (name file : List ℕ) (a : Account) (at : ℕ)
    → (find_in now max_age name file).lookup ≡ found (with_failures 0 a) → place_of name file ≡ Line at → FromLine a (line_at at file)
unfolding find_in account_in
from_line now max_age name file a at e p =
    let there : account_in now max_age (line_at at file) ≡ with_failures 0 a =
    ap (λ (x : Lookup). x.account) (sym (ap (lookup_at now max_age file) p) ∙ e) in
    record {
      disabled = sym (ap (λ (x : Account). x.disabled) there);
      hours = sym (ap (λ (x : Account). x.hours_denied) there);
      dialin = sym (ap (λ (x : Account). x.dialin_denied) there);
    }

-- the hash of a password is one that can be written
nt_is_hash : (password : List ℕ) → IsHash (hash_of (nt_hash_of password))
nt_is_hash password = record { long = length_nt password; octets = octets_nt password }

no_is_hash : IsHash no_hash
no_is_hash = record { long = refl; octets = zeros 16 }
  where
    zeros : (n i : ℕ) → get_or (replicate n 0) i 0 < 256
    zeros zero i = omega arith
    zeros (suc n) zero = omega arith
    zeros (suc n) (suc i) = zeros n i

module _ (name file : List ℕ) (a : Account) (new : List ℕ) (at changed_at later max_age : ℕ) (f : FromLine a (line_at at file))
    (p : place_of name file ≡ Line at) (small : changed_at < 2 ^ 32) where
  abbrev expired : Bool
  expired = is_expired later max_age (has_flag letter_x (field 4 (line_at at file))) changed_at

  pub found_again : again our_file_writer name file (found (changed (entry_of a) (hash_of (nt_hash_of new)) no_hash))
      changed_at later max_age
      ≡ aged expired (found (changed (entry_of a) (hash_of (nt_hash_of new)) no_hash))
  found_again =
      ap (λ (x : Found). x.lookup) (read_back name (changed (entry_of a) (hash_of (nt_hash_of new)) no_hash)
      changed_at file no_is_hash (nt_is_hash new) at p small later max_age)
      ∙ ap (λ (d : Bool). found (account_with (hash_of (nt_hash_of new)) no_hash d false false expired)) (sym f.disabled)
      ∙ ap₂ (λ (h d : Bool). found (account_with (hash_of (nt_hash_of new)) no_hash a.disabled h d expired)) (sym f.hours) (sym f.dialin)

  -- not expired, it is the record that was handed out
  pub in_force : expired ≡ false
      → again our_file_writer name file (found (changed (entry_of a) (hash_of (nt_hash_of new)) no_hash)) changed_at later
      max_age
      ≡ found (changed (entry_of a) (hash_of (nt_hash_of new)) no_hash)
  in_force e =
      found_again ∙ ap (λ (t : Bool). aged t (found (changed (entry_of a) (hash_of (nt_hash_of new)) no_hash))) e

-- ---- along a series

module _ (name file : List ℕ) (now max_age : ℕ) (a : Account) (e : (find_in now max_age name file).lookup ≡ found (with_failures 0 a)) (g : Rightful a) (terms : Terms) where
  agree : Agree a
  agree = from_file now max_age name file a e

  kept_at : (due : List PacketKind) (p : SeriesState) (m : Step) → Ready a terms (packet_kinds m ++ due) p → Allowed step_on our_writer a p m
      → KeptAt step_on our_writer our_file_writer name file p m
  kept_at due p (other s) r h = tt
  kept_at due p (ours (invalid w n) l) r h = tt
  kept_at due p (ours (right w n) l) r h = tt
  kept_at due p (ours (password_change v old new filler) l) r h = λ at changed_at later max_age' there small.
      let updated = change_updated a g agree terms due p v old new filler l r h in
      let n = changed_rightful a (nt_hash_of new) no_hash g in
      let line = from_line now max_age name file a at e there in
      let x = (exchange step_on our_writer p (password_change v old new filler) l).outcome.answer.updated in
      let t = is_expired later max_age' (has_flag letter_x (field 4 (line_at at file))) changed_at in
      let moved = ap (λ (u : Lookup). again our_file_writer name file u changed_at later max_age') updated in (
        moved ∙ found_again name file a new at changed_at later max_age' line there small ∙ ap (aged t) (sym updated),
        (λ z. subst (λ (u : Lookup). LetsIn step_on our_writer u.account new)
            (sym (moved ∙ in_force name file a new at changed_at later max_age' line there small z))
            (lets_in (changed (entry_of a) (hash_of (nt_hash_of new)) no_hash) new n.0
            (changed_agrees (entry_of a) (hash_of (nt_hash_of new)) no_hash) n.1 refl (sym n.2))),
        (λ another m.
            ap (λ (u : Lookup). find_in later max_age' another (written_in name u.account changed_at file)) updated
            ∙ others_same name (changed (entry_of a) (hash_of (nt_hash_of new)) no_hash) changed_at file no_is_hash
            (nt_is_hash new) another m later max_age'),
      )

  invariant : Invariant (next step_on our_writer) packet_kinds (judged_at step_on our_writer) (Allowed step_on our_writer a)
      (KeptAt step_on our_writer our_file_writer name file)
  invariant =
      record {
        Ready = Ready a terms;
        law = λ due p m r h. (
          kept_at due p m r h,
          (law a g agree terms due p m r h).1,
          (law a g agree terms due p m r h).2,
        );
      }

pub kept_in_file : KeptInFile our_box our_writer our_file_writer
unfolding invariant
kept_in_file name file now max_age a e o ok eight k behind ms g few below due h =
    (whole (invariant name file now max_age a e g (terms_of o)) (start o behind a) ms (ready_first o ok eight k behind ms a few below due) h).0
