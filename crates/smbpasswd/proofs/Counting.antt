-- The counts, line by line, are those of the definition.
-- Assumes nothing.
use mathlib.Core.Bool.{Bool, true, false, cond, not, ◌&&◌}
use mathlib.Core.List.{List, [], ◌∷◌, map}
use mathlib.Core.Path.{◌≡◌, refl, sym, ap, ◌∙◌}
use Prim.Native.Nat.{ℕ, ◌+◌, ◌≤◌}
use native.Mathlib.Omega.{arith}
use mir.Val.{bool_byte}
use lib.ListN.{length}
use Rattle.octets.specs.Digits.{digit_of, pairs}
use Rattle.accounts.specs.Account.{no_hash, hash_of}
use Rattle.accounts.specs.declared.Hash.{Hash}
use Rattle.smbpasswd.specs.Line.{field, is_absent, is_comment, is_account}
use Rattle.smbpasswd.specs.Record.{account_in}
use Rattle.smbpasswd.specs.File.{lines, Placed, placed_from, select}
use Rattle.smbpasswd.specs.Summary.{counts_of, no_counts}
use Rattle.smbpasswd.specs.Inner.{count_line, count_lines, Within, placed}
use Rattle.smbpasswd.specs.declared.Counts.{Counts}

-- ---- how many are selected

abbrev counts : List Placed → List Placed
counts xs = select (λ l. not (is_comment l)) xs

-- those that count and pass a test
abbrev passing : (List ℕ → Bool) → List Placed → ℕ
passing test xs = length (select test (counts xs))

-- a line more that is no comment
line_more : (test : List ℕ → Bool) (n : ℕ) (x : Placed) (xs : List Placed) → is_comment x.line ≡ false
    → n + bool_byte (test x.line) + passing test xs ≡ n + passing test (x ∷ xs)
line_more test n x xs c = rw c (which (test x.line) refl)
  where
    which : (t : Bool) → test x.line ≡ t
        → n + bool_byte t + passing test xs ≡ n + length (cond t (x ∷ select test (counts xs)) (select test (counts xs)))
    which true e = omega arith
    which false e = omega arith

all_more : (n : ℕ) (x : Placed) (xs : List Placed) → is_comment x.line ≡ false → n + 1 + length (counts xs) ≡ n + length (counts (x ∷ xs))
all_more n x xs c = rw c (omega arith)

pub same : {l l' b b' d d' e e' n n' : ℕ} → l ≡ l' → b ≡ b' → d ≡ d' → e ≡ e' → n ≡ n'
    → ◌≡◌ {A = Counts} (record { lines = l; bad = b; disabled = d; expired = e; no_nt = n })
    (record { lines = l'; bad = b'; disabled = d'; expired = e'; no_nt = n' })
same p q r s t = cc

module _ (now max_age : ℕ) where
  abbrev bad : List ℕ → Bool
  bad l = not (is_account l)

  abbrev disabled : List ℕ → Bool
  disabled l = is_account l && (account_in now max_age l).disabled

  abbrev expired : List ℕ → Bool
  expired l = is_account l && (account_in now max_age l).expired

  abbrev no_nt : List ℕ → Bool
  no_nt l = is_account l && not (account_in now max_age l).nt.present

  -- the counts k, and what is still to be counted
  abbrev added : Counts → List Placed → Counts
  added k xs =
      record {
        lines = k.lines + length (counts xs);
        bad = k.bad + passing bad xs;
        disabled = k.disabled + passing disabled xs;
        expired = k.expired + passing expired xs;
        no_nt = k.no_nt + passing no_nt xs;
      }

  count_all : (k : Counts) (xs : List Placed) → count_lines now max_age k xs ≡ added k xs
  unfolding count_lines count_line
  count_all k [] = same (omega arith) (omega arith) (omega arith) (omega arith) (omega arith)
  count_all k (x ∷ xs) = which (is_comment x.line) refl (λ j. count_all j xs)
    where
      l : List ℕ
      l = x.line

      after : Counts
      after =
          record {
            lines = k.lines + 1;
            bad = k.bad + bool_byte (bad l);
            disabled = k.disabled + bool_byte (disabled l);
            expired = k.expired + bool_byte (expired l);
            no_nt = k.no_nt + bool_byte (no_nt l);
          }

      which : (c : Bool) → is_comment l ≡ c → ((j : Counts) → count_lines now max_age j xs ≡ added j xs)
          → count_lines now max_age (cond c k after) xs ≡ added k (x ∷ xs)
      which true e rest = rest k ∙ rw e
      which false e rest =
          rest after
          ∙ same (all_more k.lines x xs e) (line_more bad k.bad x xs e) (line_more disabled k.disabled x xs e)
          (line_more expired k.expired x xs e) (line_more no_nt k.no_nt x xs e)

  pub counted_file : (f : List ℕ) → count_lines now max_age no_counts (placed_from 0 (lines f)) ≡ counts_of now max_age f
  unfolding counts_of
  counted_file f =
      count_all no_counts (placed_from 0 (lines f)) ∙ same (omega arith) (omega arith) (omega arith) (omega arith) (omega arith)

  -- ---- line by line

  module _ (k : Counts) {s : List Placed} where
    pub counted_more : {t : List Placed} (at : ℕ) (l : List ℕ) → s ≡ placed at l ∷ t → {j : Counts} → j ≡ count_line now max_age k l
        → count_lines now max_age j t ≡ count_lines now max_age k s
    unfolding count_lines
    counted_more {t} at l e f =
        ap (λ (x : Counts). count_lines now max_age x t) f ∙ sym (ap (count_lines now max_age k) e)

    pub counted_none : s ≡ [] → count_lines now max_age k s ≡ k
    unfolding count_lines
    counted_none e = ap (count_lines now max_age k) e

  -- ---- one line

  -- no count grows by more than one
  one_le : (b : Bool) → bool_byte b ≤ 1
  one_le true = omega arith
  one_le false = omega arith

  pub count_within : (n : ℕ) (k : Counts) (l : List ℕ) → Within n k → Within (n + 1) (count_line now max_age k l)
  unfolding count_line
  count_within n k l w = which (is_comment l)
    where
      which : (c : Bool)
          → Within (n + 1) (cond c k (record {
            lines = k.lines + 1;
            bad = k.bad + bool_byte (bad l);
            disabled = k.disabled + bool_byte (disabled l);
            expired = k.expired + bool_byte (expired l);
            no_nt = k.no_nt + bool_byte (no_nt l);
          }))
      which true =
          record { lines = omega arith; bad = omega arith; disabled = omega arith; expired = omega arith; no_nt = omega arith }
      which false =
          record {
            lines = omega arith;
            bad = omega (arith, one_le (bad l));
            disabled = omega (arith, one_le (disabled l));
            expired = omega (arith, one_le (expired l));
            no_nt = omega (arith, one_le (no_nt l));
          }

  module _ (k : Counts) (l : List ℕ) where
    pub comment_counted : is_comment l ≡ true → k ≡ count_line now max_age k l
    unfolding count_line
    comment_counted c = rw c

    module _ (c : is_comment l ≡ false) where
      pub bad_counted : is_account l ≡ false
          → ◌≡◌ {A = Counts}
          (record {
            lines = k.lines + 1;
            bad = k.bad + 1;
            disabled = k.disabled;
            expired = k.expired;
            no_nt = k.no_nt;
          })
          (count_line now max_age k l)
      unfolding count_line
      bad_counted a = rw (c, a) (same refl refl (omega arith) (omega arith) (omega arith))

      pub account_counted : is_account l ≡ true → {d e n : Bool} → d ≡ (account_in now max_age l).disabled
          → e ≡ (account_in now max_age l).expired → n ≡ is_absent (field 3 l)
          → ◌≡◌ {A = Counts}
          (record {
            lines = k.lines + 1;
            bad = k.bad;
            disabled = k.disabled + bool_byte d;
            expired = k.expired + bool_byte e;
            no_nt = k.no_nt + bool_byte n;
          })
          (count_line now max_age k l)
      unfolding count_line account_in
      account_counted a ed ee en = rw (c, a)
          (same refl (omega arith) (ap (λ (b : Bool). k.disabled + bool_byte b) ed) (ap (λ (b : Bool). k.expired + bool_byte b) ee)
          (ap (λ (b : Bool). k.no_nt + bool_byte b) (en ∙ absent (is_absent (field 3 l)))))
        where
          absent : (b : Bool) → b ≡ not (cond {A = Hash} b no_hash (hash_of (pairs (map digit_of (field 3 l))))).present
          absent true = refl
          absent false = refl
