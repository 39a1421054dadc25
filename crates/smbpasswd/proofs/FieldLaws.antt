-- The fields of a line by where they begin, and the form of an account's line.
-- Assumes nothing.
use mathlib.Core.Bool.{Bool, true, false, ◌&&◌, and-eq-true_iff}
use mathlib.Core.List.{List}
use mathlib.Core.Path.{◌≡◌, refl, sym, ap, ap₂, ◌∙◌, subst}
use Prim.Native.Nat.{ℕ, zero, suc, ◌+◌, ◌-◌, ◌≤◌}
use native.Mathlib.Omega.{arith}
use borrow.Author.Tests.{leb-true, leb-false, le-leb, lt-ltb, le-ltb}
use lib.Dec.{leb, ltb}
use lib.ListN.{length, drop, length-drop}
use lib.Seq.{drop-drop}
use Rattle.octets.specs.Split.{holds, before, behind}
use Rattle.octets.proofs.Split.{held, drop_place, place_le}
use Rattle.smbpasswd.specs.Line.{colon, from_field, field, closed, is_name, is_uid, is_hash}
use Rattle.smbpasswd.specs.Line.{is_flags, is_time, is_account}
use Rattle.smbpasswd.specs.Inner.{field_at, column, columns_of}
use Rattle.smbpasswd.specs.declared.lines.Columns.{Columns}

-- ---- columns

pub from_column : (n : ℕ) (l : List ℕ) → from_field n l ≡ drop (column n l) l
unfolding column
from_column zero l = refl
from_column (suc n) l =
    let at = column n l in
    let k = length (field_at at l) in
    let next : at + suc k ≡ at + k + 1 = omega arith in
    ap (behind colon) (from_column n l) ∙ sym (drop_place colon (drop at l)) ∙ drop-drop (suc k) at l
    ∙ ap (λ (i : ℕ). drop i l) next

-- one column more
pub column_next : (n : ℕ) (l : List ℕ) {a b : ℕ} → a ≡ column n l → b ≡ a + length (before colon (drop a l)) + 1
    → b ≡ column (suc n) l
unfolding column
column_next n l e g = g ∙ ap (λ (k : ℕ). k + length (field_at k l) + 1) e

pub field_column : (n : ℕ) (l : List ℕ) → field_at (column n l) l ≡ field n l
field_column n l = sym (ap (before colon) (from_column n l))

pub column_le : (n : ℕ) (l : List ℕ) → column n l ≤ length l + n
unfolding column
column_le zero l = omega arith
column_le (suc n) l =
    omega (arith, column_le n l, place_le colon (drop (column n l) l), length-drop (column n l) l)

pub closed_column : (n : ℕ) (l : List ℕ) → closed n l ≡ leb (column n l) (length l)
unfolding column
closed_column zero l = sym (le-leb 0 (length l) (omega arith))
closed_column (suc n) l =
    ap₂ ◌&&◌ (closed_column n l) (ap (holds colon) (from_column n l) ∙ held colon (drop (column n l) l)
    ∙ ap (ltb (length (field_at (column n l) l))) (length-drop (column n l) l))
    ∙ which (leb (column n l) (length l)) refl (leb (column n l + length (field_at (column n l) l) + 1) (length l)) refl
  where
    k : ℕ
    k = length (field_at (column n l) l)

    which : (b : Bool) → leb (column n l) (length l) ≡ b → (d : Bool) → leb (column n l + k + 1) (length l) ≡ d
        → (b && ltb k (length l - column n l)) ≡ d
    which false e false g = refl
    which false e true g =
        absurd (omega (arith, leb-false (column n l) (length l) e, leb-true (column n l + k + 1) (length l) g))
    which true e true g =
        lt-ltb k (length l - column n l) (omega (arith, leb-true (column n l + k + 1) (length l) g))
    which true e false g =
        le-ltb k (length l - column n l)
        (omega (arith, leb-true (column n l) (length l) e, leb-false (column n l + k + 1) (length l) g))

-- where the next field begins, and which field stands at each place
pub record Laid (l : List ℕ) (c : Columns) : Type 0 where
  pub uid : c.uid ≡ 0 + length (before colon (drop 0 l)) + 1
  pub lm : c.lm ≡ c.uid + length (before colon (drop c.uid l)) + 1
  pub nt : c.nt ≡ c.lm + length (before colon (drop c.lm l)) + 1
  pub flags : c.flags ≡ c.nt + length (before colon (drop c.nt l)) + 1
  pub time : c.time ≡ c.flags + length (before colon (drop c.flags l)) + 1
  pub rest : c.rest ≡ c.time + length (before colon (drop c.time l)) + 1
  pub uid_field : before colon (drop c.uid l) ≡ field 1 l
  pub lm_field : before colon (drop c.lm l) ≡ field 2 l
  pub nt_field : before colon (drop c.nt l) ≡ field 3 l
  pub flags_field : before colon (drop c.flags l) ≡ field 4 l
  pub time_field : before colon (drop c.time l) ≡ field 5 l
  pub whole : leb c.rest (length l) ≡ closed 6 l

laid_columns : (l : List ℕ) → Laid l (columns_of l)
unfolding column
laid_columns l =
    record {
      uid = refl;
      lm = refl;
      nt = refl;
      flags = refl;
      time = refl;
      rest = refl;
      uid_field = field_column 1 l;
      lm_field = field_column 2 l;
      nt_field = field_column 3 l;
      flags_field = field_column 4 l;
      time_field = field_column 5 l;
      whole = sym (closed_column 6 l);
    }

pub laid : {l : List ℕ} {c : Columns} → c ≡ columns_of l → Laid l c
laid {l} e = subst (Laid l) (sym e) (laid_columns l)

-- ---- the form

pub record Form (l : List ℕ) : Type 0 where
  pub all : closed 6 l ≡ true
  pub name : is_name (field 0 l) ≡ true
  pub uid : is_uid (field 1 l) ≡ true
  pub lm : is_hash (field 2 l) ≡ true
  pub nt : is_hash (field 3 l) ≡ true
  pub flags : is_flags (field 4 l) ≡ true
  pub time : is_time (field 5 l) ≡ true

pub both : {a b : Bool} → (a && b) ≡ true → (a ≡ true) × (b ≡ true)
both {a} {b} e = (and-eq-true_iff a b).0 e

pub form : (l : List ℕ) → is_account l ≡ true → Form l
unfolding is_account
form l e =
    let a = both e in
    let b = both a.1 in
    let c = both b.1 in
    let d = both c.1 in
    let f = both d.1 in
    let g = both f.1 in
    record { all = a.0; name = b.0; uid = c.0; lm = d.0; nt = f.0; flags = g.0; time = g.1 }

pub of_form : (l : List ℕ) → Form l → is_account l ≡ true
unfolding is_account
of_form l f = rw (f.all, f.name, f.uid, f.lm, f.nt, f.flags, f.time)
