-- `smbpasswd::files::write_line` meets its contract.
-- Assumes nothing.
use mathlib.Core.List.{List}
use mathlib.Core.Path.{◌≡◌, ap, ◌∙◌}
use Prim.Native.Nat.{ℕ, ◌+◌, ◌≤◌, ◌<◌, ◌^◌}
use native.Mathlib.Omega.{arith}
use borrow.Author.Rules.{rules}
use lib.ListN.{length}
use Rattle.octets.specs.Digits.{hex_text}
use Rattle.octets.specs.Numbers.{to_be}
use Rattle.octets.specs.Parts.{over_at}
use Rattle.smbpasswd.specs.File.{line_at}
use Rattle.smbpasswd.specs.Write.{hash_text}
use Rattle.smbpasswd.specs.Inner.{column, columns_of, IsLine}
use Rattle.smbpasswd.specs.declared.lines.Columns.{Columns}
use Rattle.smbpasswd.proofs.FieldLaws.{column_le}
use Rattle.smbpasswd.proofs.LineLaws.{line_le}
use Rattle.smbpasswd.proofs.Writing.{written_line}
use Rattle.smbpasswd.proofs.files.write_line.Goals as goal

-- where the fields of a line are that starts at an offset: a file is shorter than 2 ^ 63
module _ (f : List ℕ) (at : ℕ) (i : IsLine at f) (b : length f < 2 ^ 63) {x : Columns} {l : List ℕ}
    (e : x ≡ columns_of l) (g : l ≡ line_at at f) where
  there : x ≡ columns_of (line_at at f)
  there = e ∙ ap columns_of g

  near : (n : ℕ) {k : ℕ} → n ≤ 5 → k ≡ column n (line_at at f) → at + k + 4 < 2 ^ 64
  near n h k = omega (arith, i.within, column_le n (line_at at f), line_le f at)

  lm_near : at + x.lm + 4 < 2 ^ 64
  lm_near = near 2 (omega arith) (ap (λ (y : Columns). y.lm) there)

  nt_near : at + x.nt + 4 < 2 ^ 64
  nt_near = near 3 (omega arith) (ap (λ (y : Columns). y.nt) there)

  time_near : at + x.time + 4 < 2 ^ 64
  time_near = near 5 (omega arith) (ap (λ (y : Columns). y.time) there)

pub overflow_add-lm : goal.overflow_add-lm
overflow_add-lm c =
    let a = c.args in
    omega (arith, lm_near a.file.now a.at c.requires (omega (arith, c.well_formed.0.1)) c.columns_of-c.ensures c.line_at.ensures)

pub overflow_add-nt : goal.overflow_add-nt
overflow_add-nt c =
    let a = c.args in
    omega (arith, nt_near a.file.now a.at c.requires (omega (arith, c.well_formed.0.1)) c.columns_of-c.ensures c.line_at.ensures)

pub overflow_add-time : goal.overflow_add-time
overflow_add-time c =
    let a = c.args in
    omega (arith, time_near a.file.now a.at c.requires (omega (arith, c.well_formed.0.1)) c.columns_of-c.ensures c.line_at.ensures)

pub overflow_add-time-2 : goal.overflow_add-time-2
overflow_add-time-2 c =
    let a = c.args in
    omega (arith, time_near a.file.now a.at c.requires (omega (arith, c.well_formed.0.1)) c.columns_of-c.ensures c.line_at.ensures)

pub returns : goal.returns
returns c =
    let a = c.args in
    let sixteen : (length a.account.lm.octets ≡ 16) × (length a.account.nt.octets ≡ 16) = (search rules, search rules) in
    c.write_fields.ensures
    ∙ ap (λ (x : Columns). over_at (a.at + x.time + 4) (hex_text (to_be 4 a.present))
    (over_at (a.at + x.nt) (hash_text a.account.nt) (over_at (a.at + x.lm) (hash_text a.account.lm) a.file.now)))
    (c.columns_of-c.ensures ∙ ap columns_of c.line_at.ensures)
    ∙ written_line a.file.now a.at c.requires a.account a.present sixteen.0 sixteen.1
