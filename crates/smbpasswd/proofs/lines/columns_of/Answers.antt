-- `smbpasswd::lines::columns_of` meets its contract.
-- Assumes nothing.
use mathlib.Core.List.{List}
use mathlib.Core.Path.{◌≡◌}
use Prim.Native.Nat.{ℕ, ◌+◌, ◌≤◌}
use native.Mathlib.Omega.{arith}
use lib.ListN.{length}
use Rattle.smbpasswd.specs.Inner.{column}
use Rattle.smbpasswd.proofs.FieldLaws.{column_next, column_le}
use Rattle.smbpasswd.proofs.lines.columns_of.Goals as goal

-- none is far beyond the end of the line
near : (n : ℕ) (l : List ℕ) {a : ℕ} → n ≤ 5 → a ≡ column n l → a ≤ length l + 5
near n l h e = omega (arith, column_le n l)

pub next_column-lm-requires : goal.next_column-lm-requires
unfolding column
next_column-lm-requires c = near 1 _ (omega arith) c.next_column-uid.ensures

pub next_column-nt-requires : goal.next_column-nt-requires
unfolding column
next_column-nt-requires c = near 2 _ (omega arith) (column_next 1 _ c.next_column-uid.ensures c.next_column-lm.ensures)

pub next_column-flags-requires : goal.next_column-flags-requires
unfolding column
next_column-flags-requires c = near 3 _ (omega arith) (column_next 2 _ (column_next 1 _ c.next_column-uid.ensures c.next_column-lm.ensures) c.next_column-nt.ensures)

pub next_column-time-requires : goal.next_column-time-requires
unfolding column
next_column-time-requires c = near 4 _ (omega arith) (column_next 3 _ (column_next 2 _ (column_next 1 _ c.next_column-uid.ensures c.next_column-lm.ensures) c.next_column-nt.ensures) c.next_column-flags.ensures)

pub next_column-rest-requires : goal.next_column-rest-requires
unfolding column
next_column-rest-requires c = near 5 _ (omega arith) (column_next 4 _ (column_next 3 _ (column_next 2 _ (column_next 1 _ c.next_column-uid.ensures c.next_column-lm.ensures) c.next_column-nt.ensures) c.next_column-flags.ensures) c.next_column-time.ensures)

pub returns : goal.returns
unfolding column
returns c =
    let uid : c.next_column-uid.result ≡ column 1 c.args.line.now = c.next_column-uid.ensures in
    let lm : c.next_column-lm.result ≡ column 2 c.args.line.now =
    column_next 1 _ uid c.next_column-lm.ensures in
    let nt : c.next_column-nt.result ≡ column 3 c.args.line.now =
    column_next 2 _ lm c.next_column-nt.ensures in
    let flags : c.next_column-flags.result ≡ column 4 c.args.line.now =
    column_next 3 _ nt c.next_column-flags.ensures in
    let time : c.next_column-time.result ≡ column 5 c.args.line.now =
    column_next 4 _ flags c.next_column-time.ensures in
    let rest : c.next_column-rest.result ≡ column 6 c.args.line.now =
    column_next 5 _ time c.next_column-rest.ensures in
    cc
