-- `layouts::lists::is_list` meets its contract.
-- Assumes nothing.
use mathlib.Core.Path.{sym, ap, ◌∙◌}
use mathlib.Core.Bool.{Bool, not, ◌&&◌}
use mathlib.Core.List.{List, []}
use Prim.Native.Nat.{ℕ}
use borrow.Author.Tests.{lt-ltb, le-ltb}
use lib.ListN.{length}
use Rattle.octets.specs.Parts.{part, agrees}
use Rattle.layouts.specs.Values.{list_kind, tagged}
use Rattle.layouts.specs.Lists.{is_list}
use Rattle.layouts.proofs.lists.is_list.Goals as goal

pub returns-then-bytes-lt-LIST_HEAD_SIZE : goal.returns-then-bytes-lt-LIST_HEAD_SIZE
unfolding is_list
returns-then-bytes-lt-LIST_HEAD_SIZE c = simp (lt-ltb _ _ c.if-bytes-lt-LIST_HEAD_SIZE.true)

pub returns : goal.returns
unfolding is_list
returns c =
    let taken = c in
    let passed = taken in
    let bytes = passed.args.bytes.now in
    let head = tagged list_kind [] in
    c.agree.ensures
    ∙ ap (λ (l : List ℕ). agrees l head) taken.part_of.ensures
    ∙ ap (λ (b : Bool). not b && agrees (part 0 2 bytes) head)
    (sym (le-ltb (length bytes) 4 passed.if-bytes-lt-LIST_HEAD_SIZE.false))
