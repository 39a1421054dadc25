-- `md4::whole_blocks` meets its contract.
-- Assumes nothing.
use mathlib.Core.Path.{◌∙◌}
use borrow.Author.Rules.{rules}
use borrow.Author.Tests.{tests}
use Prim.Native.Nat.{◌/◌}
use lib.ListN.{length}
use Rattle.std.proofs.lemmas.Iterator.{YieldsList-from_slice}
use Rattle.std.proofs.lemmas.Iterator.Consumers.{fold_from_yields_List}
use Rattle.std.specs.Simd.{first_chunks}
use Rattle.blocks.proofs.Run.{run_chunks}
use Rattle.md4.specs.Md4.{block}
use Rattle.md4.proofs.whole_blocks.Goals as goal

pub returns : goal.returns
returns c =
    let a = c.args in
    let b = a.b.now in
    let n = length b / 64 in
    fold_from_yields_List _ (λ r x. block x r) a.s _ c.fold.ensures.ran
    (YieldsList-from_slice (first_chunks 64 n b) cc) (λ r x q f k. search (rules, tests))
    ∙ run_chunks block n b a.s
