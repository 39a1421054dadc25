-- `md4::words` meets its contract.
-- Assumes nothing.
use Prim.Native.Nat.{◌*◌}
use borrow.Author.Rules.{rules}
use Rattle.octets.specs.Parts.{part}
use Rattle.octets.specs.Numbers.{from_le}
use Rattle.octets.proofs.FromFn.{items_from_fn}
use Rattle.md4.specs.Md4.{words_of}
use Rattle.md4.proofs.words.Goals as goal

pub returns : goal.returns
unfolding words_of
returns c =
    let b = c.args.b.now in
    items_from_fn _ (λ k. from_le (part (4 * k) 4 b)) _ (λ i y q k. search rules) 16 _ c.from_fn.ensures.items
