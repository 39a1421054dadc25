-- `blocks::tail_of` meets its contract.
-- Assumes nothing.
use mathlib.Core.Path.{◌≡◌, refl, sym, ap, ◌∙◌}
use native.Mathlib.Nat.{le_of_eq}
use borrow.Author.Rules.{rules}
use lib.ListN.{length, length-set}
use Rattle.octets.proofs.Parts.{length_over}
use Rattle.blocks.proofs.Ends.{tail_filled}
use Rattle.blocks.proofs.tail_of.Goals as goal

pub slice_bounds-octets-end : goal.slice_bounds-octets-end
slice_bounds-octets-end c =
    simp length-set (le_of_eq (sym (ap length c.copy.ensures ∙ length_over _ _)))

pub returns : goal.returns
returns c =
    let k = c in
    let a = k.args in
    let eight : length a.length ≡ 8 = search rules in
    tail_filled a.message.now a.length eight k.tail_length-used.ensures k.copy.ensures refl c.copy-2.ensures
