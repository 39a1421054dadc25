-- `layouts::buffers::fill` meets its contract.
-- Assumes nothing.
use mathlib.Core.Path.{refl, ◌∙◌}
use borrow.Author.Tests.{eq-eqb, ne_eqb}
use Rattle.octets.proofs.Laid.{filled}
use Rattle.layouts.proofs.buffers.fill.Goals as goal

-- another size
pub returns-then-out-bytes : goal.returns-then-out-bytes
returns-then-out-bytes c = record { number = simp (ne_eqb _ _ c.if-out-bytes.true); bytes = refl }

-- a copy into a buffer of the same size is all that is left there
pub returns : goal.returns
returns c =
    let copied = c in
    let passed = copied in
    let a = passed.args in
    record {
      number = simp (eq-eqb _ _ passed.if-out-bytes.false);
      bytes =
          copied.copy.ensures ∙ filled a.bytes.now a.out.now passed.if-out-bytes.false;
    }
