-- `issued::is_bad_buffer` meets its contract.
-- Assumes nothing.
use borrow.Author.Tests.{eq-eqb, ne_eqb, lt-ltb, le-ltb}
use Rattle.issued.specs.Issued.{bad_buffer}
use Rattle.issued.proofs.is_bad_buffer.Goals as goal
use Rattle.issued.proofs.is_bad_buffer.Goals.{then-width-eq0-via-then-width-eq0}
use Rattle.issued.proofs.is_bad_buffer.Goals.{then-width-eq0-via-else-width-eq0+then-buffer-width-ne0}

pub returns-then-width-eq0 : goal.returns-then-width-eq0
unfolding bad_buffer
returns-then-width-eq0 c =
    elim c.then-width-eq0.branch [
      | then-width-eq0-via-then-width-eq0 w ↦ simp (eq-eqb _ _ w.if-width-eq0.true)
      | then-width-eq0-via-else-width-eq0+then-buffer-width-ne0 w ↦ simp (ne_eqb _ _ w.if-width-eq0.false, ne_eqb _ _ w.if-buffer-width-ne0.true)
    ]

pub returns-then-places-gt-MOST_PLACES : goal.returns-then-places-gt-MOST_PLACES
unfolding bad_buffer
returns-then-places-gt-MOST_PLACES c =
    simp (ne_eqb _ _ c.if-width-eq0.false, eq-eqb _ _ c.if-buffer-width-ne0.false, lt-ltb _ _ c.if-places-gt-MOST_PLACES.true)

pub returns-else-places-gt-MOST_PLACES : goal.returns-else-places-gt-MOST_PLACES
unfolding bad_buffer
returns-else-places-gt-MOST_PLACES c =
    simp (ne_eqb _ _ c.if-width-eq0.false, eq-eqb _ _ c.if-buffer-width-ne0.false, le-ltb _ _ c.if-places-gt-MOST_PLACES.false)
