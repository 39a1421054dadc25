-- `issued::true_counts` meets its contract.
-- Assumes nothing.
use mathlib.Core.Path.{sym, ap, ◌∙◌}
use Prim.Native.Nat.{ℕ, ◌*◌}
use native.Mathlib.Omega.{arith}
use lib.ListN.{length-replicate}
use lib.Seq.{length-take-le}
use Rattle.issued.specs.Issued.{counts_of}
use Rattle.issued.proofs.Listing.{entries_used}
use Rattle.issued.proofs.Counting.{counted, zeros_room}
use Rattle.issued.proofs.Spending.{sound, places_fit}
use Rattle.issued.proofs.true_counts.Goals as goal

pub overflow_mul-width : goal.overflow_mul-width
overflow_mul-width c =
    let a = c.args in
    let g = sound a.width a.buffer.now a.used (sym c.is_bad_buffer.ensures ∙ c.if-is_bad_buffer.false) in
    omega (arith, places_fit a.width a.used a.buffer.now g.fits)

pub slice_bounds-count-end : goal.slice_bounds-count-end
slice_bounds-count-end c =
    let a = c.args in
    let g = sound a.width a.buffer.now a.used (sym c.is_bad_buffer.ensures ∙ c.if-is_bad_buffer.false) in
    sym (length-take-le (a.width * a.used) a.buffer.now (places_fit a.width a.used a.buffer.now g.fits))

pub count-requires : goal.count-requires
count-requires c =
    let a = c.args in
    let g = sound a.width a.buffer.now a.used (sym c.is_bad_buffer.ensures ∙ c.if-is_bad_buffer.false) in
    let u = entries_used a.width a.used a.buffer.now g.positive (places_fit a.width a.used a.buffer.now g.fits) in
    (g.positive, length-replicate {A = ℕ} 256 0, zeros_room _ (omega (arith, u.0, g.fits, g.few)))

pub returns : goal.returns
returns c =
    let a = c.args in
    let good = sym c.is_bad_buffer.ensures ∙ c.if-is_bad_buffer.false in
    let g = sound a.width a.buffer.now a.used good in
    let u = entries_used a.width a.used a.buffer.now g.positive (places_fit a.width a.used a.buffer.now g.fits) in
    counted _ c.count.ensures ∙ ap counts_of u.1 ∙ sym (simp good)
