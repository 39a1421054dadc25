-- `issued::may_spend` meets its contract. A buffer that is not bad gives what the pass asks for, and
-- each test is told as its definition says it.
-- Assumes nothing.
use mathlib.Core.Bool.{Bool, false, not}
use mathlib.Core.List.{List}
use mathlib.Core.Path.{◌≡◌, refl, sym, ap, ap₂, ◌∙◌}
use Prim.Native.Nat.{ℕ, ◌-◌, ◌*◌}
use native.Mathlib.Omega.{arith}
use borrow.Author.Tests.{lt-ltb, le-ltb}
use lib.Dec.{eqb}
use lib.ListN.{length, take}
use lib.Pointwise.{pointwise}
use lib.Seq.{length-take-le}
use Rattle.octets.specs.Parts.{agrees}
use Rattle.issued.specs.Issued.{places, entries_in, listed, contains_any, counts_of, bad_counts}
use Rattle.issued.specs.Issued.{bad_buffer}
use Rattle.issued.proofs.Listing.{length_in, entries_used}
use Rattle.issued.proofs.Counting.{counted, zeros_room}
use Rattle.issued.proofs.Spending.{sound, places_fit, same_counts, bad_refused, counts_refused}
use Rattle.issued.proofs.Spending.{met_refused, full_refused, none_refused}
use Rattle.issued.proofs.may_spend.Goals as goal

pub returns-then-is_bad_buffer : goal.returns-then-is_bad_buffer
returns-then-is_bad_buffer c =
    let a = c.args in
    bad_refused a.width (entries_in a.width a.run.now) (record { buffer = a.buffer.now; used = a.used; counts = a.counts.now })
    (sym c.is_bad_buffer.ensures ∙ c.if-is_bad_buffer.true)

pub overflow_mul-width : goal.overflow_mul-width
overflow_mul-width c =
    let a = c.args in
    let g = sound a.width a.buffer.now a.used (sym c.is_bad_buffer.ensures ∙ c.if-is_bad_buffer.false) in
    omega (arith, places_fit a.width a.used a.buffer.now g.fits)

pub slice_bounds-scan-end : goal.slice_bounds-scan-end
slice_bounds-scan-end c =
    let a = c.args in
    let g = sound a.width a.buffer.now a.used (sym c.is_bad_buffer.ensures ∙ c.if-is_bad_buffer.false) in
    sym (length-take-le (a.width * a.used) a.buffer.now (places_fit a.width a.used a.buffer.now g.fits))

pub marks_of-marks-requires : goal.marks_of-marks-requires
marks_of-marks-requires c =
    let a = c.args in
    (sound a.width a.buffer.now a.used (sym c.is_bad_buffer.ensures ∙ c.if-is_bad_buffer.false)).positive

pub of-sought-requires : goal.of-sought-requires
of-sought-requires c =
    let a = c.args in (
      (sound a.width a.buffer.now a.used (sym c.is_bad_buffer.ensures ∙ c.if-is_bad_buffer.false)).positive,
      c.marks_of-marks.ensures,
    )

pub scan-met-requires : goal.scan-met-requires
scan-met-requires c =
    let a = c.args in
    let l = take (a.width * a.used) a.buffer.now in
    let g = sound a.width a.buffer.now a.used (sym c.is_bad_buffer.ensures ∙ c.if-is_bad_buffer.false) in
    let u = entries_used a.width a.used a.buffer.now g.positive (places_fit a.width a.used a.buffer.now g.fits) in (
      refl,
      zeros_room (places c.of-sought.result.width l)
          (omega (arith, ap (λ (k : ℕ). places k l) c.of-sought.ensures.1, u.0, g.fits, g.few)),
    )

-- what the pass found
module _ (w used : ℕ) (l counts run : List ℕ) (b : bad_buffer w l used ≡ false) {v : ℕ} {r : List ℕ} (ew : v ≡ w) (er : r ≡ run) where
  seen : entries_in v (take (w * used) l) ≡ listed w (record { buffer = l; used = used; counts = counts })
  seen =
      let g = sound w l used b in
      ap (λ (k : ℕ). entries_in k (take (w * used) l)) ew
      ∙ (entries_used w used l g.positive (places_fit w used l g.fits)).1

  met_told : {m : Bool} → m ≡ contains_any (entries_in v r) (entries_in v (take (w * used) l))
      → m ≡ contains_any (entries_in w run) (listed w (record { buffer = l; used = used; counts = counts }))
  met_told e = e ∙ ap₂ contains_any (ap₂ entries_in ew er) seen

  counts_told : {tally t : List ℕ} {m : Bool} → m ≡ not (pointwise eqb t counts) → t ≡ tally
      → tally ≡ counts_of (entries_in v (take (w * used) l))
      → m ≡ bad_counts w (record { buffer = l; used = used; counts = counts })
  counts_told {t = t} e f g =
      e ∙ ap not (same_counts t counts ∙ ap (λ (x : List ℕ). agrees x counts) (f ∙ g ∙ ap counts_of seen))

pub returns-then-ne : goal.returns-then-ne
returns-then-ne c =
    let a = c.args in
    let b = sym c.is_bad_buffer.ensures ∙ c.if-is_bad_buffer.false in
    let k = counts_told a.width a.used a.buffer.now a.counts.now a.run.now b c.of-sought.ensures.1 c.of-sought.ensures.0
    c.ne.ensures c.as_slice.ensures (counted _ c.scan-met.ensures.1) in
    counts_refused a.width (entries_in a.width a.run.now) (record { buffer = a.buffer.now; used = a.used; counts = a.counts.now }) b
    (sym k ∙ c.if-ne.true)

pub returns-then-met : goal.returns-then-met
returns-then-met c =
    let a = c.args in
    let b = sym c.is_bad_buffer.ensures ∙ c.if-is_bad_buffer.false in
    let k = counts_told a.width a.used a.buffer.now a.counts.now a.run.now b c.of-sought.ensures.1 c.of-sought.ensures.0
    c.ne.ensures c.as_slice.ensures (counted _ c.scan-met.ensures.1) in
    let m = met_told a.width a.used a.buffer.now a.counts.now a.run.now b c.of-sought.ensures.1 c.of-sought.ensures.0 c.scan-met.ensures.0 in
    met_refused a.width (entries_in a.width a.run.now) (record { buffer = a.buffer.now; used = a.used; counts = a.counts.now }) b
    (sym k ∙ c.if-ne.false) (sym m ∙ c.if-met.true)

pub overflow_sub-buffer : goal.overflow_sub-buffer
overflow_sub-buffer c =
    let a = c.args in
    (sound a.width a.buffer.now a.used (sym c.is_bad_buffer.ensures ∙ c.if-is_bad_buffer.false)).fits

pub returns-then-buffer-width : goal.returns-then-buffer-width
returns-then-buffer-width c =
    let a = c.args in
    let cs = entries_in a.width a.run.now in
    let b = sym c.is_bad_buffer.ensures ∙ c.if-is_bad_buffer.false in
    let k = counts_told a.width a.used a.buffer.now a.counts.now a.run.now b c.of-sought.ensures.1 c.of-sought.ensures.0
    c.ne.ensures c.as_slice.ensures (counted _ c.scan-met.ensures.1) in
    let m = met_told a.width a.used a.buffer.now a.counts.now a.run.now b c.of-sought.ensures.1 c.of-sought.ensures.0 c.scan-met.ensures.0 in
    full_refused a.width cs (record { buffer = a.buffer.now; used = a.used; counts = a.counts.now }) b
    (sym k ∙ c.if-ne.false) (sym m ∙ c.if-met.false)
    (lt-ltb (places a.width a.buffer.now - a.used) (length cs) (omega (arith, c.if-buffer-width.true, length_in a.width a.run.now)))

pub returns : goal.returns
returns c =
    let a = c.args in
    let cs = entries_in a.width a.run.now in
    let b = sym c.is_bad_buffer.ensures ∙ c.if-is_bad_buffer.false in
    let k = counts_told a.width a.used a.buffer.now a.counts.now a.run.now b c.of-sought.ensures.1 c.of-sought.ensures.0
    c.ne.ensures c.as_slice.ensures (counted _ c.scan-met.ensures.1) in
    let m = met_told a.width a.used a.buffer.now a.counts.now a.run.now b c.of-sought.ensures.1 c.of-sought.ensures.0 c.scan-met.ensures.0 in
    none_refused a.width cs (record { buffer = a.buffer.now; used = a.used; counts = a.counts.now }) b
    (sym k ∙ c.if-ne.false) (sym m ∙ c.if-met.false)
    (le-ltb (places a.width a.buffer.now - a.used) (length cs) (omega (arith, c.if-buffer-width.false, length_in a.width a.run.now)))
