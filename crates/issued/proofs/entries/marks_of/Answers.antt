use mathlib.Core.Path.{◌∙◌}
use native.Mathlib.Omega.{arith}
use Rattle.std.specs.Slice.Iter.{chunks_exact_rest}
use Rattle.issued.proofs.Listing.{entries_more, entries_none}
use Rattle.issued.proofs.Marking.{marked_next, marked_all}
use Rattle.issued.proofs.entries.marks_of.Goals as goal

pub loop-entry-preserved : goal.loop-entry-preserved
loop-entry-preserved c =
    let w = c.args.width in
    let v = c.loop-entry.invariant in
    let s = c.in-Some.ensures.steps in (
      s.0 ∙ v.0,
      marked_next v.1
          (entries_more w c.in-Some.entry.now (chunks_exact_rest c.next.new.self) c.requires v.0 s.1.0 s.1.1)
          c.last_of.ensures (omega arith),
    )

pub returns : goal.returns
returns c =
    let v = c.loop-entry.invariant in
    marked_all v.1 (entries_none c.args.width (chunks_exact_rest c.loop-entry.entry-iterator) v.0 c.in-None.ensures.steps.1.0)
