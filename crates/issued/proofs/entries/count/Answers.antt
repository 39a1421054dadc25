use mathlib.Core.List.{List}
use mathlib.Core.Path.{ap, ◌∙◌}
use Prim.Native.Nat.{ℕ}
use native.Mathlib.Omega.{arith}
use lib.ListN.{length}
use Rattle.std.specs.Slice.Iter.{chunks_exact_rest, chunks_exact_size}
use Rattle.issued.specs.Issued.{entries_in}
use Rattle.issued.specs.Inner.{raised}
use Rattle.issued.proofs.Listing.{entries_more, entries_none, length_in}
use Rattle.issued.proofs.Counting.{raise_fits, raise_next, all_counted}
use Rattle.issued.proofs.entries.count.Goals as goal

pub loop-entry-init : goal.loop-entry-init
loop-entry-init c =
    let g = c.into_iter-entry-iterator.ensures.into_iter_gives in
    let i = c.chunks_exact-entry-items.ensures in
    let e = ap chunks_exact_rest g ∙ i.rest in
    let p = c.requires in (
      ap chunks_exact_size g ∙ i.size,
      record {
        size = p.1;
        room = λ y. omega (arith, p.2 y, length_in c.args.width c.args.run.now, ap (λ (l : List ℕ). length (entries_in c.args.width l)) e);
        same = ap (λ (l : List ℕ). raised c.args.counts.now (entries_in c.args.width l)) e;
      },
    )

pub raise-requires : goal.raise-requires
raise-requires c =
    let v = c.loop-entry.invariant in
    let s = c.in-Some.ensures.steps in
    raise_fits v.1
    (entries_more c.args.width c.in-Some.entry.now (chunks_exact_rest c.next.new.self) c.requires.0 v.0 s.1.0 s.1.1)
    c.last_of.result

pub loop-entry-preserved : goal.loop-entry-preserved
loop-entry-preserved c =
    let v = c.loop-entry.invariant in
    let s = c.in-Some.ensures.steps in (
      s.0 ∙ v.0,
      raise_next v.1
          (entries_more c.args.width c.in-Some.entry.now (chunks_exact_rest c.next.new.self) c.requires.0 v.0 s.1.0 s.1.1)
          c.raise.ensures c.last_of.ensures,
    )

pub returns : goal.returns
returns c =
    let v = c.loop-entry.invariant in
    all_counted v.1 (entries_none c.args.width (chunks_exact_rest c.loop-entry.entry-iterator) v.0 c.in-None.ensures.steps.1.0)
