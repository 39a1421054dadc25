use mathlib.Core.List.{List}
use mathlib.Core.Path.{refl, ap, ◌∙◌}
use Prim.Native.Nat.{ℕ}
use native.Mathlib.Omega.{arith}
use lib.ListN.{length}
use Rattle.std.specs.Slice.Iter.{chunks_exact_rest, chunks_exact_size}
use Rattle.issued.specs.Issued.{entries_in, contains_any}
use Rattle.issued.specs.Inner.{raised}
use Rattle.issued.proofs.Listing.{entries_more, entries_none, length_in}
use Rattle.issued.proofs.Counting.{raise_fits, raise_next, all_counted}
use Rattle.issued.proofs.Marking.{met_next, met_all}
use Rattle.issued.proofs.entries.scan.Goals as goal

pub loop-entry-init : goal.loop-entry-init
loop-entry-init c =
    let q = c.args.sought.now in
    let g = c.into_iter-entry-iterator.ensures.into_iter_gives in
    let i = c.chunks_exact-entry-items.ensures in
    let e = ap chunks_exact_rest g ∙ i.rest in
    let p = c.requires in (
      ap chunks_exact_size g ∙ i.size,
      record {
        size = p.0;
        room = λ y. omega (arith, p.1 y, length_in q.width c.args.list.now, ap (λ (l : List ℕ). length (entries_in q.width l)) e);
        same = ap (λ (l : List ℕ). raised c.args.counts.now (entries_in q.width l)) e;
      },
      ap (λ (l : List ℕ). contains_any (entries_in q.width q.run.now) (entries_in q.width l)) e,
    )

pub raise-requires : goal.raise-requires
raise-requires c =
    let q = c.args.sought.now in
    let v = c.loop-entry.invariant in
    let s = c.in-Some.ensures.steps in
    raise_fits v.1
    (entries_more q.width c.in-Some.entry.now (chunks_exact_rest c.next.new.self) q.some v.0 s.1.0 s.1.1)
    c.last_of.result

pub loop-entry-preserved : goal.loop-entry-preserved
loop-entry-preserved c =
    let q = c.args.sought.now in
    let v = c.loop-entry.invariant in
    let s = c.in-Some.ensures.steps in
    let k = entries_more q.width c.in-Some.entry.now (chunks_exact_rest c.next.new.self) q.some v.0 s.1.0 s.1.1 in (
      s.0 ∙ v.0,
      raise_next v.1 k c.raise.ensures c.last_of.ensures,
      met_next (entries_in q.width q.run.now) c.loop-entry.met k refl c.has-met.ensures ∙ v.2,
    )

pub returns : goal.returns
returns c =
    let q = c.args.sought.now in
    let v = c.loop-entry.invariant in
    let z = entries_none q.width (chunks_exact_rest c.loop-entry.entry-iterator) v.0 c.in-None.ensures.steps.1.0 in
    (met_all (entries_in q.width q.run.now) c.loop-entry.met z ∙ v.2, all_counted v.1 z)
