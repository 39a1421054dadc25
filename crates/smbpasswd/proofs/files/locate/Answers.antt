use mathlib.Core.List.{List}
use mathlib.Core.Path.{sym, ap, ap₂, ◌∙◌}
use Prim.Native.Nat.{ℕ}
use Rattle.smbpasswd.specs.declared.lines.Lines.{Lines}
use Rattle.smbpasswd.specs.File.{Nowhere, located}
use Rattle.smbpasswd.specs.Inner.{searched, placed_at, place_in}
use Rattle.smbpasswd.proofs.Search.{placed_back, located_back, searched_more, searched_none}
use Rattle.smbpasswd.proofs.Search.{searched_place}
use Rattle.smbpasswd.proofs.files.locate.Goals as goal

pub loop-at-init : goal.loop-at-init
loop-at-init c =
    let n = c.args.name.now in
    ap (λ (x : Lines). searched n Nowhere (placed_at x.at x.file.now)) c.into_iter-at-iterator.ensures.into_iter_gives
    ∙ ap₂ (λ (i : ℕ) (f : List ℕ). searched n Nowhere (placed_at i f)) c.of-at-items.ensures.1 c.of-at-items.ensures.0
    ∙ searched_place n c.args.file.now

pub loop-at-preserved : goal.loop-at-preserved
loop-at-preserved c =
    searched_more c.args.name.now (place_in c.loop-at.place) c.in-Some.at c.in-Some.line.now c.in-Some.ensures.steps
    (ap place_in c.after_line-place.ensures ∙ placed_back _)
    ∙ c.loop-at.invariant

pub returns : goal.returns
returns c =
    sym (located_back c.loop-at.place)
    ∙ ap located (sym (searched_none c.args.name.now (place_in c.loop-at.place) c.in-None.ensures.steps.0) ∙ c.loop-at.invariant)
