use mathlib.Core.Path.{◌≡◌, sym, ap, ◌∙◌}
use mathlib.Core.List.{List}
use Prim.Native.Nat.{ℕ}
use native.Mathlib.Omega.{arith}
use borrow.Author.Rules.{rules}
use lib.ListN.{length}
use Rattle.md4.specs.Md4.{operations}
use Rattle.md4.specs.Inner.{in_range}
use Rattle.md4.proofs.Table.{within_at, one_more, none_left}
use Rattle.md4.proofs.rounds.apply_round.Goals as goal

pub offset_bounds-x-k : goal.offset_bounds-x-k
offset_bounds-x-k g c =
    let t = c.TABLE-k-items.result in
    let n : length t ≡ 16 = search rules in
    let e = within_at t c.loop-k.k-index (0, 0) (ap in_range c.TABLE-k-items.ensures ∙ g.met.R.Round.within) (omega arith) in
    record { fits = omega (arith, e.word) }

pub bounds-x-k : goal.bounds-x-k
bounds-x-k g c =
    let t = c.TABLE-k-items.result in
    let n : length t ≡ 16 = search rules in
    (within_at t c.loop-k.k-index (0, 0) (ap in_range c.TABLE-k-items.ensures ∙ g.met.R.Round.within) (omega arith)).word

pub operation-r-requires : goal.operation-r-requires
operation-r-requires g c =
    let t = c.TABLE-k-items.result in
    let n : length t ≡ 16 = search rules in
    (within_at t c.loop-k.k-index (0, 0) (ap in_range c.TABLE-k-items.ensures ∙ g.met.R.Round.within) (omega arith)).shifts

pub loop-k-preserved : goal.loop-k-preserved
loop-k-preserved g c =
    let t = c.TABLE-k-items.result in
    let n : length t ≡ 16 = search rules in
    let i = c.loop-k.k-index in
    let step = one_more g.R.Round.aux g.R.Round.ADDED c.args.x t i c.loop-k.r (0, 0) (omega arith) in
    ap (operations g.R.Round.aux g.R.Round.ADDED c.args.x _) c.operation-r.ensures
    ∙ sym step ∙ c.loop-k.invariant

pub returns : goal.returns
returns g c =
    let t = c.TABLE-k-items.result in
    let n : length t ≡ 16 = search rules in
    sym (none_left g.R.Round.aux g.R.Round.ADDED c.args.x t c.loop-k.k-index c.loop-k.r (omega arith))
    ∙ c.loop-k.invariant
    ∙ ap (λ (l : List (ℕ × ℕ)). operations g.R.Round.aux g.R.Round.ADDED c.args.x l c.args.s) c.TABLE-k-items.ensures
