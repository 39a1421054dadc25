use mathlib.Core.List.{List}
use mathlib.Core.Path.{◌≡◌, sym, ap, ap₂, ◌∙◌, subst}
use Prim.Native.Nat.{ℕ, ◌+◌, ◌≤◌, ◌^◌}
use native.Mathlib.Omega.{arith}
use lib.ListN.{length}
use Rattle.smbpasswd.specs.declared.Counts.{Counts}
use Rattle.smbpasswd.specs.declared.lines.Lines.{Lines}
use Rattle.smbpasswd.specs.Summary.{no_counts}
use Rattle.smbpasswd.specs.Inner.{count_lines, Within, placed_at}
use Rattle.smbpasswd.proofs.LineLaws.{placed_le}
use Rattle.smbpasswd.proofs.Counting.{same, counted_file, counted_more, counted_none, count_within}
use Rattle.smbpasswd.proofs.summaries.count.Goals as goal

-- a bound that is not sharp
wider : (m n : ℕ) (k : Counts) → m ≤ n → Within m k → Within n k
wider m n k h w =
    record { lines = omega arith; bad = omega arith; disabled = omega arith; expired = omega arith; no_nt = omega arith }

none : Within 0 no_counts
none = record { lines = omega arith; bad = omega arith; disabled = omega arith; expired = omega arith; no_nt = omega arith }

pub loop-line-init : goal.loop-line-init
loop-line-init c =
    let a = c.args in
    let d = c.default-k.ensures in
    let k : c.default-k.result ≡ no_counts = same d.0 d.1.0 d.1.1.0 d.1.1.1.0 d.1.1.1.1 in
    let lines : placed_at c.into_iter-line-iterator.result.at c.into_iter-line-iterator.result.file.now ≡ placed_at 0 a.file.now =
    ap (λ (x : Lines). placed_at x.at x.file.now) c.into_iter-line-iterator.ensures.into_iter_gives
    ∙ ap₂ (λ (i : ℕ) (f : List ℕ). placed_at i f) c.of-line-items.ensures.1 c.of-line-items.ensures.0 in (
      ap₂ (count_lines a.present a.max_age) k lines ∙ counted_file a.present a.max_age a.file.now,
      0,
      subst (Within 0) (sym k) none,
      omega (arith, ap length lines, placed_le a.file.now),
    )

pub count_line-k-requires : goal.count_line-k-requires
count_line-k-requires c =
    let v = c.loop-line.invariant in
    wider v.1 (2 ^ 63) c.loop-line.k (omega (arith, v.3, c.well_formed.0.1)) v.2

pub loop-line-preserved : goal.loop-line-preserved
loop-line-preserved c =
    let a = c.args in
    let v = c.loop-line.invariant in
    let k = c.loop-line.k in (
      counted_more a.present a.max_age k c.in-Some.field-0-0 c.in-Some.line.now c.in-Some.ensures.steps c.count_line-k.ensures ∙ v.0,
      v.1 + 1,
      subst (Within (v.1 + 1)) (sym c.count_line-k.ensures) (count_within a.present a.max_age v.1 k c.in-Some.line.now v.2),
      omega (arith, v.3, ap length c.in-Some.ensures.steps),
    )

pub returns : goal.returns
returns c =
    let a = c.args in
    sym (counted_none a.present a.max_age c.loop-line.k c.in-None.ensures.steps.0) ∙ c.loop-line.invariant.0
