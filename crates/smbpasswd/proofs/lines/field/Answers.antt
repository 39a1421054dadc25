-- `smbpasswd::lines::field` meets its contract.
-- Assumes nothing.
use mathlib.Core.Path.{◌≡◌, ap, ◌∙◌}
use Prim.Native.Nat.{ℕ, ◌-◌}
use native.Mathlib.Omega.{arith}
use lib.ListN.{length, drop}
use Rattle.octets.specs.Parts.{part}
use Rattle.octets.specs.Split.{before}
use Rattle.octets.proofs.Split.{take_place}
use Rattle.smbpasswd.specs.Line.{colon}
use Rattle.smbpasswd.proofs.lines.field.Goals as goal

pub returns : goal.returns
returns c =
    let a = c.args in
    let n = length (before colon (drop a.at a.line.now)) in
    let count : a.next - a.at - 1 ≡ n = omega arith in
    c.part_of.ensures ∙ ap (λ (k : ℕ). part a.at k a.line.now) count
    ∙ take_place colon (drop a.at a.line.now)
