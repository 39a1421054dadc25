-- `smbpasswd::summaries::count` meets its contract.
-- Assumes nothing.
use Rattle.std.proofs.Common.{◌≡◌, ◌+◌, ◌≤◌, ℕ, length}
use Rattle.smbpasswd.specs.Summary.{counts_of}
use Rattle.smbpasswd.specs.Inner.{count_lines, Within, placed_at}
use Rattle.smbpasswd.proofs.summaries.count.Given as goal

abbrev pub invariant-loop-line : goal.invariant-loop-line
invariant-loop-line l =
    let left = placed_at l.line-iterator.at l.line-iterator.file.now in
    (count_lines l.clock.present l.clock.max_age l.k left ≡ counts_of l.clock.present l.clock.max_age l.file)
    × (m : ℕ) × Within m l.k × (m + length left ≤ length l.file)
