-- `des::three_schedules` meets its contract.
-- Assumes nothing.
use mathlib.Core.Path.{◌≡◌}
use native.Mathlib.Omega.{arith}
use lib.ListN.{length}
use Rattle.octets.proofs.Parts.{fixed_part}
use Rattle.des.specs.Stored.{three_schedules}
use borrow.Author.Rules.{rules}
use Rattle.des.proofs.three_schedules.Goals as goal

pub returns : goal.returns
unfolding three_schedules
returns c =
    let keys = c.args.keys in
    let n : length keys ≡ 21 = search rules in
    let first = fixed_part 0 7 keys (omega arith) in
    let second = fixed_part 7 7 keys (omega arith) in
    let third = fixed_part 14 7 keys (omega arith) in
    cc
