-- `des::encrypt_three` meets its contract.
-- Assumes nothing.
use mathlib.Core.Path.{◌≡◌}
use native.Mathlib.Omega.{arith}
use lib.ListN.{length}
use Rattle.octets.proofs.Parts.{fixed_part}
use Rattle.des.specs.Des.{des_encrypt, des_three}
use borrow.Author.Rules.{rules}
use Rattle.des.proofs.encrypt_three.Goals as goal

pub returns : goal.returns
unfolding des_three des_encrypt
returns c =
    let keys = c.args.keys in
    let n : length keys ≡ 21 = search rules in
    let first = fixed_part 0 7 keys (omega arith) in
    let second = fixed_part 7 7 keys (omega arith) in
    let third = fixed_part 14 7 keys (omega arith) in
    cc
