-- `credentials::plain_block` meets its contract.
-- Assumes nothing.
use Rattle.credentials.proofs.Plain.{block_filled}
use Rattle.credentials.proofs.plain_block.Goals as goal

pub returns : goal.returns
returns c =
    let third = c in
    let second = third in
    let first = second in
    let s = first in
    block_filled s.args.filler.now s.args.password.now s.requires.1 s.requires.0
    first.copy.ensures second.copy_at.ensures third.u32_to_le.ensures third.copy_at-2.ensures
