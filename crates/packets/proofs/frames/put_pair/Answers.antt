-- `packets::frames::put_pair` meets its contract.
-- Assumes nothing.
use mathlib.Core.Path.{refl}
use Rattle.octets.proofs.Laid as laid
use Rattle.packets.proofs.frames.put_pair.Goals as goal

pub returns : goal.returns
returns c =
    let a = c.args in
    laid.join a.at a.first.now a.second.now a.out.now refl c.copy_at.ensures c.copy_at-2.ensures
