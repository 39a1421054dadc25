-- `packets::responses::name` meets its contract.
-- Assumes nothing.
use mathlib.Core.Path.{ap, ◌∙◌}
use Prim.Native.Nat.{ℕ}
use Rattle.octets.specs.Parts.{part}
use Rattle.packets.proofs.responses.name.Goals as goal

pub returns : goal.returns
returns c = c.part_of.ensures ∙ ap (λ (n : ℕ). part 54 n c.args.packet.now) c.behind-n.ensures
