-- `message::octets_of` meets its contract.
-- Assumes nothing.
use mathlib.Core.Path.{◌∙◌}
use Rattle.message.proofs.Loops.{eight_pairs}
use Rattle.message.proofs.octets_of.Goals as goal

pub returns : goal.returns
returns c =
    let s = c in
    c.decode_hex.ensures ∙ eight_pairs s.args.digits.now s.requires
