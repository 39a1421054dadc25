-- `message::word_at` meets its contract.
-- Assumes nothing.
use mathlib.Core.Path.{ap, ◌∙◌}
use Rattle.octets.specs.Split.{before}
use Rattle.message.proofs.Words.{word_before}
use Rattle.message.proofs.word_at.Goals as goal

pub returns : goal.returns
returns c =
    let a = c.args in
    c.up_to.ensures ∙ ap (before 32) c.part_of.ensures ∙ word_before a.message.now a.from
