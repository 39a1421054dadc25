-- `mschap::ciphers::mschap_md4` meets its contract.
-- Assumes nothing.
use mathlib.Core.Path.{refl, ap}
use Rattle.refusals.specs.Refusal.{told}
use Rattle.layouts.proofs.Filling.{fills_as}
use Rattle.mschap.specs.Answers.{octets_or_zeros}
use Rattle.mschap.proofs.ciphers.mschap_md4.Goals as goal

pub returns : goal.returns
returns c = fills_as refl (ap told c.md4.ensures) (ap (octets_or_zeros 16) c.md4.ensures) c.fill_answer.ensures
