-- `mschap::passwords::mschap_lm_hash` meets its contract.
-- Assumes nothing.
use mathlib.Core.Path.{refl, ap}
use Rattle.refusals.specs.Refusal.{told}
use Rattle.layouts.proofs.Filling.{fills_as}
use Rattle.mschap.specs.Answers.{octets_or_zeros}
use Rattle.mschap.proofs.passwords.mschap_lm_hash.Goals as goal

pub returns : goal.returns
returns c =
    fills_as refl (ap told c.lm_hash.ensures) (ap (octets_or_zeros 16) c.lm_hash.ensures) c.fill_answer.ensures
