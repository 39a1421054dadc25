-- `mschap::ciphers::mschap_rc4` meets its contract.
-- Assumes nothing.
use mathlib.Core.Path.{sym, ap, ◌∙◌}
use Rattle.refusals.specs.Refusal.{told}
use Rattle.rc4.proofs.Laws.{told_answer}
use Rattle.mschap.proofs.ciphers.mschap_rc4.Goals as goal

pub returns-in-Ok : goal.returns-in-Ok
returns-in-Ok c =
    (sym (ap told c.in-Ok.is) ∙ ap told c.rc4.ensures.0 ∙ told_answer c.args.key.now, c.rc4.ensures.1)

pub returns-in-Err : goal.returns-in-Err
returns-in-Err c = (
  c.refused.ensures ∙ sym (ap told c.in-Err.is) ∙ ap told c.rc4.ensures.0 ∙ told_answer c.args.key.now,
  c.rc4.ensures.1,
)
