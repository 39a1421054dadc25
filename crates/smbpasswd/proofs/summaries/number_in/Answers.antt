use mathlib.Core.Path.{sym, ◌∙◌}
use Prim.Native.Nat.{◌+◌, ◌*◌, ◌≤◌, ◌^◌}
use native.Mathlib.Omega.{arith}
use Rattle.std.proofs.lemmas.Grind.{common_steps}
use Rattle.smbpasswd.proofs.Numbers.{none_large, too_large}
use Rattle.smbpasswd.proofs.summaries.number_in.Goals as goal

-- what is too large for 32 bits stays so, whatever digits come
pub returns-in_err-value : goal.returns-in_err-value
returns-in_err-value c =
    let large : 2 ^ 32 ≤ c.loop-octet.value * 10 + c.digit_value.result =
    grind (arith, common_steps, c.try_from.ensures, c.ok.ensures.value, c.in_err-value.was, c.from.ensures) in
    c.from_residual.ensures
    ∙ none_large c.args.s.now (omega (arith, c.loop-octet-test.true))
    (sym c.are_digits.ensures ∙ c.if-not-are_digits.false)
    (too_large c.loop-octet.invariant c.loop-octet-test.true c.digit_value.ensures large)
