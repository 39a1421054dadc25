-- `layouts::passwords::put_password` meets its contract.
-- Assumes nothing.
use mathlib.Core.Path.{refl, ap, ◌∙◌}
use lib.ListN.{length}
use Rattle.layouts.proofs.Filling.{filled_with}
use Rattle.layouts.proofs.PasswordLaws.{length_password}
use Rattle.layouts.proofs.passwords.put_password.Goals as goal

pub returns : goal.returns
returns c =
    let put = c in
    let encoded = put in
    let p = encoded.args.password.now in
    let value = encoded.encode_password.ensures in
    filled_with (ap length value ∙ length_password p) value refl put.fill.ensures
