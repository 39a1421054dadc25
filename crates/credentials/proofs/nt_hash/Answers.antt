-- `credentials::nt_hash` meets its contract.
-- Assumes nothing.
use mathlib.Core.Path.{◌≡◌, sym, ◌∙◌}
use mathlib.Core.Bool.{false}
use native.Mathlib.Omega.{arith}
use Rattle.md4.proofs.Laws.{answered}
use Rattle.credentials.specs.Credentials.{bad_nt_password, nt_hash_of}
use Rattle.credentials.proofs.Laws.{good_password, hash_good}
use Rattle.credentials.proofs.nt_hash.Goals as goal

pub returns : goal.returns
unfolding nt_hash_of
returns c =
    let m = c.args.password.now in
    let good : bad_nt_password m ≡ false = sym c.is_bad_nt_password.ensures ∙ c.if-is_bad_nt_password.false in
    c.md4.ensures ∙ answered m (omega (arith, good_password m good)) ∙ sym (hash_good m good)
