-- `smbpasswd::texts::time_digits` meets its contract.
-- Assumes nothing.
use mathlib.Core.Path.{◌≡◌, sym, ap, ◌∙◌}
use native.Mathlib.Omega.{arith}
use lib.ListN.{length, replicate}
use Rattle.octets.specs.Digits.{hex_text}
use Rattle.octets.proofs.HexText.{length_hex}
use Rattle.octets.proofs.Laid.{filled}
use Rattle.smbpasswd.proofs.texts.time_digits.Goals as goal

pub returns : goal.returns
returns c =
    let octets = c.u32_to_be-octets in
    let long : length (hex_text octets.result) ≡ 8 = omega (arith, length_hex octets.result, ap length octets.ensures) in
    c.encode_hex.ensures ∙ filled (hex_text octets.result) (replicate 8 0) (sym long) ∙ ap hex_text octets.ensures
