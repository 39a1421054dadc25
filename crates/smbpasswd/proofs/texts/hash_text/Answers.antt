-- `smbpasswd::texts::hash_text` meets its contract.
-- Assumes nothing.
use mathlib.Core.Path.{◌≡◌, sym, ◌∙◌}
use native.Mathlib.Omega.{arith}
use borrow.Author.Rules.{rules}
use lib.ListN.{length, replicate}
use Rattle.octets.specs.Digits.{hex_text}
use Rattle.octets.proofs.HexText.{length_hex}
use Rattle.octets.proofs.Laid.{filled}
use Rattle.smbpasswd.specs.Line.{letter_x}
use Rattle.smbpasswd.proofs.texts.hash_text.Goals as goal

pub returns-then-hash : goal.returns-then-hash
returns-then-hash c =
    let sixteen : length c.args.hash.octets ≡ 16 =
    search rules in
    let h = c.args.hash.octets in
    let long : length (hex_text h) ≡ 32 = omega (arith, length_hex h, sixteen) in
    c.encode_hex.ensures ∙ filled (hex_text h) (replicate 32 letter_x) (sym long) ∙ rw c.if-hash.true
