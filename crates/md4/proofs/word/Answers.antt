-- `md4::word` meets its contract.
-- Assumes nothing.
use mathlib.Core.Path.{◌≡◌, sym, ap, ◌∙◌}
use Prim.Native.Nat.{◌*◌}
use native.Mathlib.Omega.{arith}
use borrow.Author.Rules.{rules}
use lib.ListN.{length}
use Rattle.octets.specs.Numbers.{from_le}
use Rattle.octets.proofs.Listed.{written}
use Rattle.octets.proofs.Parts.{fixed_part}
use Rattle.md4.proofs.word.Goals as goal

pub returns : goal.returns
returns c =
    let a = c.args in
    let block : length a.b.now ≡ 64 = search rules in
    let four : length c.array_at.result ≡ 4 = search rules in
    c.u32_from_le.ensures
    ∙ ap from_le (sym (written 4 c.array_at.result four) ∙ c.array_at.ensures ∙ fixed_part (4 * a.k) 4 a.b.now (omega arith))
