-- `des::schedule::key_number` meets its contract.
-- Assumes nothing.
use mathlib.Core.Path.{◌≡◌, sym, ap, ◌∙◌}
use Prim.Native.Nat.{ℕ, ◌*◌, ◌%◌, ◌^◌}
use native.Mathlib.Nat.{zero-add}
use lib.ListN.{length}
use Rattle.octets.specs.Numbers.{from_be}
use Rattle.octets.proofs.Listed.{written}
use Rattle.des.specs.Des.{expand_key}
use Rattle.des.specs.Inner.{set_apart}
use Rattle.des.proofs.Expanded.{in_octets, expanded}
use borrow.Author.Rules.{rules}
use Rattle.des.proofs.schedule.key_number.Goals as goal

pub returns : goal.returns
unfolding expand_key
returns c =
    let x = c in
    let key = x.args.key in
    let n : length key ≡ 7 = search rules in
    let e : x.u64_from_be-x.result ≡ from_be key = x.u64_from_be-x.ensures ∙ zero-add _ ∙ sym (ap from_be (written 7 key n)) in
    ap (λ (v : ℕ). v * 2 ^ 1 % 2 ^ 64)
    (c.set_apart.ensures
    ∙ ap (set_apart 1 0x3F80_3F80_3F80_3F80 0x007F_007F_007F_007F)
    (c.set_apart-b.ensures ∙ ap (set_apart 2 0x0FFF_C000_0FFF_C000 0x0000_3FFF_0000_3FFF) c.set_apart-a.ensures))
    ∙ expanded x.u64_from_be-x.result (search rules)
    ∙ ap (λ (v : ℕ). from_be (in_octets 8 v)) e
