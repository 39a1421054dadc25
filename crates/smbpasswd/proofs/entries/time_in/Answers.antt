-- `smbpasswd::entries::time_in` meets its contract.
-- Assumes nothing.
use mathlib.Core.Bool.{cond}
use mathlib.Core.List.{List, map}
use mathlib.Core.Path.{◌≡◌, sym, ap, ◌∙◌}
use Prim.Native.Nat.{ℕ}
use native.Mathlib.Omega.{arith}
use borrow.Author.Rules.{rules}
use lib.ListN.{drop, replicate, length-drop}
use Rattle.octets.specs.Digits.{digit_of, all_below, pairs}
use Rattle.octets.specs.Numbers.{from_be}
use Rattle.octets.specs.Parts.{over}
use Rattle.octets.proofs.Listed.{written}
use Rattle.octets.proofs.Parts.{part_rest}
use Rattle.smbpasswd.proofs.Digits.{decoded, time_digits}
use Rattle.smbpasswd.proofs.entries.time_in.Goals as goal

pub returns : goal.returns
returns c =
    let octets : c.decode_hex.new.out ≡ pairs (map digit_of (drop 4 c.args.s.now)) =
    let d = time_digits c.args.s.now c.requires in
    let whole = c.part_of.ensures ∙ part_rest 4 c.args.s.now in
    c.decode_hex.ensures
    ∙ ap (λ (f : List ℕ). cond (all_below 16 (map digit_of f)) (over (pairs (map digit_of f)) (replicate 4 0)) (replicate 4 0)) whole
    ∙ decoded 4 (drop 4 c.args.s.now) (omega (arith, length-drop 4 c.args.s.now, d.long)) d.digits in
    let out = c.decode_hex.new.out in
    c.u32_from_be.ensures ∙ ap from_be (sym (written 4 out (search rules))) ∙ ap from_be octets
