-- `credentials::unseal` meets its contract.
-- Assumes nothing.
use native.Mathlib.Omega.{arith}
use borrow.Author.Rules.{rules}
use mathlib.Core.Path.{◌≡◌, sym, ap, ap₂, ◌∙◌}
use mathlib.Core.List.{List}
use Prim.Native.Nat.{ℕ}
use lib.ListN.{length}
use Rattle.octets.specs.Parts.{fixed}
use Rattle.octets.specs.Numbers.{from_le}
use Rattle.octets.proofs.Listed.{part_written}
use Rattle.octets.proofs.Parts.{fixed_front}
use Rattle.rc4.specs.Rc4.{crypted}
use Rattle.rc4.proofs.Laws.{length_crypted}
use Rattle.credentials.specs.Credentials.{unsealed_as, length_in, content_for, length_told}
use Rattle.credentials.specs.declared.Content.{Content}
use Rattle.credentials.proofs.Laws.{length_told_lem}
use Rattle.credentials.proofs.unseal.Goals as goal

pub returns : goal.returns
unfolding unsealed_as
returns c =
    let whole : length c.args.block ≡ 516 = search rules in
    let a = c.args in
    let plain = c.rc4.new.«data» in
    let size : length plain ≡ 516 = ap length c.rc4.ensures.1 ∙ length_crypted a.old a.block ∙ whole in
    let n = length_in (crypted a.old a.block) in
    let content : c.content_of-content.result ≡ content_for n =
    c.content_of-content.ensures ∙ ap content_for (c.u32_from_le.ensures ∙ ap from_le (sym (part_written 4 512 plain (omega arith))) ∙ ap length_in c.rc4.ensures.1) in (
      ap₂ (λ (k : Content) (x : List ℕ). record { content = k; octets = x }) content
          (c.array_at.ensures ∙ fixed_front 512 plain ∙ ap (fixed 512) c.rc4.ensures.1),
      ap length_told content ∙ length_told_lem n,
    )
