-- `smbpasswd::summaries::summarize` meets its contract.
-- Assumes nothing.
use mathlib.Core.List.{List}
use mathlib.Core.Path.{◌≡◌, sym, ap, ◌∙◌}
use Prim.Native.Nat.{ℕ, ◌+◌}
use lib.ListN.{length}
use Rattle.octets.specs.Parts.{part}
use Rattle.octets.specs.Split.{before, behind}
use Rattle.octets.proofs.Split.{part_behind}
use Rattle.smbpasswd.specs.Line.{lf}
use Rattle.smbpasswd.specs.Summary.{space, counts_of}
use Rattle.smbpasswd.specs.Inner.{number_in}
use Rattle.smbpasswd.proofs.Heading.{valued, not_valued, too_long, no_space, bad_first, bad_second}
use Rattle.smbpasswd.proofs.Heading.{summed}
use Rattle.smbpasswd.proofs.summaries.summarize.Goals as goal

-- the first line, what stands before the space in it and behind, and the file
module _ (i : List ℕ) {h f : List ℕ} (eh : h ≡ before lf i) (ef : f ≡ before space h) where
  first_is : f ≡ before space (before lf i)
  first_is = ef ∙ ap (before space) eh

  second_is : {s : List ℕ} → s ≡ part (length f + 1) (length h) h → s ≡ behind space (before lf i)
  second_is e =
      e ∙ ap (λ (l : List ℕ). part (length l + 1) (length h) h) ef ∙ part_behind space h ∙ ap (behind space) eh

file_is : (i : List ℕ) {h r : List ℕ} → h ≡ before lf i → r ≡ part (length h + 1) (length i) i → r ≡ behind lf i
file_is i eh e = e ∙ ap (λ (l : List ℕ). part (length l + 1) (length i) i) eh ∙ part_behind lf i

pub returns-then-input-gt-LONGEST_INPUT : goal.returns-then-input-gt-LONGEST_INPUT
returns-then-input-gt-LONGEST_INPUT c = too_long c.args.input.now c.if-input-gt-LONGEST_INPUT.true

pub returns-then-head-first : goal.returns-then-head-first
returns-then-head-first c =
    let i = c.args.input.now in
    no_space i
    (sym (ap length c.up_to-head.ensures) ∙ c.if-head-first.true
    ∙ ap length (first_is i c.up_to-head.ensures c.up_to-first.ensures))

pub returns-in_default : goal.returns-in_default
returns-in_default c =
    let i = c.args.input.now in
    let first = first_is i c.up_to-head.ensures c.up_to-first.ensures in
    bad_first i (not_valued (before space (before lf i)) (sym c.in_default.is ∙ c.number_in.ensures ∙ ap number_in first))

pub returns-in_default-number_in : goal.returns-in_default-number_in
returns-in_default-number_in c =
    let i = c.args.input.now in
    let second = second_is i c.up_to-head.ensures c.up_to-first.ensures c.part_of-second.ensures in
    bad_second i (not_valued (behind space (before lf i)) (sym c.in_default-number_in.is ∙ c.number_in-2.ensures ∙ ap number_in second))

pub returns : goal.returns
returns c =
    let i = c.args.input.now in
    let first = first_is i c.up_to-head.ensures c.up_to-first.ensures in
    let second = second_is i c.up_to-head.ensures c.up_to-first.ensures c.part_of-second.ensures in
    let rest = file_is i c.up_to-head.ensures c.part_of-file.ensures in
    summed i c.if-input-gt-LONGEST_INPUT.false
    (λ z. c.if-head-first.false (ap length c.up_to-head.ensures ∙ z ∙ sym (ap length first)))
    (valued (before space (before lf i)) (c.in-Some.ensures ∙ ap number_in first))
    (valued (behind space (before lf i)) (c.in-Some-number_in.ensures ∙ ap number_in second))
    (c.count.ensures ∙ ap (counts_of c.in-Some.present c.in-Some-number_in.max_age) rest)
