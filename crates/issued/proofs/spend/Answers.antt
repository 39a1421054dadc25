-- `issued::spend` meets its contract.
-- Assumes nothing.
use mathlib.Core.List.{List}
use mathlib.Core.Path.{◌≡◌, refl, sym, ap, ◌∙◌, subst}
use Prim.Native.Nat.{ℕ, ◌+◌, ◌*◌, ◌/◌, ◌<◌}
use native.Mathlib.Nat.{mul-div-le}
use native.Mathlib.Omega.{arith}
use lib.ListN.{length}
use Rattle.octets.specs.Parts.{over_at}
use Rattle.refusals.proofs.Numbers.{number_some}
use Rattle.issued.specs.Issued.{Issued, entries_in, listed, spend_refusal}
use Rattle.issued.specs.Inner.{raised, CountsFit}
use Rattle.issued.proofs.Listing.{length_in, length_entries, flatten_entries}
use Rattle.issued.proofs.Counting.{length_endings, raised_counts_lem, counts_room}
use Rattle.issued.proofs.Spending.{spendable, places_fit, same_issued, used_still, spent_added}
use Rattle.issued.proofs.Spending.{spent_refused}
use Rattle.issued.proofs.spend.Goals as goal

pub returns-in_err-may_spend-clause-list : goal.returns-in_err-may_spend-clause-list
returns-in_err-may_spend-clause-list c =
    let a = c.args in
    let i : Issued = record { buffer = a.buffer.now; used = a.used; counts = a.counts.now } in
    same_issued refl (used_still a.used c.from_residual.result c.from_residual.ensures.0) refl
    ∙ sym (spent_refused a.width (entries_in a.width a.run.now) i
    (λ z. number_some c.in_err-may_spend.field-0.0 (c.in_err-may_spend.ensures ∙ z)))

pub nonzero_div-n : goal.nonzero_div-n
nonzero_div-n c =
    let a = c.args in
    let i : Issued = record { buffer = a.buffer.now; used = a.used; counts = a.counts.now } in
    (spendable a.width (entries_in a.width a.run.now) i (sym c.in_ok-may_spend.ensures)).buffer.positive

pub overflow_mul-width : goal.overflow_mul-width
overflow_mul-width c =
    let a = c.args in
    let i : Issued = record { buffer = a.buffer.now; used = a.used; counts = a.counts.now } in
    let k = spendable a.width (entries_in a.width a.run.now) i (sym c.in_ok-may_spend.ensures) in
    omega (arith, places_fit a.width i.used i.buffer k.buffer.fits)

pub overflow_mul-width-2 : goal.overflow_mul-width-2
overflow_mul-width-2 c = omega (arith, mul-div-le (length c.args.run.now) c.args.width)

pub count-requires : goal.count-requires
count-requires c =
    let a = c.args in
    let i : Issued = record { buffer = a.buffer.now; used = a.used; counts = a.counts.now } in
    let k = spendable a.width (entries_in a.width a.run.now) i (sym c.in_ok-may_spend.ensures) in
    let n = length a.run.now / a.width in
    let es = listed a.width i in
    let few : length es + n < 65536 = omega (arith, k.room, k.buffer.few, length_entries a.width i.used i.buffer, length_in a.width a.run.now) in
    (k.buffer.positive, ap length k.counts ∙ length_endings 0 256 es, subst (λ (l : List ℕ). CountsFit l n) (sym k.counts) (counts_room es n few))

pub overflow_add-result : goal.overflow_add-result
overflow_add-result c =
    let a = c.args in
    let i : Issued = record { buffer = a.buffer.now; used = a.used; counts = a.counts.now } in
    let k = spendable a.width (entries_in a.width a.run.now) i (sym c.in_ok-may_spend.ensures) in
    omega (arith, k.room, k.buffer.few, length_in a.width a.run.now)

pub returns-clause-list : goal.returns-clause-list
returns-clause-list c =
    let a = c.args in
    let w = a.width in
    let run = a.run.now in
    let cs = entries_in w run in
    let i : Issued = record { buffer = a.buffer.now; used = a.used; counts = a.counts.now } in
    let none : spend_refusal w cs i ≡ 0 = sym c.in_ok-may_spend.ensures in
    let k = spendable w cs i none in
    let n = length run / w in
    let laid = c.copy_at.ensures ∙ ap (λ (x : List ℕ). over_at (w * i.used) x i.buffer) (c.part_of.ensures ∙ sym (flatten_entries w n run)) in
    let raised_all = c.count.ensures ∙ ap (λ (l : List ℕ). raised l cs) k.counts ∙ raised_counts_lem (listed w i) cs in
    let more : i.used + n ≡ i.used + length cs = ap (λ (m : ℕ). i.used + m) (sym (length_in w run)) in
    same_issued laid more raised_all ∙ sym (spent_added w cs i none)
