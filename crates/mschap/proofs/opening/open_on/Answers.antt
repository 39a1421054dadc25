-- `mschap::opening::open_on` meets its contract.
-- Assumes nothing.
use mathlib.Core.Path.{refl, ap₂, ◌∙◌, subst}
use mathlib.Core.List.{List}
use Prim.Native.Nat.{ℕ}
use Rattle.std.specs.Prelude.{Result}
use Rattle.refusals.specs.declared.Refusal.{Refusal}
use Rattle.refusals.proofs.Passed.{passed_on}
use Rattle.issued.specs.Issued.{true_counts}
use Rattle.octets.proofs.Parts.{fixed_whole}
use Rattle.authenticator.specs.Opening.{Opening, OpenedAs, places_after}
use Rattle.authenticator.specs.declared.Started.{Started}
use Rattle.mschap.specs.Opening.{opening_for}
use Rattle.layouts.proofs.ListLaws.{issued_same}
use Rattle.mschap.proofs.OpenCalls.{opening_same, places_whole}
use Rattle.mschap.proofs.OpenCalls.{refused_on, accepted_on}
use Rattle.mschap.proofs.opening.open_on.Goals as goal

-- What the opening was passed is what the arguments stand for: OpenCalls says the rest.
abbrev Made : Opening → Result Started Refusal → ℕ → List ℕ → List ℕ → List ℕ → Type 0
Made o r used buffer counts reply =
    OpenedAs o r (record { buffer = buffer; used = places_after used r; counts = counts }) reply

-- refused
pub returns-in_err-started : goal.returns-in_err-started
returns-in_err-started c =
    let a = c.args in
    let o = opening_for a.id a.terms a.challenge.now a.list.now a.reply.now in
    let used = c.used_in-used.result in
    let same =
    opening_same a.id a.reply.now
    (c.array_at.ensures ∙ fixed_whole 8 a.challenge.now c.requires.challenge_len)
    c.retries_in.ensures c.lm_in.ensures c.change_in.ensures
    c.limit_in.ensures
    (issued_same (places_whole a.list.now) c.used_in-used.ensures
    (c.true_counts.ensures
    ∙ ap₂ (λ (l : List ℕ) (u : ℕ). true_counts 8 u l) c.places_in.ensures
    c.used_in-used.ensures)) in
    let made =
    subst (λ (o : Opening). Made o c.open.result used c.open.new.list c.open.new.counts c.open.new.reply)
    same c.open.ensures in
    refused_on o a.list.now c.requires.list_head_size_in_bounds refl made
    c.in_err-started.was (passed_on c.from_residual.result c.from_residual.ensures.1)

-- opened
pub returns : goal.returns
returns c =
    let a = c.args in
    let o = opening_for a.id a.terms a.challenge.now a.list.now a.reply.now in
    let used = c.used_in-used.result in
    let same =
    opening_same a.id a.reply.now
    (c.array_at.ensures ∙ fixed_whole 8 a.challenge.now c.requires.challenge_len)
    c.retries_in.ensures c.lm_in.ensures c.change_in.ensures
    c.limit_in.ensures
    (issued_same (places_whole a.list.now) c.used_in-used.ensures
    (c.true_counts.ensures
    ∙ ap₂ (λ (l : List ℕ) (u : ℕ). true_counts 8 u l) c.places_in.ensures
    c.used_in-used.ensures)) in
    let made =
    subst (λ (o : Opening). Made o c.open.result used c.open.new.list c.open.new.counts c.open.new.reply)
    same c.open.ensures in
    let started =
    subst (λ (x : Result Started Refusal). Made o x used c.open.new.list c.open.new.counts c.open.new.reply)
    c.in_ok-started.was made in
    accepted_on o a.list.now c.requires.list_head_size_in_bounds refl started refl
    c.put_list_head.ensures
