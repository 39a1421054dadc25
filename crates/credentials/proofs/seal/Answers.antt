-- `credentials::seal` meets its contract.
-- Assumes nothing.
use mathlib.Core.List.{List}
use mathlib.Core.Path.{sym, ap, ◌∙◌}
use Prim.Native.Nat.{ℕ}
use Rattle.std.specs.Prelude.{Result, Ok}
use Rattle.refusals.specs.declared.Refusal.{Refusal}
use Rattle.rc4.specs.Rc4.{crypted}
use Rattle.credentials.specs.Credentials.{sealed_block, sealed_as}
use Rattle.credentials.proofs.Laws.{sealed_good}
use Rattle.credentials.proofs.seal.Goals as goal

pub returns-then-is_bad_nt_password : goal.returns-then-is_bad_nt_password
unfolding sealed_as
returns-then-is_bad_nt_password c = simp (sym c.is_bad_nt_password.ensures ∙ c.if-is_bad_nt_password.true)

pub returns-then-is_bad_filler : goal.returns-then-is_bad_filler
unfolding sealed_as
returns-then-is_bad_filler c =
    simp (sym c.is_bad_nt_password.ensures ∙ c.if-is_bad_nt_password.false, sym c.is_bad_filler.ensures ∙ c.if-is_bad_filler.true)

pub returns : goal.returns
unfolding sealed_block
returns c =
    let a = c.args in
    let good = sym c.is_bad_nt_password.ensures ∙ c.if-is_bad_nt_password.false in
    let full = sym c.is_bad_filler.ensures ∙ c.if-is_bad_filler.false in
    ap {B = Result (List ℕ) Refusal} (λ (x : List ℕ). Ok x) (c.rc4.ensures.1 ∙ ap (crypted a.old) c.plain_block-block.ensures)
    ∙ sym (sealed_good a.old a.password.now a.filler.now good full)
