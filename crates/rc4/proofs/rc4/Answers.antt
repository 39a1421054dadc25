-- `rc4::rc4` meets its contract.
-- Assumes nothing.
use mathlib.Core.Bool.{Bool, true, false, cond}
use mathlib.Core.List.{List}
use mathlib.Core.Path.{◌≡◌, sym, ap, ◌∙◌}
use Prim.Native.Nat.{ℕ}
use Rattle.std.specs.Prelude.{Ok, Err}
use Rattle.refusals.specs.declared.Refusal.TheVariants.{Input}
use Rattle.rc4.specs.Rc4.{key_fits, started, keyed}
use Rattle.rc4.proofs.Laws.{run_taken, run_refused}
use Rattle.rc4.proofs.rc4.Goals as goal

taken : (key : List ℕ) → key_fits key ≡ true → Ok (started key) ≡ keyed key
unfolding keyed
taken key e = sym (ap (λ (b : Bool). cond b (Ok (started key)) (Err Input)) e)

refused : (key : List ℕ) → key_fits key ≡ false → Err Input ≡ keyed key
unfolding keyed
refused key e = sym (ap (λ (b : Bool). cond b (Ok (started key)) (Err Input)) e)

pub returns-then-not-key_fits : goal.returns-then-not-key_fits
returns-then-not-key_fits c =
    let key = c.args.key.now in
    run_refused key c.args.«data».now Input (refused key (sym c.key_fits.ensures ∙ c.if-not-key_fits.true))

pub returns : goal.returns
returns c =
    let key = c.args.key.now in
    let run = run_taken key c.args.«data».now (started key) (taken key (sym c.key_fits.ensures ∙ c.if-not-key_fits.false)) in
    (run.0, rw c.of_key-state.ensures at c.apply.ensures.1 ∙ run.1)
