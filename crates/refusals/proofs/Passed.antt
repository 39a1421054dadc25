-- A refusal that `?` passes on is the answer.
-- Assumes nothing.
use mathlib.Core.Path.{◌≡◌, ap}
use Rattle.std.specs.Prelude.{Result, Ok, Err, IsErrAnd}
use Rattle.refusals.specs.declared.Refusal.{Refusal}

pub passed_on : {A : Type 0} (answer : Result A Refusal) {r : Refusal}
    → IsErrAnd answer (λ x. x ≡ r) → answer ≡ Err r
passed_on (Ok a) h = absurd h
passed_on (Err x) h = ap Err h
