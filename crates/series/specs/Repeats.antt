-- Repeats one after the other (document 02, request 2026-01).
-- Assumes nothing: these are definitions.
use Rattle.std.specs.Prelude.{List}
use Rattle.authenticator.specs.Steps.{StepInput}
use Rattle.authenticator.specs.Repeats.{Again}
use Rattle.series.specs.Course.{Along}

-- each of them repeats the first packet
abbrev pub EachAgain : StepInput → List StepInput → Type 0
EachAgain first ts = Along (λ (s t : StepInput). s) Again first ts
