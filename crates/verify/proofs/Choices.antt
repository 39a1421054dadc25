-- A choice that a test makes, or else another.
-- Assumes nothing.
use mathlib.Core.Path.{◌≡◌, refl}
use mathlib.Core.Bool.{Bool, true, false, cond}
use Rattle.std.specs.Prelude.{Option, Some, None}
use Rattle.std.specs.Option.{option_or}
use Rattle.std.specs.Bool.{then_some}

pub chosen : {A : Type 0} (b : Bool) (x : A) (rest : Option A)
    → option_or (then_some b x) rest ≡ cond b (Some x) rest
chosen true x rest = refl
chosen false x rest = refl

-- four tests, the first of which decides
pub first_of_four : {A : Type 0} (a b c d : Bool) (w x y z : A)
    → option_or (then_some a w)
    (option_or (then_some b x) (option_or (then_some c y) (then_some d z)))
    ≡ cond a (Some w) (cond b (Some x) (cond c (Some y) (cond d (Some z) None)))
first_of_four true b c d w x y z = refl
first_of_four false true c d w x y z = refl
first_of_four false false true d w x y z = refl
first_of_four false false false true w x y z = refl
first_of_four false false false false w x y z = refl
