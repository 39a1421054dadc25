-- No refusal has the number 0, which says that there is none.
-- Assumes nothing.
use mathlib.Core.Path.{◌≡◌}
use native.Mathlib.Omega.{arith}
use Rattle.refusals.specs.Refusal.{number}
use Rattle.refusals.specs.declared.Refusal.{Refusal}
use Rattle.refusals.specs.declared.Refusal.TheVariants.{Ended, ReplyBuffer, Frame, Code, Identifier}
use Rattle.refusals.specs.declared.Refusal.TheVariants.{Size, Flags, Input, Room, Name, Kind}
use Rattle.refusals.specs.declared.Refusal.TheVariants.{Filler, Retries, Line, Doubled, Issued}
use Rattle.refusals.specs.declared.Refusal.TheVariants.{Full, Limit, List, Argument, Text, Record}
use Rattle.refusals.specs.declared.Refusal.TheVariants.{Nowhere}

pub number_some : (r : Refusal) → number r ≡ 0 → ⊥
number_some Ended e = omega arith
number_some ReplyBuffer e = omega arith
number_some Frame e = omega arith
number_some Code e = omega arith
number_some Identifier e = omega arith
number_some Size e = omega arith
number_some Flags e = omega arith
number_some Input e = omega arith
number_some Room e = omega arith
number_some Name e = omega arith
number_some Kind e = omega arith
number_some Filler e = omega arith
number_some Retries e = omega arith
number_some Line e = omega arith
number_some Doubled e = omega arith
number_some Issued e = omega arith
number_some Full e = omega arith
number_some Limit e = omega arith
number_some List e = omega arith
number_some Argument e = omega arith
number_some Text e = omega arith
number_some Record e = omega arith
number_some Nowhere e = omega arith
