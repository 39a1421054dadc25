-- The numbers of the refusals (document 01, "Refusal numbers").
-- Assumes nothing: these are definitions.
use Rattle.std.specs.Prelude.{ℕ, Result, Ok, Err}
use Rattle.refusals.specs.declared.Refusal.{Refusal}
use Rattle.refusals.specs.declared.Refusal.TheVariants.{Ended, ReplyBuffer, Frame, Code, Identifier}
use Rattle.refusals.specs.declared.Refusal.TheVariants.{Size, Flags, Input, Room, Name, Kind}
use Rattle.refusals.specs.declared.Refusal.TheVariants.{Filler, Retries, Line, Doubled, Issued}
use Rattle.refusals.specs.declared.Refusal.TheVariants.{Full, Limit, List, Argument, Text, Record}
use Rattle.refusals.specs.declared.Refusal.TheVariants.{Nowhere}

abbrev pub number : Refusal → ℕ
number Ended = 1
number ReplyBuffer = 2
number Frame = 3
number Code = 4
number Identifier = 5
number Size = 6
number Flags = 7
number Input = 8
number Room = 9
number Name = 10
number Kind = 11
number Filler = 12
number Retries = 13
number Line = 14
number Doubled = 15
number Issued = 16
number Full = 17
number Limit = 18
number List = 24
number Argument = 100
number Text = 101
number Record = 102
number Nowhere = 103

-- the number that an answer tells; 0 is none
abbrev pub told : {A : Type 0} → Result A Refusal → ℕ
told (Ok a) = 0
told (Err r) = number r
