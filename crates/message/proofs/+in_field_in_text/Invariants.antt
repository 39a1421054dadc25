-- `message::in_field` and `message::in_text`, which call each other, meet their contracts. The
-- measure of both is what is left of the message, with its end counted: behind the field, and from
-- the text on. The loop's invariant: the words that were passed over tell nothing more.
-- Assumes nothing.
use mathlib.Core.Path.{◌≡◌}
use Prim.Native.Nat.{◌+◌, ◌-◌, ◌≤◌}
use lib.ListN.{length}
use Rattle.message.specs.Inner.{word_at, completed}
use Rattle.message.proofs.+in_field_in_text.Given as goal

abbrev pub decreases-in_field : goal.decreases-in_field
decreases-in_field l = length l.message.now + 1 - (l.from + length (word_at l.message.now l.from))

abbrev pub decreases-in_text : goal.decreases-in_text
decreases-in_text l = length l.message.now + 1 - l.at

abbrev pub invariant-in_text-loop-from : goal.invariant-in_text-loop-from
invariant-in_text-loop-from l =
    (l.at ≤ l.from) × (completed l.message l.from l.f ≡ completed l.message l.at l.f)

abbrev pub decreases-in_text-loop-from : goal.decreases-in_text-loop-from
decreases-in_text-loop-from l = length l.message - l.from
