-- The bytes before the places of a list are written over what was there.
-- Assumes nothing.
use mathlib.Core.Path.{◌≡◌, refl, sym}
use mathlib.Core.Bool.{Bool, true, false, ◌||◌, false≢true}
use mathlib.Core.List.{List, ◌++◌}
use Prim.Native.Nat.{ℕ, ◌≤◌}
use borrow.Author.Tests.{ltb-false}
use lib.Dec.{ltb}
use lib.ListN.{length}
use Rattle.issued.specs.Issued.{bad_buffer}
use Rattle.octets.specs.Parts.{over}
use Rattle.octets.proofs.Parts.{over_fits}
use Rattle.layouts.specs.Lists.{list_head, places_in}
use Rattle.mschap.specs.Lists.{bad_places}

-- they are four
pub head_laid : (used : ℕ) (bytes : List ℕ) → 4 ≤ length bytes
    → over (list_head used) bytes ≡ list_head used ++ places_in bytes
head_laid used bytes h = over_fits (list_head used) bytes h

-- neither of two tests holds
pub neither : (s t : Bool) → (s || t) ≡ false → s ≡ false
neither true t e = absurd (false≢true (sym e))
neither false t e = refl

-- places that are not bad have room for them
pub good_head : (used : ℕ) (bytes : List ℕ) → bad_places used bytes ≡ false → 4 ≤ length bytes
good_head used bytes e =
    ltb-false (length bytes) 4
    (neither (ltb (length bytes) 4) (bad_buffer 8 (places_in bytes) used) e)
