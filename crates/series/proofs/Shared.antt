-- The premises of the claim about one list can be met: two boxes open on a list of six places, one
-- with a challenge that begins with E9 and one with another. In the other's place, the first one's
-- challenge, or its successor, is refused with 16.
-- Assumes nothing.
use Rattle.std.specs.Prelude.{Option, Some, None}
use mathlib.Core.Bool.{Bool, true, false, ◌&&◌, false≢true}
use mathlib.Core.List.{List, [], ◌∷◌, flatten}
use mathlib.Core.Path.{◌≡◌, refl, ap}
use Prim.Native.Nat.{ℕ, zero, suc, ◌<◌}
use native.Mathlib.Omega.{arith}
use borrow.Author.Tests.{ltb-true}
use lib.Dec.{ltb}
use lib.ListN.{length, get_or, replicate}
use Rattle.octets.specs.Parts.{over, agrees}
use Rattle.issued.specs.Issued.{Issued, contains, contains_any, ending, endings, empty_list}
use Rattle.issued.specs.Issued.{bad_buffer, spend_refusal}
use Rattle.challenges.specs.Challenges.{incremented, challenges_from}
use Rattle.authenticator.specs.Conversation.{is_ended}
use Rattle.authenticator.specs.Opening.{Opening, open_refusal, opened, opened_issued}
use Rattle.authenticator.specs.declared.Conversation.{Conversation}
use Rattle.authenticator.proofs.Openings.{opened_first, may_open_empty}
use Rattle.series.specs.Openers.{our_opener}
use Rattle.series.specs.OneList.{PassedOn, Openable, Two}

-- ---- openings

abbrev pub opening_with : Option Bool → Issued → Option ℕ → List ℕ → Opening
opening_with lm list r challenge =
    record { id = 7; challenge = challenge; retries = r; lm = lm; change = None; limit = 5; issued = list; buffer = replicate 17 0 }

abbrev pub opening_on : Issued → Option ℕ → List ℕ → Opening
opening_on = opening_with None

abbrev pub challenge : List ℕ
challenge = 0xE9 ∷ 2 ∷ 3 ∷ 4 ∷ 5 ∷ 6 ∷ 7 ∷ 8 ∷ []

abbrev pub first : Opening
first = opening_on (empty_list 8 6) None challenge

abbrev pub second : Opening
second = opening_on (opened_issued first) None (replicate 8 1)

pub six_places : bad_buffer 8 (replicate 48 0) 0 ≡ false
unfolding bad_buffer
six_places = refl

-- on an empty list it needs nothing more, whatever it says of LM
pub openable : (lm : Option Bool) → Openable (opening_with lm (empty_list 8 6) None challenge)
unfolding endings ending contains_any challenges_from contains
openable lm =
    record {
      eight = refl;
      not18 = omega arith;
      not13 = omega arith;
      not2 = omega arith;
      buffer24 = six_places;
      counts24 = refl;
      not16 = refl;
      not17 = omega arith;
    }

pub first_opens_lem : (opened first).refusal ≡ 0
first_opens_lem = may_open_empty first (omega arith) (omega arith) (omega arith) six_places refl refl (omega arith)

second_opens_lem : (opened second).refusal ≡ 0
unfolding opened opened_issued open_refusal spend_refusal bad_buffer flatten over agrees ending endings contains contains_any challenges_from
second_opens_lem = refl

-- ---- the premises

abbrev small : List ℕ → Bool
small [] = true
small (x ∷ l) = ltb x 256 && small l

octets : (l : List ℕ) → small l ≡ true → (k : ℕ) → get_or l k 0 < 256
octets [] h k = omega arith
octets (x ∷ l) h k = which (ltb x 256) refl h k (octets l)
  where
    which : (t : Bool) → ltb x 256 ≡ t → (t && small l) ≡ true → (k : ℕ) → (small l ≡ true → (j : ℕ) → get_or l j 0 < 256) → get_or (x ∷ l) k 0 < 256
    which true p q zero next = ltb-true x 256 p
    which true p q (suc k) next = next q k
    which false p q k next = absurd (false≢true q)

-- on the very list that was left
pub input : (o : Opening) → small o.challenge ≡ true → length o.challenge ≡ 8 → PassedOn o.issued o
input o s e = record { kept = λ x h. h; eight = e; octets = octets o.challenge s }

-- an opening that is not refused hands out a conversation that goes on
pub opens_live : (o : Opening) → (opened o).refusal ≡ 0 → is_ended (opened o).conversation.phase ≡ false
opens_live o ok = ap (λ (c : Conversation). is_ended c.phase) (opened_first o ok)

pub two : Two our_opener (empty_list 8 6) first second
two =
    record {
      before = [];
      between = [];
      after = [];
      run = (input first refl refl, (input second refl refl, tt));
      first_opens = opens_live first first_opens_lem;
      second_opens = opens_live second second_opens_lem;
    }

-- ---- refused

pub again_refused : (opened (opening_on (opened_issued first) None challenge)).refusal ≡ 16
unfolding opened opened_issued open_refusal spend_refusal bad_buffer flatten over agrees ending endings contains contains_any challenges_from
again_refused = refl

pub successor_refused : (opened (opening_on (opened_issued first) (Some 0) (incremented challenge))).refusal ≡ 16
unfolding opened opened_issued open_refusal spend_refusal bad_buffer flatten over agrees ending endings contains contains_any challenges_from
successor_refused = refl
