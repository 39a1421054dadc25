-- A list of issued challenges from C: made empty, and how much of it is used.
-- Assumes nothing: these are definitions.
use Rattle.std.specs.Prelude.{Bool, cond, not, ◌&&◌, ◌||◌, List, ◌++◌, ◌≡◌, ℕ, ltb, length}
use Rattle.issued.specs.Issued.{bad_buffer}
use Rattle.packets.specs.Sizes.{challenge_size}
use Rattle.layouts.specs.Call.{after_call}
use Rattle.layouts.specs.Lists.{list_head_size, list_head, used_in, places_in, is_list}

-- the places of a buffer are not whole, are too many, or fewer than are used
abbrev pub bad_places : ℕ → List ℕ → Bool
bad_places used bytes =
    ltb (length bytes) list_head_size || bad_buffer challenge_size (places_in bytes) used

unfoldable pub make_list_refusal : List ℕ → ℕ
make_list_refusal bytes = cond (bad_places 0 bytes) 24 0

-- an empty list in the place of bytes: what is in the places has no meaning, and is left
abbrev pub emptied : List ℕ → List ℕ
emptied bytes = list_head 0 ++ places_in bytes

-- what making a list returns (r) and leaves
pub record MakeListCall (bytes : List ℕ) (r : ℕ) (bytes_after : List ℕ) : Type 0 where
  pub number : r ≡ make_list_refusal bytes
  pub list : bytes_after ≡ after_call r (emptied bytes) bytes

-- a list that an opening does not refuse with 24
unfoldable pub is_good_list : List ℕ → Bool
is_good_list bytes = is_list bytes && not (bad_places (used_in bytes) bytes)
