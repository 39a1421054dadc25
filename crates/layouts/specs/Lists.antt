-- The layout of a list of issued challenges: how many of its places are used, and the places. The
-- counts of last octets are not in it: they are made of the places that are used, so they are true.
-- Assumes nothing: these are definitions.
use Rattle.std.specs.Prelude.{Bool, ◌&&◌, not, List, [], ◌∷◌, ◌++◌, ℕ, ltb, length, drop}
use Rattle.octets.specs.Parts.{part, agrees}
use Rattle.octets.specs.Numbers.{to_be, from_be}
use Rattle.packets.specs.Frame.{octet}
use Rattle.packets.specs.Sizes.{challenge_size}
use Rattle.issued.specs.Issued.{Issued, true_counts}
use Rattle.layouts.specs.Values.{list_kind, tag_size, tagged}

-- kind, version and the number of used places, in bytes
abbrev pub list_head_size : ℕ
list_head_size = 4

-- in the whole value
abbrev pub used_at : ℕ
used_at = 2

-- the bytes before the places
abbrev pub list_head : ℕ → List ℕ
list_head used = tagged list_kind (to_be 2 used)

abbrev pub encode_list : Issued → List ℕ
encode_list i = list_head i.used ++ i.buffer

abbrev pub used_in : List ℕ → ℕ
used_in bytes = from_be (octet used_at bytes ∷ octet 3 bytes ∷ [])

abbrev pub places_in : List ℕ → List ℕ
places_in bytes = drop list_head_size bytes

abbrev pub decode_list : List ℕ → Issued
decode_list bytes =
    record {
      buffer = places_in bytes;
      used = used_in bytes;
      counts = true_counts challenge_size (used_in bytes) (places_in bytes);
    }

-- bytes that begin as a list does; whether its places are whole, and not fewer than are used, is
-- the opening's to say (24)
unfoldable pub is_list : List ℕ → Bool
is_list bytes = not (ltb (length bytes) list_head_size)
    && agrees (part 0 tag_size bytes) (tagged list_kind [])
