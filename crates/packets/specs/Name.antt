-- The two parts of a Response's name, for the lookup (document 01, "Frame and packets"): split at
-- its first backslash, which is in neither.
-- Assumes nothing: these are definitions.
use Rattle.std.specs.Prelude.{Option, Some, None, Bool, cond, not, ◌||◌, List, [], ℕ, ◌+◌, ◌-◌, eqb}
use Rattle.std.specs.Prelude.{length}
use Rattle.octets.specs.Split.{holds, before, behind}
use Rattle.packets.specs.Codes.{response_code}
use Rattle.packets.specs.Frame.{octet, length_of, bad_frame}
use Rattle.packets.specs.Sizes.{name_offset}
use Rattle.packets.specs.Response.{read_name, bad_response_size, bad_response_flag}
use Rattle.packets.specs.declared.Part.{Part}

-- a backslash is octet 92
abbrev pub is_split : List ℕ → Bool
is_split n = holds 92 n

-- what stands before the first backslash, and what stands behind it
abbrev pub before_split : List ℕ → List ℕ
before_split n = before 92 n

abbrev pub after_split : List ℕ → List ℕ
after_split n = behind 92 n

-- the packet by itself fails the check of 3, 4 (code 2 awaited), 6 or 7
abbrev pub is_bad_response : List ℕ → Bool
is_bad_response p = bad_frame p || (not (eqb (octet 0 p) response_code)
    || (bad_response_size p || bad_response_flag p))

-- the domain: the part of the name before the backslash (empty before a leading one) or, where
-- there is none, the whole home domain
unfoldable pub domain_of : List ℕ → List ℕ → List ℕ
domain_of p home = cond (is_bad_response p) []
    (cond (is_split (read_name p)) (before_split (read_name p)) home)

-- the account: the rest of the name
unfoldable pub account_of : List ℕ → List ℕ
account_of p = cond (is_bad_response p) []
    (cond (is_split (read_name p)) (after_split (read_name p)) (read_name p))

-- ---- where the two parts stand in the packet, if they do

-- as C is told it: no name begins at 0, so offset 0 says that the part is not there
abbrev pub standing : Option Part → Part
standing None = record { offset = 0; length = 0 }
standing (Some a) = a

-- from the place a up to Length
abbrev pub part_from : ℕ → List ℕ → Part
part_from a p = record { offset = a; length = length_of p - a }

-- not there where the name has no backslash: the home domain counts
unfoldable pub domain_part : List ℕ → Option Part
domain_part p = cond (is_bad_response p) None
    (cond (is_split (read_name p))
    (Some (record { offset = name_offset; length = length (before_split (read_name p)) })) None)

unfoldable pub account_part : List ℕ → Option Part
account_part p = cond (is_bad_response p) None
    (cond (is_split (read_name p))
    (Some (part_from (name_offset + 1 + length (before_split (read_name p))) p))
    (Some (part_from name_offset p)))
