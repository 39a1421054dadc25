-- Bytes that are being encoded. Only the code's inner functions cite these; no public promise does.
-- Assumes nothing: these are definitions.
use Rattle.std.specs.Prelude.{List, ℕ}
use Rattle.octets.specs.Parts.{fixed}

-- the bytes of room for any one body: the largest is a conversation's
abbrev pub room_size : ℕ
room_size = 59

-- room that holds a body, and bytes 0 behind it
abbrev pub in_room : List ℕ → List ℕ
in_room body = fixed room_size body
