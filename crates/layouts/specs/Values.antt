-- A value crosses to C as bytes: its kind, the version of that kind's layout, and its body. So a
-- value of another kind, or stored in another layout, is not taken for this one.
-- Assumes nothing: these are definitions.
use Rattle.std.specs.Prelude.{Bool, cond, List, ◌∷◌, ℕ, eqb}
use Rattle.octets.specs.Parts.{part, agrees}

-- ---- the kinds: letters in ASCII

-- R
abbrev pub record_kind : ℕ
record_kind = 82

-- A
abbrev pub answer_kind : ℕ
answer_kind = 65

-- C
abbrev pub conversation_kind : ℕ
conversation_kind = 67

-- P
abbrev pub peer_kind : ℕ
peer_kind = 80

-- W
abbrev pub password_kind : ℕ
password_kind = 87

-- L
abbrev pub list_kind : ℕ
list_kind = 76

-- ---- the version of each kind's layout

-- Each kind has its own, so that what was stored of one stays valid when another one grows. Since
-- 0.3.0 a conversation has its last answer, and an answer tells a repeat; since 0.4.0 an answer
-- tells what is wrong with a change; since 0.7.0 a record counts failures, in an answer and in a
-- conversation too, and a conversation has its limit; since 0.8.0 a record has the round keys of
-- its hashes, in an answer too; since 0.9.0 a conversation has the version of its change.
abbrev pub layout_version : ℕ → ℕ
layout_version kind =
    cond (eqb kind record_kind) 3
    (cond (eqb kind conversation_kind) 4 (cond (eqb kind answer_kind) 5 1))

-- ---- a value's bytes

-- kind and version
abbrev pub tag_size : ℕ
tag_size = 2

abbrev pub tagged : ℕ → List ℕ → List ℕ
tagged kind body = kind ∷ layout_version kind ∷ body

-- the body of n bytes behind them
abbrev pub body_in : ℕ → List ℕ → List ℕ
body_in n bytes = part tag_size n bytes

-- Bytes are an encoding where they are what the value decoded from them encodes to. So neither
-- their number nor any one of them is one that no value has.
abbrev pub is_encoding : {A : Type 0} → (A → List ℕ) → (List ℕ → A) → List ℕ → Bool
is_encoding encode decode bytes = agrees (encode (decode bytes)) bytes
