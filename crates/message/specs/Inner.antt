-- What the code's walk over a message has found so far, in the message's own terms. Only contracts
-- of private functions cite this.
-- Assumes nothing: these are definitions.
use Rattle.std.specs.Prelude.{Bool, true, false, List, [], ◌≡◌, ℕ, ◌+◌, ◌^◌, ◌≤◌, ◌<◌, length, drop}
use Rattle.std.specs.Prelude.{get_or}
use Rattle.std.specs.Prelude.{Option, Some, None}
use Rattle.octets.specs.Digits.{all_below}
use Rattle.message.specs.declared.Field.{Field}
use Rattle.message.specs.declared.Field.TheVariants.{Error, Retry, Version, Challenge}
use Rattle.message.specs.declared.Fields.{Fields}
use Rattle.message.specs.Message.{words, digits_of, or_else, first_field}
use Rattle.message.specs.Message.{field_e, field_r, field_v, field_c}

-- ---- fields

-- for each kind of field the digits of one, or none
pub record ParsedFields : Type 0 where
  pub e : Option (List ℕ)
  pub r : Option (List ℕ)
  pub v : Option (List ℕ)
  pub c : Option (List ℕ)

-- the first fields of a list of words
abbrev pub parsed_in : List (List ℕ) → ParsedFields
parsed_in ws =
    record {
      e = first_field field_e ws;
      r = first_field field_r ws;
      v = first_field field_v ws;
      c = first_field field_c ws;
    }

-- for each kind what the one tells of it or, where that is nothing, what the other tells
abbrev pub joined : ParsedFields → ParsedFields → ParsedFields
joined p q = record {
  e = or_else p.e q.e;
  r = or_else p.r q.r;
  v = or_else p.v q.v;
  c = or_else p.c q.c;
}

-- ---- places

-- the first word of a text
abbrev pub first_word : List ℕ → List ℕ
first_word m = get_or (words m) 0 []

-- the word that begins at a place of the message m
abbrev pub word_at : List ℕ → ℕ → List ℕ
word_at m from = first_word (drop from m)

-- the digits of the field that begins at a place
abbrev pub digits_at : List ℕ → Option ℕ → Option (List ℕ)
digits_at m (Some from) = Some (digits_of (word_at m from))
digits_at m None = None

abbrev pub parsed_at : List ℕ → Fields → ParsedFields
parsed_at m f = record {
  e = digits_at m f.e;
  r = digits_at m f.r;
  v = digits_at m f.v;
  c = digits_at m f.c;
}

-- what f tells, and then the words from a place on
abbrev pub completed : List ℕ → ℕ → Fields → ParsedFields
completed m from f = joined (parsed_at m f) (parsed_in (words (drop from m)))

-- ---- the kind of a word

-- a kind of field where there are digits of it, and else another or none
abbrev pub kind_if : Option (List ℕ) → Field → Option Field → Option Field
kind_if (Some ds) k other = Some k
kind_if None k other = other

unfoldable pub kind_of : List ℕ → Option Field
kind_of w =
    kind_if (field_e w) Error
    (kind_if (field_r w) Retry (kind_if (field_v w) Version (kind_if (field_c w) Challenge None)))

abbrev pub place : Fields → Field → Option ℕ
place f Error = f.e
place f Retry = f.r
place f Version = f.v
place f Challenge = f.c

abbrev pub is_nowhere : Option ℕ → Bool
is_nowhere (Some from) = false
is_nowhere None = true

-- whether f has no place for a kind; there is none to have for text
abbrev pub lacks : Fields → Option Field → Bool
lacks f (Some k) = is_nowhere (place f k)
lacks f None = false

-- whether a word is a field and, after f, the first of its kind
abbrev pub is_new : Fields → List ℕ → Bool
is_new f w = lacks f (kind_of w)

-- f with a place for a kind
abbrev pub with_place : Fields → Option Field → ℕ → Fields
with_place f (Some Error) p = record { e = Some p; r = f.r; v = f.v; c = f.c }
with_place f (Some Retry) p = record { e = f.e; r = Some p; v = f.v; c = f.c }
with_place f (Some Version) p = record { e = f.e; r = f.r; v = Some p; c = f.c }
with_place f (Some Challenge) p = record { e = f.e; r = f.r; v = f.v; c = Some p }
with_place f None p = f

abbrev pub one_if : Bool → ℕ
one_if true = 1
one_if false = 0

-- for how many of the four kinds f has no place
abbrev pub missing : Fields → ℕ
missing f =
    one_if (is_nowhere f.e) + one_if (is_nowhere f.r) + one_if (is_nowhere f.v)
    + one_if (is_nowhere f.c)

-- g is f with the place of the word w, and has a place for one kind more
pub record Noted (w : List ℕ) (from : ℕ) (f g : Fields) : Type 0 where
  pub placed : g ≡ with_place f (kind_of w) from
  pub fewer : missing g < missing f

-- ---- digits

-- P holds of the digits, if there are some
abbrev pub IfSome : (List ℕ → Type 0) → Option (List ℕ) → Type 0
IfSome P None = Unit {0}
IfSome P (Some ds) = P ds

-- digits whose number fits 64 bits
pub record Small (base : ℕ) (ds : List ℕ) : Type 0 where
  pub below : all_below base ds ≡ true
  pub fits : base ^ length ds ≤ 2 ^ 64

-- digits of eight octets
pub record Eight (ds : List ℕ) : Type 0 where
  pub below : all_below 16 ds ≡ true
  pub long : length ds ≡ 16
