-- Document 01's table of twelve: inputs, outputs, what each input gives by the definitions, and the
-- rows.
-- Assumes nothing: these are definitions.
use Rattle.std.specs.Prelude.{Option, None, Result, Ok, Err}
use Rattle.std.specs.Prelude.{List, [], ◌∷◌, ◌++◌, ℕ, take, replicate}
use Rattle.des.specs.Des.{expand_key}
use Rattle.credentials.specs.Credentials.{length_in, content_for}
use Rattle.credentials.specs.declared.Content.{Content}
use Rattle.credentials.specs.declared.Content.TheVariants.{Over, Odd}
use Rattle.message.specs.Message.{read_message}
use Rattle.message.specs.declared.Failed.{Failed}
use Rattle.refusals.specs.Refusal as refusals
use Rattle.refusals.specs.declared.Refusal.{Refusal}
use Rattle.issued.specs.Issued.{empty_list}
use Rattle.challenges.specs.Challenges.{next_id, incremented}
use Rattle.accounts.specs.Account.{not_found}
use Rattle.authenticator.specs.Opening.{Opening, first_conversation, opened, opened_buffer}
use Rattle.authenticator.specs.Step.{Outcome, step}
use Rattle.authenticator.specs.Steps.{reply_of}
use Rattle.authenticator.specs.Step as kinds

-- An identifier or a challenge whose next is asked for; a raw key; an opening with an identifier
-- and a challenge; a Response to a conversation that awaits an identifier, with no record; an
-- opened block; a Failure message.
pub data Input : Type 0 where
  identifier : ℕ → Input
  challenge : List ℕ → Input
  key : List ℕ → Input
  opening : ℕ → List ℕ → Input
  response : ℕ → List ℕ → Input
  block : List ℕ → Input
  message : List ℕ → Input

-- A number; octets; a refusal's number; what an opened block holds; E, R, C or none, and V.
pub data Output : Type 0 where
  number : ℕ → Output
  octets : List ℕ → Output
  refusal : ℕ → Output
  content : Content → Output
  fields : ℕ → ℕ → Option (List ℕ) → ℕ → Output

-- on an empty list with a place for each of its three challenges
abbrev opening_of : ℕ → List ℕ → Opening
opening_of id c =
    record {
      id = id;
      challenge = c;
      retries = None;
      lm = None;
      change = None;
      limit = 255;
      issued = empty_list 8 3;
      buffer = replicate 17 0;
    }

-- the refusal's number, or the reply
abbrev drawn_as : kinds.Kind → Outcome → Output
drawn_as (kinds.Refused n) o = refusal n
drawn_as (kinds.Repeated e) o = octets (reply_of o)
drawn_as (kinds.Judged e) o = octets (reply_of o)

abbrev answered : Outcome → Output
answered o = drawn_as o.answer.kind o

abbrev read_as : Result Failed Refusal → Output
read_as (Ok f) = fields f.e f.r f.c f.v
read_as (Err r) = refusal (refusals.number r)

unfoldable pub output_of : Input → Output
output_of (identifier i) = number (next_id i)
output_of (challenge c) = octets (incremented c)
output_of (key k) = octets (expand_key k)
output_of (opening id c) = octets
    (take (opened (opening_of id c)).written (opened_buffer (opening_of id c)))
output_of (response id p) = answered
    (step (first_conversation (opening_of id (replicate 8 0))) p not_found (replicate 17 0))
output_of (block b) = content (content_for (length_in b))
output_of (message m) = read_as (read_message m)

pub record Row : Type 0 where
  pub input : Input
  pub output : Output

-- a Response: its identifier, the two octets of its Length, size 49, and n octets 0
abbrev zero_response : ℕ → ℕ → ℕ → ℕ → List ℕ
zero_response id high low n = 2 ∷ id ∷ high ∷ low ∷ 49 ∷ replicate n 0

abbrev pub rows : List Row
rows =
    -- (a)
    record { input = identifier 255; output = number 0 }
    -- (b), (c)
    ∷ record {
      input = challenge (0xE8 ∷ 2 ∷ 3 ∷ 4 ∷ 5 ∷ 6 ∷ 7 ∷ 8 ∷ []);
      output = octets (0xFF ∷ 2 ∷ 3 ∷ 4 ∷ 5 ∷ 6 ∷ 7 ∷ 8 ∷ []);
    }
    ∷ record {
      input = challenge (0xE9 ∷ 2 ∷ 3 ∷ 4 ∷ 5 ∷ 6 ∷ 7 ∷ 8 ∷ []);
      output = octets (0 ∷ 2 ∷ 3 ∷ 4 ∷ 5 ∷ 6 ∷ 7 ∷ 8 ∷ []);
    }
    -- (d), (e)
    ∷ record { input = key (replicate 7 0xFF); output = octets (replicate 8 0xFE) }
    ∷ record { input = key (1 ∷ replicate 6 0); output = octets (0 ∷ 0x80 ∷ replicate 6 0) }
    -- (f)
    ∷ record {
      input = opening 7 (1 ∷ 2 ∷ 3 ∷ 4 ∷ 5 ∷ 6 ∷ 7 ∷ 8 ∷ []);
      output = octets
          (0x01 ∷ 0x07 ∷ 0x00 ∷ 0x0D ∷ 0x08
          ∷ 0x01 ∷ 0x02 ∷ 0x03 ∷ 0x04 ∷ 0x05 ∷ 0x06 ∷ 0x07 ∷ 0x08 ∷ []);
    }
    -- (g)
    ∷ record {
      input = response 9 (zero_response 9 0 55 50);
      output = octets
          (0x04 ∷ 0x09 ∷ 0x00 ∷ 0x11 ∷ 0x45 ∷ 0x3D ∷ 0x36 ∷ 0x39 ∷ 0x31 ∷ 0x20
          ∷ 0x52 ∷ 0x3D ∷ 0x31 ∷ 0x20 ∷ 0x56 ∷ 0x3D ∷ 0x32 ∷ []);
    }
    -- (h), (i): as many octets as Length says
    ∷ record { input = response 7 (zero_response 7 0 54 49); output = refusal 6 }
    ∷ record { input = response 7 (zero_response 7 1 55 306); output = refusal 6 }
    -- (j), twice: 514 is over 512, and 7 is odd
    ∷ record { input = block (replicate 512 0 ++ (2 ∷ 2 ∷ 0 ∷ 0 ∷ [])); output = content Over }
    ∷ record { input = block (replicate 512 0 ++ (7 ∷ 0 ∷ 0 ∷ 0 ∷ [])); output = content Odd }
    -- (k) E=648 R=0 V=3 extra
    ∷ record {
      input = message
          (69 ∷ 61 ∷ 54 ∷ 52 ∷ 56 ∷ 32 ∷ 82 ∷ 61 ∷ 48 ∷ 32 ∷ 86 ∷ 61 ∷ 51 ∷ 32
          ∷ 101 ∷ 120 ∷ 116 ∷ 114 ∷ 97 ∷ []);
      output = fields 648 0 None 3;
    }
    -- (l) R=1 V=2
    ∷ record { input = message (82 ∷ 61 ∷ 49 ∷ 32 ∷ 86 ∷ 61 ∷ 50 ∷ []); output = refusal 11 }
    ∷ []
