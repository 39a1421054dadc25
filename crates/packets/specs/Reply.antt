-- What the authenticator sends: Challenge, Success and Failure (RFC 1994, sections 4.1 and 4.2;
-- RFC 2433, sections 5, 7 and 8).
-- Assumes nothing: these are definitions.
use Rattle.std.specs.Prelude.{Result, Ok, Err, Bool, cond, not, ◌||◌, List, [], ◌∷◌, ℕ, ◌+◌, eqb}
use Rattle.std.specs.Prelude.{ltb, length, replicate}
use Rattle.octets.specs.Parts.{part, fixed}
use Rattle.refusals.specs.Refusal.{number}
use Rattle.refusals.specs.declared.Refusal.{Refusal}
use Rattle.refusals.specs.declared.Refusal.TheVariants.{Frame, Identifier, Kind}
use Rattle.message.specs.Message.{read_message, message_refusal, message_values}
use Rattle.message.specs.declared.Failed.{Failed}
use Rattle.message.specs.declared.Verdict.{Verdict}
use Rattle.message.specs.declared.Verdict.TheVariants.{Success, Failure}
use Rattle.packets.specs.Codes.{challenge_code, success_code, failure_code}
use Rattle.packets.specs.Frame.{octet, length_of, framed, bad_frame, bad_id, data_of}
use Rattle.packets.specs.Sizes.{head_size, challenge_size, challenge_offset, challenge_length}
use Rattle.packets.specs.Sizes.{message_size}
use Rattle.packets.specs.declared.Challenge.{Challenge}

-- a Challenge with no name, a Success with no message, a Failure with its message
unfoldable pub challenge_packet : ℕ → List ℕ → List ℕ
challenge_packet id challenge = framed challenge_code id (length challenge ∷ challenge)

unfoldable pub success_packet : ℕ → List ℕ
success_packet id = framed success_code id []

unfoldable pub failure_packet : ℕ → List ℕ → List ℕ
failure_packet id message = framed failure_code id message

-- the longest of them is a Failure with its message
abbrev pub longest_reply : ℕ
longest_reply = head_size + message_size

-- refusal 2: a reply buffer that cannot hold it
abbrev pub bad_reply_buffer : List ℕ → Bool
bad_reply_buffer reply = ltb (length reply) longest_reply

-- ---- the peer's reading

-- what is read in a Challenge: the number of the refusal (0 is none), and the fields
pub record ChallengeFields : Type 0 where
  pub refusal : ℕ
  pub id : ℕ
  pub challenge : List ℕ

-- no Challenge: the refusal, with fixed values
abbrev pub refused_challenge : ℕ → ChallengeFields
refused_challenge n = record { refusal = n; id = 0; challenge = replicate challenge_size 0 }

abbrev pub challenge_as : Result Challenge Refusal → ChallengeFields
challenge_as (Ok c) = record { refusal = 0; id = c.id; challenge = c.challenge }
challenge_as (Err r) = refused_challenge (number r)

-- refusal 11: of another kind, cut short, or of a size other than 8. A name may follow and is
-- ignored.
abbrev pub bad_challenge : List ℕ → Bool
bad_challenge p = not (eqb (octet 0 p) challenge_code)
    || (ltb (length_of p) challenge_length || not (eqb (octet head_size p) challenge_size))

-- 3, then 11
unfoldable pub read_challenge : List ℕ → ChallengeFields
read_challenge p =
    cond (bad_frame p) (refused_challenge 3)
    (cond (bad_challenge p) (refused_challenge 11)
    (record {
      refusal = 0;
      id = octet 1 p;
      challenge = fixed challenge_size (part challenge_offset challenge_size p);
    }))

-- what a packet says, by its code
abbrev pub failure_in : Result Failed Refusal → Result Verdict Refusal
failure_in (Ok f) = Ok (Failure f)
failure_in (Err r) = Err r

abbrev pub body_read : List ℕ → Result Verdict Refusal
body_read p = cond (eqb (octet 0 p) success_code) (Ok Success)
    (cond (eqb (octet 0 p) failure_code) (failure_in (read_message (data_of p))) (Err Kind))

-- a reply to the last packet, which had the identifier last: 3, then 5, then 11 for another kind or
-- by the message
unfoldable pub read_reply : ℕ → List ℕ → Result Verdict Refusal
read_reply last p =
    cond (bad_frame p) (Err Frame)
    (cond (bad_id last p) (Err Identifier) (body_read p))

-- the number with which a reply is refused; 0 is none
unfoldable pub reply_refusal : ℕ → List ℕ → ℕ
reply_refusal last p =
    cond (bad_frame p) 3
    (cond (bad_id last p) 5
    (cond (eqb (octet 0 p) success_code) 0
    (cond (eqb (octet 0 p) failure_code) (message_refusal (data_of p))
    11)))

-- E, R and V of a Failure that is not refused
unfoldable pub reply_values : ℕ → List ℕ → List ℕ
reply_values last p = cond (bad_frame p || (bad_id last p || not (eqb (octet 0 p) failure_code))) []
    (message_values (data_of p))
