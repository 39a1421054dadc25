-- The third part of a step: the octets of a reply (RFC 2433, sections 7 and 8).
-- Assumes nothing: these are definitions.
use Rattle.std.specs.Prelude.{Bool, cond, List, ℕ}
use Rattle.message.specs.Message.{text_of}
use Rattle.packets.specs.Reply.{success_packet, failure_packet}
use Rattle.verify.specs.declared.ChangeVersion.{ChangeVersion}
use Rattle.verify.specs.declared.ChangeVersion.TheVariants.{One, Two}
use Rattle.verify.specs.declared.Terms.{Terms}
use Rattle.authenticator.specs.declared.Reply.{Reply}
use Rattle.authenticator.specs.declared.Reply.TheVariants.{Success, Failure}

-- V of our Failures, whatever their reason: by which packet a peer may change its password
abbrev pub version : ChangeVersion → ℕ
version One = 1
version Two = 2

-- the digit after R=
abbrev pub retry_digit : Bool → ℕ
retry_digit retry = cond retry 1 0

-- the reply to the packet with an identifier
abbrev pub reply_packet : Terms → ℕ → Reply → List ℕ
reply_packet t id Success = success_packet id
reply_packet t id (Failure e retry) =
    failure_packet id (text_of e (retry_digit retry) (version t.change))
