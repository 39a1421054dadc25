-- The replies: each fits into a reply buffer and is written whole.
-- Assumes nothing.
use mathlib.Core.Path.{◌≡◌}
use mathlib.Core.List.{List}
use Prim.Native.Nat.{ℕ, ◌≤◌, ◌<◌}
use native.Mathlib.Omega.{arith}
use lib.ListN.{length}
use Rattle.message.specs.Message.{text_of}
use Rattle.message.proofs.Laws.{length_text}
use Rattle.packets.specs.Frame.{written_length}
use Rattle.packets.specs.Reply.{challenge_packet, longest_reply}
use Rattle.packets.proofs.Writing.{fits, length_challenge, length_success, length_failure}
use Rattle.verify.specs.declared.Terms.{Terms}
use Rattle.authenticator.specs.Encode.{version, retry_digit, reply_packet}
use Rattle.authenticator.specs.declared.Reply.{Reply}
use Rattle.authenticator.specs.declared.Reply.TheVariants.{Success, Failure}

-- a reply has some octets, and the longest one's number is enough
abbrev pub Fits : List ℕ → Type 0
Fits reply = (0 < length reply) × (length reply ≤ longest_reply)

pub challenge_fits : (id : ℕ) (challenge : List ℕ) → length challenge ≡ 8
    → Fits (challenge_packet id challenge)
challenge_fits id challenge e = let n = length_challenge id challenge in (omega arith, omega arith)

pub reply_fits : (t : Terms) (id : ℕ) (reply : Reply) → Fits (reply_packet t id reply)
reply_fits t id Success = let n = length_success id in (omega arith, omega arith)
reply_fits t id (Failure e retry) =
    let r = retry_digit retry in
    let v = version t.change in
    let n = length_failure id (text_of e r v) in
    let m = length_text e r v in
    (omega arith, omega arith)

-- so it is written whole
pub written_whole : (reply out : List ℕ) → Fits reply → longest_reply ≤ length out
    → written_length reply out ≡ length reply
written_whole reply out f h = let n = f.1 in (fits reply out (omega arith)).0
