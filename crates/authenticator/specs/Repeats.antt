-- A packet that repeats another, and what it draws of our box once that one was answered: the law
-- of request 2026-01 for one step.
-- Assumes nothing: these are definitions.
use Rattle.std.specs.Prelude.{false, List, ◌≡◌, ℕ, ◌≤◌, length}
use Rattle.packets.specs.Frame.{octet, bad_frame}
use Rattle.packets.specs.Reply.{longest_reply}
use Rattle.authenticator.specs.Steps.{StepInput, step_on, reply_of, next_after}
use Rattle.authenticator.specs.declared.Conversation.{Conversation}

-- t has the code and the identifier of s, room and a good frame; whatever else is in it, and
-- whatever record is passed with it
pub record Again (s t : StepInput) : Type 0 where
  pub code : octet 0 t.packet ≡ octet 0 s.packet
  pub id : octet 1 t.packet ≡ octet 1 s.packet
  pub room : longest_reply ≤ length t.buffer
  pub frame : bad_frame t.packet ≡ false

-- it draws that reply, leaves the conversation and hands out no record
abbrev pub Drawn : List ℕ → Conversation → StepInput → Type 0
Drawn reply c t = (reply_of (step_on c t) ≡ reply) × (next_after step_on c t ≡ c)
    × ((step_on c t).answer.updated.found ≡ false)
