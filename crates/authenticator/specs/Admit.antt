-- The first part of a step: whether a packet repeats the last answered one; the refusals, one test
-- each; and their order (document 01, "Refusal numbers", and document 02, request 2026-01). A
-- packet that is neither refused nor a repeat is one that the conversation awaits.
-- Assumes nothing: these are definitions.
use Rattle.std.specs.Prelude.{Bool, cond, not, ◌&&◌, List, ℕ, eqb}
use Rattle.packets.specs.Frame.{octet, bad_frame, bad_id}
use Rattle.packets.specs.Response.{response_refusal}
use Rattle.packets.specs.Change.{change_refusal}
use Rattle.packets.specs.ChangeOne.{change_one_refusal}
use Rattle.packets.specs.Reply.{bad_reply_buffer}
use Rattle.verify.specs.declared.ChangeVersion.{ChangeVersion}
use Rattle.verify.specs.declared.ChangeVersion.TheVariants.{One, Two}
use Rattle.authenticator.specs.Conversation.{awaited_code, is_ended}
use Rattle.authenticator.specs.declared.Conversation.{Conversation}
use Rattle.authenticator.specs.declared.LastAnswer.{LastAnswer}
use Rattle.authenticator.specs.declared.Phase.{Phase}
use Rattle.authenticator.specs.declared.Phase.TheVariants.{Response, Change, Ended}

-- ---- a repeat

abbrev pub carries : ℕ → ℕ → List ℕ → Bool
carries code id p = eqb (octet 0 p) code && eqb (octet 1 p) id

-- "A packet with the identifier and code last answered, whatever its other contents"
abbrev pub is_repeat : LastAnswer → List ℕ → Bool
is_repeat last p = last.present && carries last.code last.id p

-- ---- the refusals

-- refusal 4: another code than the awaited one, that of the other change among them
abbrev pub bad_code : ChangeVersion → Phase → List ℕ → Bool
bad_code v phase p = not (eqb (octet 0 p) (awaited_code v phase))

-- 6, then 7, by the packet that is awaited
abbrev pub change_refusal_of : ChangeVersion → List ℕ → ℕ
change_refusal_of One p = change_one_refusal p
change_refusal_of Two p = change_refusal p

abbrev pub body_refusal : ChangeVersion → Phase → List ℕ → ℕ
body_refusal v Response p = response_refusal p
body_refusal v Change p = change_refusal_of v p
body_refusal v Ended p = 0

-- 1, then 4 to 7; 0: the packet is judged
abbrev pub awaited_refusal : Conversation → List ℕ → ℕ
awaited_refusal c p =
    cond (is_ended c.phase) 1
    (cond (bad_code c.terms.change c.phase p) 4
    (cond (bad_id c.id p) 5
    (body_refusal c.terms.change c.phase p)))

-- "2 and 3 first, then the repeat, then 1, then 4 to 7"; 0: a repeat, or the packet is judged
unfoldable pub refusal_for : Bool → Conversation → List ℕ → List ℕ → ℕ
refusal_for repeated c p buffer =
    cond (bad_reply_buffer buffer) 2
    (cond (bad_frame p) 3
    (cond repeated 0
    (awaited_refusal c p)))

abbrev pub step_refusal : Conversation → List ℕ → List ℕ → ℕ
step_refusal c p buffer = refusal_for (is_repeat c.last p) c p buffer
