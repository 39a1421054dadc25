-- `layouts::conversations::encode_state` meets its contract.
-- Assumes nothing.
use mathlib.Core.Path.{◌≡◌, refl, ap₂, ◌∙◌}
use mathlib.Core.List.{[], ◌∷◌}
use borrow.Author.Rules.{rules}
use lib.ListN.{length}
use Rattle.octets.specs.Parts.{over}
use Rattle.layouts.specs.Records.{flag, encode_entry}
use Rattle.layouts.specs.LastAnswers.{encode_last}
use Rattle.layouts.proofs.RecordLaws.{SizedEntry, length_entry}
use Rattle.layouts.proofs.Putting.{first, next, last}
use Rattle.layouts.proofs.ConversationLaws.{state_pieces}
use Rattle.layouts.proofs.conversations.encode_state.Goals as goal

-- each field in turn, the last first
pub returns : goal.returns
returns c =
    let long : length c.args.conversation.challenge ≡ 8 =
    search rules in
    let kept-sized : SizedEntry c.args.conversation.kept =
    record { nt = search rules; lm = search rules } in
    let v = c.args.conversation in
    let room = c.empty_room.result.bytes in
    let s₁ = first 0 room (c.awaited_code.result ∷ []) 1 refl c.put_byte-room.ensures in
    let s₂ = next s₁ (flag v.terms.lm ∷ []) 1 refl c.put_flag-room.ensures in
    let s₃ = next s₂ (v.terms.limit ∷ []) 1 refl c.put_byte-room-2.ensures in
    let s₄ = next s₃ (c.version.result ∷ []) 1 refl c.put_byte-room-3.ensures in
    let s₅ = next s₄ (v.id ∷ []) 1 refl c.put_byte-room-4.ensures in
    let s₆ = next s₅ (v.retries ∷ []) 1 refl c.put_byte-room-5.ensures in
    let s₇ = next s₆ v.challenge 8 long c.put_octets-room.ensures in
    let s₈ =
    next s₇ (encode_entry v.kept) 39 (length_entry v.kept kept-sized)
    c.encode_entry-room.ensures in
    last s₈ (encode_last v.last) c.encode_last.ensures
    ∙ ap₂ over (state_pieces v c.awaited_code.ensures c.version.ensures)
    c.empty_room.ensures
