-- `layouts::peers::encode_turns` meets its contract.
-- Assumes nothing.
use mathlib.Core.Path.{refl, ap₂, ◌∙◌}
use mathlib.Core.List.{[], ◌∷◌}
use borrow.Author.Rules.{rules}
use Rattle.layouts.specs.Records.{flag}
use Rattle.octets.specs.Parts.{over}
use Rattle.layouts.proofs.Putting.{first, next, last}
use Rattle.layouts.proofs.PeerLaws.{SizedPeer, turns_pieces}
use Rattle.layouts.proofs.peers.encode_turns.Goals as goal

-- each field in turn, the last first
pub returns : goal.returns
returns c =
    let sized : SizedPeer c.args.peer =
    record { sent = search rules; turn = search rules } in
    let q = c.args.peer in
    let room = c.empty_room.result.bytes in
    let s₁ = first 0 room (flag q.sent.present ∷ []) 1 refl c.put_flag-room.ensures in
    let s₂ = next s₁ (q.sent.id ∷ []) 1 refl c.put_byte-room.ensures in
    let s₃ = next s₂ q.sent.challenge 8 sized.sent c.put_octets-room.ensures in
    let s₄ = next s₃ (q.turn.id ∷ []) 1 refl c.put_byte-room-2.ensures in
    last s₄ q.turn.challenge c.put_octets.ensures
    ∙ ap₂ over (turns_pieces q) c.empty_room.ensures
