-- `layouts::last_answers::encode_last` meets its contract.
-- Assumes nothing.
use mathlib.Core.Path.{refl, ap, ap₂, ◌∙◌}
use mathlib.Core.List.{List, [], ◌∷◌}
use Prim.Native.Nat.{ℕ}
use Rattle.octets.specs.Parts.{over_at}
use Rattle.octets.specs.Numbers.{to_be}
use Rattle.layouts.specs.Records.{flag}
use Rattle.layouts.specs.LastAnswers.{encode_last}
use Rattle.layouts.proofs.Putting.{first, next, last}
use Rattle.layouts.proofs.last_answers.encode_last.Goals as goal

-- each field in turn, the last first
pub returns : goal.returns
unfolding encode_last
returns c =
    let two = c in
    let reason = two in
    let reply = reason in
    let number = reply in
    let id = number in
    let code = id in
    let present = code in
    let a = present.args in
    let v = a.last in
    let room = a.room.bytes in
    let digits = two.u16_to_be.ensures ∙ ap (to_be 2) reason.reason_of.ensures in
    let s₁ = first a.at room (flag v.present ∷ []) 1 refl present.put_flag-room.ensures in
    let s₂ = next s₁ (v.code ∷ []) 1 refl code.put_byte-room.ensures in
    let s₃ = next s₂ (v.id ∷ []) 1 refl id.put_byte-room-2.ensures in
    let s₄ = next s₃ (number.reply_number.result ∷ []) 1 refl reply.put_byte-room-3.ensures in
    last s₄ two.u16_to_be.result c.put_octets.ensures
    ∙ ap₂
    (λ (n : ℕ) (l : List ℕ).
    over_at a.at (flag v.present ∷ v.code ∷ v.id ∷ n ∷ l) room)
    number.reply_number.ensures digits
