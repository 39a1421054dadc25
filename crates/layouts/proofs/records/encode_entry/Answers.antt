-- `layouts::records::encode_entry` meets its contract.
-- Assumes nothing.
use mathlib.Core.Path.{refl, ap, ◌∙◌}
use mathlib.Core.List.{List, [], ◌∷◌}
use Prim.Native.Nat.{ℕ, suc}
use borrow.Author.Rules.{rules}
use Rattle.octets.specs.Parts.{over_at}
use Rattle.layouts.specs.Records.{flag, encode_hash}
use Rattle.layouts.proofs.Putting.{first, next, last}
use Rattle.layouts.proofs.RecordLaws.{SizedEntry, entry_pieces}
use Rattle.layouts.proofs.records.encode_entry.Goals as goal

-- each field in turn, the last first
pub returns : goal.returns
returns c =
    let sized : SizedEntry c.args.entry =
    record { nt = search rules; lm = search rules } in
    let a = c.args in
    let account = a.entry in
    let room = a.room.bytes in
    let s₁ =
    first a.at room (encode_hash account.nt) 17 (ap suc sized.nt)
    c.encode_hash-room.ensures in
    let s₂ =
    next s₁ (encode_hash account.lm) 17 (ap suc sized.lm) c.encode_hash-room-2.ensures in
    let s₃ = next s₂ (flag account.disabled ∷ []) 1 refl c.put_flag-room.ensures in
    let s₄ = next s₃ (flag account.hours_denied ∷ []) 1 refl c.put_flag-room-2.ensures in
    let s₅ = next s₄ (flag account.dialin_denied ∷ []) 1 refl c.put_flag-room-3.ensures in
    let s₆ = next s₅ (flag account.expired ∷ []) 1 refl c.put_flag-room-4.ensures in
    last s₆ (account.failures ∷ []) c.put_byte.ensures
    ∙ ap (λ (l : List ℕ). over_at a.at l room) (entry_pieces account)
