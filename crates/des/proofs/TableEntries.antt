-- The tables of the code, each computed whole from the rule that makes it.
-- Assumes nothing.
use mathlib.Core.Path.{◌≡◌, refl, sym, ap, ◌∙◌}
use mathlib.Core.List.{List}
use Prim.Native.Nat.{ℕ, ◌+◌, ◌-◌, ◌*◌, ◌<◌}
use native.Mathlib.Nat.{zero-add}
use native.Mathlib.Omega.{arith}
use lib.ListN.{get_or}
use Rattle.des.specs.Tables.{permutation, boxes, pc2, shifts}
use Rattle.des.specs.Inner.{table_entries, folded_at, folded_table, chosen_at, rotated_by}
use Rattle.des.specs.Stored.{pack_key}
use Rattle.des.proofs.Entries.{entry_at}
use Rattle.des.proofs.Folded.{entry_of}
use Rattle.des.specs.declared.tables.TheConstants.{FOLDED, CHOSEN, ROTATIONS}

pub is_folded : FOLDED ≡ folded_table
unfolding folded_table boxes permutation
is_folded = refl

pub folded_entry : (i b : ℕ) → i < 8 → b < 64 → get_or FOLDED (i * 64 + b) 0 ≡ folded_at i b
folded_entry i b hi hb = ap (λ (l : List ℕ). get_or l (i * 64 + b) 0) is_folded ∙ entry_of i b hi hb

-- PC-2 of the seven i of C and of D
abbrev pub of_seven : ℕ → ℕ → ℕ
of_seven i b = pack_key (chosen_at (21 - 7 * i) b)

pub is_chosen : CHOSEN ≡ table_entries of_seven 128 512 0
unfolding chosen_at pc2 pack_key
is_chosen = refl

pub chosen_entry : (i b : ℕ) → i < 4 → b < 128 → get_or CHOSEN (i * 128 + b) 0 ≡ of_seven i b
chosen_entry i b hi hb = ap (λ (l : List ℕ). get_or l (i * 128 + b) 0) is_chosen ∙ entry_at of_seven 128 512 i b hb (omega arith)

pub is_rotations : ROTATIONS ≡ table_entries (λ _ i. rotated_by i) 16 16 0
unfolding rotated_by shifts
is_rotations = refl

pub rotation_entry : (i : ℕ) → i < 16 → get_or ROTATIONS i 0 ≡ rotated_by i
rotation_entry i h =
    ap (λ (k : ℕ). get_or ROTATIONS k 0) (sym (zero-add i))
    ∙ ap (λ (l : List ℕ). get_or l (0 * 16 + i) 0) is_rotations
    ∙ entry_at (λ _ i. rotated_by i) 16 16 0 i h (omega arith)
