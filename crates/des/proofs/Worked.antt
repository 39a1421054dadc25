-- Worked examples, computed from the definitions.
-- Assumes nothing.
use mathlib.Core.Path.{◌≡◌, refl}
use mathlib.Core.List.{[], ◌∷◌}
use lib.ListN.{get_or}
use Rattle.des.specs.Tables.{ip, fp, expansion, permutation, boxes, pc1, pc2, shifts}
use Rattle.des.specs.Des.{cipher_f, crypt, round_keys, expand_key}
use Rattle.des.specs.Inner.{folded_table}
use Rattle.des.specs.Stored.{pack_key, unpack_key}

one_block : crypt (round_keys 0x1334_5779_9BBC_DFF1) 0x0123_4567_89AB_CDEF ≡ 0x85E8_1354_0F0A_B405
unfolding crypt round_keys cipher_f ip fp expansion permutation boxes pc1 pc2 shifts
one_block = refl

first_bit : expand_key (1 ∷ 0 ∷ 0 ∷ 0 ∷ 0 ∷ 0 ∷ 0 ∷ []) ≡ 0 ∷ 0x80 ∷ 0 ∷ 0 ∷ 0 ∷ 0 ∷ 0 ∷ 0 ∷ []
unfolding expand_key
first_bit = refl

-- entries of the folded table: of S1 for the six bits 0 and 1, of S2 for 0, and the last
entries : (get_or folded_table 0 0 ≡ 0x0080_8200) × (get_or folded_table 1 0 ≡ 0) × (get_or folded_table 64 0 ≡ 0x4008_4010)
    × (get_or folded_table 511 0 ≡ 0x0802_0800)
unfolding folded_table permutation boxes
entries = (refl, refl, refl, refl)

-- the first round key of the key above as it is stored, and with all other bits set
stored_key : (get_or (round_keys 0x1334_5779_9BBC_DFF1) 0 0 ≡ 0x1B02_EFFC_7072) × (pack_key 0x1B02_EFFC_7072 ≡ 0x060B_3F01_302F_0732)
    × (unpack_key 0xC6CB_FFC1_F0EF_C7F2 ≡ 0x1B02_EFFC_7072)
unfolding round_keys pc1 pc2 shifts pack_key unpack_key
stored_key = (refl, refl, refl)
