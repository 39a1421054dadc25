-- Fixed octets against slips that both ends could make alike, so that no round trip would show
-- them. The passwords are MyPw, of RFC 2433 B.2, and MyNewPw.
-- Assumes nothing.
use mathlib.Core.Path.{◌≡◌, refl}
use mathlib.Core.List.{List, [], ◌∷◌}
use Prim.Native.Nat.{ℕ, zero, suc, ◌+◌, ◌*◌, ◌%◌}
use Rattle.octets.specs.Parts.{part}
use Rattle.rc4.specs.Rc4.{swapped, upto, mix_j, mix, mixed, started, next_i, next_j, next_state}
use Rattle.rc4.specs.Rc4.{output_octet, keystream, xors, ciphered, crypted}
use Rattle.des.specs.Tables.{ip, fp, expansion, permutation, s1, s2, s3, s4, s5, s6, s7, s8, boxes}
use Rattle.des.specs.Tables.{pc1, pc2, shifts}
use Rattle.des.specs.Des.{cipher_f, crypt, round_keys, expand_key, schedule_of, des_encrypt}
use Rattle.credentials.specs.Credentials.{old_under_new, hash_under_challenge, plain_block}
use Rattle.credentials.specs.Credentials.{sealed_block}

-- the NT hashes of the two
abbrev old : List ℕ
old = 0xfc ∷ 0x15 ∷ 0x6a ∷ 0xf7 ∷ 0xed ∷ 0xcd ∷ 0x6c ∷ 0x0e ∷ 0xdd ∷ 0xe3 ∷ 0x33 ∷ 0x7d ∷ 0x42 ∷ 0x7f ∷ 0x4e ∷ 0xac ∷ []

abbrev new : List ℕ
new = 0x65 ∷ 0xde ∷ 0x9a ∷ 0xde ∷ 0x0b ∷ 0xbd ∷ 0xa2 ∷ 0xaf ∷ 0x5b ∷ 0xe3 ∷ 0x57 ∷ 0x86 ∷ 0xa8 ∷ 0xaf ∷ 0x09 ∷ 0xc0 ∷ []

-- slip 1: the second key is the new hash's octets 7 to 13, not 0 to 6 again
under : old_under_new old new ≡ 0x71 ∷ 0xbd ∷ 0x6c ∷ 0xba ∷ 0x24 ∷ 0x58 ∷ 0x6c ∷ 0x0a ∷ 0x13 ∷ 0x54 ∷ 0xf1 ∷ 0xb6 ∷ 0x11 ∷ 0xcb ∷ 0x4c ∷ 0xaf ∷ []
unfolding old_under_new des_encrypt schedule_of expand_key round_keys crypt cipher_f ip fp expansion permutation boxes s1 s2 s3 s4 s5 s6 s7 s8 pc1 pc2 shifts
under = refl

-- RFC 2433 B.2's challenge
abbrev challenge : List ℕ
challenge = 0x10 ∷ 0x2d ∷ 0xb5 ∷ 0xdf ∷ 0x08 ∷ 0x5d ∷ 0x30 ∷ 0x41 ∷ []

-- both halves are under its first seven octets, and not the second under the next ones as in A.17
-- (document 02, request 2026-07)
under_challenge : hash_under_challenge old challenge ≡ 0x9e ∷ 0x05 ∷ 0x21 ∷ 0xf3 ∷ 0xf7 ∷ 0xea ∷ 0xee ∷ 0x39 ∷ 0x55 ∷ 0xf6 ∷ 0x1e ∷ 0x38 ∷ 0xbe ∷ 0x9a ∷ 0x8e ∷ 0xf3 ∷ []
unfolding hash_under_challenge des_encrypt schedule_of expand_key round_keys crypt cipher_f ip fp expansion permutation boxes s1 s2 s3 s4 s5 s6 s7 s8 pc1 pc2 shifts
under_challenge = refl

-- n octets of a filler from the place i on
abbrev filler : ℕ → ℕ → List ℕ
filler zero i = []
filler (suc n) i = (7 * i + 3) % 256 ∷ filler n (suc i)

-- slip 3: the length, 0E 00 00 00, goes on with the password's keystream and does not start it anew
sealed : part 512 4 (sealed_block old (filler 512 0) (0x4d ∷ 0 ∷ 0x79 ∷ 0 ∷ 0x4e ∷ 0 ∷ 0x65 ∷ 0 ∷ 0x77 ∷ 0 ∷ 0x50 ∷ 0 ∷ 0x77 ∷ 0 ∷ []))
    ≡ 0xae ∷ 0x36 ∷ 0xab ∷ 0x02 ∷ []
unfolding sealed_block plain_block crypted ciphered xors keystream output_octet next_state next_i next_j swapped upto mix_j mix mixed started
sealed = refl
