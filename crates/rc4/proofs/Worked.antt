-- RFC 6229, the key 01 02 03 04 05: the first four octets of its keystream, computed.
-- Assumes nothing.
use Rattle.std.proofs.Common.{◌≡◌, [], ◌∷◌, refl}
use Rattle.rc4.specs.Rc4.{swapped, upto, mix_j, mix, mixed, started, next_i, next_j, next_state}
use Rattle.rc4.specs.Rc4.{output_octet, keystream}

rfc6229 : keystream 4 (started (1 ∷ 2 ∷ 3 ∷ 4 ∷ 5 ∷ [])) ≡ 0xB2 ∷ 0x39 ∷ 0x63 ∷ 0x05 ∷ []
unfolding swapped upto mix_j mix mixed started next_i next_j next_state output_octet keystream
rfc6229 = refl
