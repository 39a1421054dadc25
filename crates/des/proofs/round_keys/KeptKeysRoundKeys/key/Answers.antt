-- `RoundKeys::key` of `des::round_keys::KeptKeys` meets its contract.
-- Assumes nothing.
use mathlib.Core.Path.{◌≡◌, sym, ap, ◌∙◌}
use mathlib.Core.List.{List}
use Prim.Native.Nat.{ℕ, ◌-◌, ◌*◌}
use native.Mathlib.Omega.{arith}
use lib.ListN.{length, drop, get_or-map}
use lib.Seq.{take-take}
use Rattle.std.specs.Int.{w64, from_le_bytes}
use Rattle.octets.specs.Numbers.{from_le}
use Rattle.octets.proofs.Listed.{written}
use Rattle.octets.proofs.Parts.{length_part}
use Rattle.octets.specs.Parts.{part}
use Rattle.des.specs.Stored.{unpack_key, decode_keys}
use Rattle.des.proofs.StoredOctets.{decoded_at}
use Rattle.des.proofs.round_keys.KeptKeysRoundKeys.key.Goals as goal

least_first : (b : List ℕ) → length b ≡ 8 → from_le_bytes w64 b ≡ from_le b
least_first b n = sym (ap from_le (written 8 b n) ∙ omega arith)

pub returns : goal.returns
unfolding unpack_key
returns c =
    let b = c.args.self.now.octets.now in
    let i = c.args.i in
    let whole : length b ≡ 128 = c.args.self.now.whole in
    let below = c.requires in
    let h = rw c.unwrap-octets.ensures at c.first_chunk.ensures.cases in
    let first : c.unwrap-octets.result.now ≡ part (8 * i) 8 b =
    h.same ∙ take-take 8 (length b - 8 * i) (drop (8 * i) b) (omega arith) in
    let eight : length c.unwrap-octets.result.now ≡ 8 = ap length first ∙ length_part (8 * i) 8 b (omega arith) in
    ap unpack_key (c.from_le_bytes.ensures ∙ least_first c.unwrap-octets.result.now eight ∙ ap from_le first
    ∙ sym (decoded_at 16 i b below))
    ∙ sym (get_or-map unpack_key (decode_keys 16 b) i 0)
