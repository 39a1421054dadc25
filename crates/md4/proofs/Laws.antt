-- What other crates need of MD4: a digest has sixteen octets, each of them an octet, and the answer up to 4,096 octets of
-- input and above.
-- Assumes nothing.
use Rattle.std.proofs.Common.{◌≡◌, ℕ, ◌<◌, ◌≤◌, Bool, cond, List, ◌++◌, length, refl, ap, le-leb}
use borrow.Author.Tests.{lt-leb}
use Rattle.octets.specs.Numbers.{to_le}
use Rattle.octets.proofs.Numbers.{Octets, octets_append, octets-to_le}
use Rattle.blocks.specs.Blocks.{hash_blocks}
use Rattle.std.specs.Prelude.{Ok, Err}
use Rattle.refusals.specs.declared.Refusal.TheVariants.{Input}
use Rattle.md4.specs.Md4.{block, initial_registers, md4_of, digest_of, md4_answer}

pub length_md4 : (m : List ℕ) → length (md4_of m) ≡ 16
unfolding md4_of digest_of
length_md4 m = refl

pub octets_md4 : (m : List ℕ) → Octets (md4_of m)
unfolding md4_of digest_of
octets_md4 m =
    let r = hash_blocks block (to_le 8) initial_registers m in
    let cd = octets_append (to_le 4 r.c) (to_le 4 r.d) (octets-to_le 4 r.c) (octets-to_le 4 r.d) in
    let bcd = octets_append (to_le 4 r.b) (to_le 4 r.c ++ to_le 4 r.d) (octets-to_le 4 r.b) cd in
    octets_append (to_le 4 r.a) (to_le 4 r.b ++ (to_le 4 r.c ++ to_le 4 r.d)) (octets-to_le 4 r.a) bcd

pub answered : (m : List ℕ) → length m ≤ 4096 → md4_answer m ≡ Ok (md4_of m)
unfolding md4_answer
answered m h = ap (λ (b : Bool). cond b (Ok (md4_of m)) (Err Input)) (le-leb (length m) 4096 h)

pub refused : (m : List ℕ) → 4096 < length m → md4_answer m ≡ Err Input
unfolding md4_answer
refused m h = ap (λ (b : Bool). cond b (Ok (md4_of m)) (Err Input)) (lt-leb (length m) 4096 h)
