-- `md4::digest` meets its contract.
-- Assumes nothing.
use Rattle.std.proofs.Common.{◌≡◌, ℕ, ◌*◌, List, length, ap, ◌∙◌}
use Rattle.octets.specs.Numbers.{to_le}
use Rattle.octets.proofs.Numbers.{length-to_le}
use Rattle.blocks.specs.Blocks.{tail_of}
use Rattle.blocks.proofs.Run.{hash_by_tail, tail_fits}
use Rattle.md4.specs.Md4.{block, initial_registers, digest_of, md4_of}
use Rattle.md4.proofs.digest.Goals as goal

pub shared_ref_as_front-whole_blocks : goal.shared_ref_as_front-whole_blocks
shared_ref_as_front-whole_blocks c =
    rw c.tail_of-tail.ensures (tail_fits _ _ (ap length c.u64_to_le.ensures))

pub returns : goal.returns
unfolding md4_of initial_registers
returns c =
    let k = c in
    let m : List ℕ = k.args.input.now in
    let t : k.tail_of-tail.result ≡ tail_of (to_le 8 (length m * 8)) m = k.tail_of-tail.ensures ∙ ap (λ (e : List ℕ). tail_of e m) k.u64_to_le.ensures in
    c.digest_of.ensures
    ∙ ap digest_of (hash_by_tail block (to_le 8) (length-to_le 8) initial_registers m k.whole_blocks-r.ensures t c.whole_blocks.ensures)
