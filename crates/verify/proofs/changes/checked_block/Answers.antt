-- `verify::changes::checked_block` meets its contract.
-- Assumes nothing.
use borrow.Author.Rules.{rules}
use mathlib.Core.Path.{◌≡◌, refl, sym, ap, ap₂, ◌∙◌, subst}
use Prim.Native.Nat.{ℕ, ◌%◌, ◌≤◌}
use native.Mathlib.Omega.{arith}
use lib.ListN.{length}
use Rattle.credentials.specs.Credentials.{ValidLength, nt_hash_of, password_in}
use Rattle.credentials.specs.declared.Content.{Content}
use Rattle.credentials.specs.declared.Content.TheVariants.{Over, Odd, Password}
use Rattle.verify.specs.Inner.{content_length, block_with}
use Rattle.verify.proofs.changes.checked_block.Goals as goal

-- what is hashed has the length of a password
abbrev Hashable : ℕ → Type 0
Hashable n = (n ≤ 512) × (n % 2 ≡ 0)

hashable : (k : Content) → ValidLength k → Hashable (content_length k)
hashable Over v = (omega arith, refl)
hashable Odd v = (omega arith, refl)
hashable (Password n) v = v

pub hash_of_last-hash-requires : goal.hash_of_last-hash-requires
hash_of_last-hash-requires c =
    let whole : length c.args.unsealed.octets ≡ 512 = search rules in
    let n = subst Hashable (sym c.content_length.ensures)
    (hashable c.args.unsealed.content c.requires) in
    (whole, n.0, n.1)

pub returns : goal.returns
unfolding password_in
returns c =
    c.block_with.ensures
    ∙ ap₂ block_with c.content_fault.ensures
    (c.hash_of_last-hash.ensures
    ∙ ap (λ (n : ℕ). nt_hash_of (password_in c.args.unsealed n)) c.content_length.ensures)
