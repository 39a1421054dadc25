-- `layouts::keys::encode_schedules` meets its contract.
-- Assumes nothing.
use mathlib.Core.List.{List, ◌++◌}
use mathlib.Core.Path.{◌≡◌, ap, ap₂, ◌∙◌}
use Prim.Native.Nat.{ℕ, ◌*◌}
use borrow.Author.Rules.{rules}
use lib.ListN.{length, length-replicate}
use Rattle.octets.proofs.Laid.{first, next, laid_whole}
use Rattle.credentials.specs.Credentials.{encode_keys}
use Rattle.credentials.proofs.KeyOctets.{length_encoded}
use Rattle.layouts.proofs.keys.encode_schedules.Goals as goal

-- the bytes of 48 numbers
sized : (ks : List ℕ) → length ks ≡ 48 → length (encode_keys ks) ≡ 384
sized ks e = length_encoded ks ∙ ap (λ (n : ℕ). 8 * n) e

pub returns : goal.returns
returns c =
    let nt-numbers : length c.args.account.nt_keys.keys ≡ 48 =
    search rules in
    let lm-numbers : length c.args.account.lm_keys.keys ≡ 48 =
    search rules in
    let a = c.args.account in
    let e₁ = c.key_octets.ensures.0 in
    let e₂ = c.key_octets-2.ensures.0 in
    let s₁ = first 384 (ap length e₁ ∙ sized a.nt_keys.keys nt-numbers)
    c.copy.ensures in
    let s₂ = next s₁ c.key_octets-2.result 384
    (ap length e₂ ∙ sized a.lm_keys.keys lm-numbers) c.copy_at.ensures in
    laid_whole s₂ (length-replicate {A = ℕ} 768 0) ∙ ap₂ ◌++◌ e₁ e₂
