-- `credentials::lm_hash` meets its contract.
-- Assumes nothing.
use mathlib.Core.Path.{◌≡◌, ap, ◌∙◌}
use mathlib.Core.List.{List, ◌++◌}
use Prim.Native.Nat.{ℕ}
use native.Mathlib.Omega.{arith}
use borrow.Author.Tests.{le-ltb}
use lib.ListN.{length}
use Rattle.std.specs.Prelude.{Result, Ok}
use Rattle.refusals.specs.declared.Refusal.{Refusal}
use Rattle.octets.specs.Parts.{part}
use Rattle.des.specs.Des.{des_encrypt}
use Rattle.credentials.specs.Credentials.{lm_hash_of, std_text}
use Rattle.credentials.proofs.Padded.{two_blocks}
use Rattle.credentials.proofs.Laws.{length_keys}
use Rattle.credentials.proofs.lm_hash.Goals as goal

pub returns : goal.returns
unfolding lm_hash_of
returns c =
    let m = c.args.password.now in
    let keys = c.lm_keys-keys.result in
    let n : length keys ≡ 14 = ap length c.lm_keys-keys.ensures ∙ length_keys m in
    simp (le-ltb _ _ c.if-password-gt-LONGEST_LM.false)
    (ap {B = Result (List ℕ) Refusal} (λ (h : List ℕ). Ok h)
    (two_blocks keys std_text std_text (omega arith) c.joined.ensures c.encrypt-first.ensures c.encrypt-second.ensures
    c.array_at.ensures c.array_at-2.ensures
    ∙ ap (λ (x : List ℕ). des_encrypt (part 0 7 x) std_text ++ des_encrypt (part 7 7 x) std_text) c.lm_keys-keys.ensures))
