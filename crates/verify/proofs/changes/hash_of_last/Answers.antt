-- `verify::changes::hash_of_last` meets its contract.
-- Assumes nothing.
use mathlib.Core.Path.{◌≡◌, sym, ap, ◌∙◌}
use mathlib.Core.Bool.{Bool, false}
use mathlib.Core.List.{List}
use Prim.Native.Nat.{ℕ, ◌-◌, ◌%◌, ◌≤◌}
use native.Mathlib.Omega.{arith}
use lib.ListN.{length}
use Rattle.octets.specs.Parts.{part}
use Rattle.octets.proofs.Parts.{length_part}
use Rattle.std.specs.Prelude.{Result, Ok}
use Rattle.refusals.specs.declared.Refusal.{Refusal}
use Rattle.credentials.specs.Credentials.{bad_nt_password, nt_hash_of, hash_answer, nt_hashed}
use Rattle.credentials.proofs.Laws.{small_even}
use Rattle.verify.proofs.changes.hash_of_last.Goals as goal

-- the last octets are a password that is not refused, and so they are hashed
hashed : (o : List ℕ) (n : ℕ) {r : Result (List ℕ) Refusal} {last : List ℕ} → length o ≡ 512
    → n ≤ 512 → n % 2 ≡ 0 → r ≡ nt_hashed last → last ≡ part (512 - n) n o
    → r ≡ Ok (nt_hash_of (part (512 - n) n o))
hashed o n whole few even e f =
    let last = part (512 - n) n o in
    let size : length last ≡ n = length_part (512 - n) n o (omega arith) in
    let good : bad_nt_password last ≡ false =
    small_even last (omega (arith, size)) (ap (λ (k : ℕ). k % 2) size ∙ even) in
    e ∙ ap nt_hashed f ∙ ap (λ (b : Bool). hash_answer b (nt_hash_of last)) good

pub unwrap-requires : goal.unwrap-requires
unwrap-requires c =
    let r = c.requires in
    rw (hashed c.args.octets.now c.args.n r.0 r.1 r.2 c.nt_hash.ensures c.part_of.ensures)

pub returns : goal.returns
returns c =
    let r = c.requires in
    let e = hashed c.args.octets.now c.args.n r.0 r.1 r.2 c.nt_hash.ensures c.part_of.ensures in
    let f = sym c.unwrap.ensures ∙ e in
    cc
