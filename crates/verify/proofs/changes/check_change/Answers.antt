-- `verify::changes::check_change` meets its contract: each test is the definition's, and what was
-- found in the block stands in their order.
-- Assumes nothing.
use Rattle.std.specs.Prelude.{Option, Some, None}
use mathlib.Core.Bool.{cond, not}
use mathlib.Core.Path.{◌≡◌, sym, ap, ap₂, ◌∙◌, subst}
use Prim.Native.Nat.{◌%◌}
use lib.Dec.{eqb, ltb}
use Rattle.credentials.specs.Credentials.{ValidLength, content_for, unsealed_as}
use Rattle.credentials.specs.declared.Unsealed.{Unsealed}
use Rattle.credentials.proofs.Laws.{sound_unsealed}
use Rattle.accounts.specs.Account.{no_hash, hash_of}
use Rattle.verify.specs.Accepted.{length_for}
use Rattle.verify.specs.Faults.{is_faultless}
use Rattle.verify.specs.Change.{checked_with, bad_verifier, bad_response, change_fault}
use Rattle.verify.specs.Change.{checked_change}
use Rattle.verify.specs.Inner.{checked_block}
use Rattle.verify.specs.declared.ChangeFault.{ChangeFault}
use Rattle.verify.specs.declared.ChangeFault.TheVariants.{NoNtHash, NoNtResponse}
use Rattle.verify.specs.declared.CheckedBlock.{CheckedBlock}
use Rattle.verify.specs.Change.{CheckedChange}
use Rattle.verify.specs.declared.ChangeFault.TheVariants.{OldHashWrong, ResponseWrong}
use Rattle.verify.proofs.Checked.{composed, by_tests}
use Rattle.verify.proofs.changes.check_change.Goals as goal

pub checked_block-found-requires : goal.checked_block-found-requires
checked_block-found-requires c =
    subst ValidLength (ap (λ (o : Unsealed). o.content) (sym c.unseal.ensures.0))
    (sound_unsealed _ _)

pub returns : goal.returns
unfolding checked_change change_fault content_for unsealed_as
returns c =
    let a = c.args in
    let f = a.fields in
    let n = length_for a.kept f in
    let o = unsealed_as a.kept.nt.octets f.block in
    let absent = not a.kept.nt.present in
    let clear = not (eqb (f.flags % 2) 1) in
    let found = c.checked_block-found.result in
    let whole : CheckedBlock → CheckedChange =
    λ v. checked_with (composed absent clear v.fault (bad_verifier a.kept f v.hash)
    (bad_response a.challenge f v.hash)) (hash_of v.hash) no_hash in
    let proof = cond (bad_verifier a.kept f found.hash) (Some OldHashWrong)
    (cond (bad_response a.challenge f found.hash) (Some ResponseWrong) None) in
    let e : c.first_fault-fault.result
    ≡ composed absent clear found.fault (bad_verifier a.kept f found.hash)
    (bad_response a.challenge f found.hash) =
    c.first_fault-fault.ensures
    ∙ ap (λ (x : Option ChangeFault). cond absent (Some NoNtHash) (cond clear (Some NoNtResponse)
    (cond (is_faultless found.fault) x found.fault)))
    c.proof_fault-proof.ensures in
    c.checked_with.ensures
    ∙ ap₂ (checked_with c.first_fault-fault.result) c.hash_of.ensures c.no_hash.ensures
    ∙ ap (λ (x : Option ChangeFault). checked_with x (hash_of found.hash) no_hash) e
    ∙ ap whole
    (c.checked_block-found.ensures ∙ ap checked_block c.unseal.ensures.0)
    ∙ by_tests absent clear (ltb 512 n) (eqb (n % 2) 1) n o (bad_verifier a.kept f)
    (bad_response a.challenge f)
