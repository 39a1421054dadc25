-- `layouts::records::put_record` meets its contract.
-- Assumes nothing.
use mathlib.Core.List.{List, ◌++◌}
use mathlib.Core.Path.{◌≡◌, refl, ap, ◌∙◌}
use Prim.Native.Nat.{ℕ}
use borrow.Author.Rules.{rules}
use borrow.Author.Tests.{eq-eqb, ne_eqb}
use lib.ListN.{length}
use Rattle.octets.specs.Parts.{over}
use Rattle.octets.proofs.Laid.{first, next, laid_whole}
use Rattle.accounts.specs.Account.{entry_of, entry_lookup_of}
use Rattle.accounts.specs.declared.EntryLookup.{EntryLookup}
use Rattle.layouts.specs.Records.{record_head}
use Rattle.layouts.proofs.KeyLaws.{length_schedules}
use Rattle.layouts.proofs.RecordLaws.{SizedEntry, length_head}
use Rattle.layouts.proofs.records.put_record.Goals as goal

pub returns-then-out-ne-RECORD_SIZE : goal.returns-then-out-ne-RECORD_SIZE
returns-then-out-ne-RECORD_SIZE c =
    record { number = simp (ne_eqb _ _ c.if-out-ne-RECORD_SIZE.true); bytes = refl }

pub returns : goal.returns
returns c =
    let sized : SizedEntry (entry_of c.args.lookup.account) =
    record { nt = search rules; lm = search rules } in
    let nt-numbers : length c.args.lookup.account.nt_keys.keys ≡ 48 =
    search rules in
    let lm-numbers : length c.args.lookup.account.lm_keys.keys ≡ 48 =
    search rules in
    let l = c.args.lookup in
    let s₁ = first 42 (length_head (entry_lookup_of l) sized)
    (c.put_record_head.ensures
    ∙ ap (λ (x : EntryLookup). over (record_head x) c.args.out.now)
    c.entry_lookup_of.ensures) in
    let made = c.encode_schedules-keys.ensures in
    let s₂ = next s₁ c.encode_schedules-keys.result 768
    (ap length made ∙ length_schedules l.account nt-numbers lm-numbers)
    c.copy_at.ensures in
    record {
      number = simp (eq-eqb _ _ c.if-out-ne-RECORD_SIZE.false);
      bytes = laid_whole s₂ c.if-out-ne-RECORD_SIZE.false
          ∙ ap (λ (x : List ℕ). record_head (entry_lookup_of l) ++ x) made;
    }
