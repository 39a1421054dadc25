-- `smbpasswd::entries::Entry::account` meets its contract.
-- Assumes nothing.
use mathlib.Core.Bool.{Bool, false}
use mathlib.Core.Path.{ap, ap₂, ◌∙◌}
use Rattle.accounts.specs.Account.{account_with}
use Rattle.accounts.specs.declared.Hash.{Hash}
use Rattle.smbpasswd.specs.Line.{field, is_hash}
use Rattle.smbpasswd.specs.Record.{hash_in, account_in}
use Rattle.smbpasswd.proofs.FieldLaws.{form}
use Rattle.smbpasswd.proofs.entries.Entry.account.Goals as goal

pub hash_in-requires : goal.hash_in-requires
hash_in-requires c = ap is_hash c.nt.ensures ∙ (form _ c.args.self.now.formed).nt

pub hash_in-requires-2 : goal.hash_in-requires-2
hash_in-requires-2 c = ap is_hash c.lm.ensures ∙ (form _ c.args.self.now.formed).lm

pub returns : goal.returns
unfolding account_in
returns c =
    let l = c.args.self.now.line.octets.now in
    c.account_with.ensures
    ∙ ap₂ (λ (h g : Hash). account_with h g c.is_disabled.result false false c.has_expired.result)
    (c.hash_in.ensures ∙ ap hash_in c.nt.ensures) (c.hash_in-2.ensures ∙ ap hash_in c.lm.ensures)
    ∙ ap₂ (λ (b e : Bool). account_with (hash_in (field 3 l)) (hash_in (field 2 l)) b false false e)
    c.is_disabled.ensures c.has_expired.ensures
