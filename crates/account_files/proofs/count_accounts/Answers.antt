-- `account_files::count_accounts` meets its contract.
-- Assumes nothing.
use mathlib.Core.Path.{refl, ap}
use Rattle.smbpasswd.specs.declared.Counts.{Counts}
use Rattle.account_files.proofs.count_accounts.Goals as goal

pub returns : goal.returns
returns c =
    let e = c.count-k.ensures in
    record {
      number = refl;
      all = ap (λ (k : Counts). k.lines) e;
      other_form = ap (λ (k : Counts). k.bad) e;
      off = ap (λ (k : Counts). k.disabled) e;
      old = ap (λ (k : Counts). k.expired) e;
      without_nt = ap (λ (k : Counts). k.no_nt) e;
    }
