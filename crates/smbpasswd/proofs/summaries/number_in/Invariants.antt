-- `smbpasswd::summaries::number_in` meets its contract.
-- Assumes nothing.
use Rattle.smbpasswd.proofs.Numbers.{Read}
use Rattle.smbpasswd.proofs.summaries.number_in.Given as goal

abbrev pub invariant-loop-octet : goal.invariant-loop-octet
invariant-loop-octet l = Read l.s l.value l.octet-index
