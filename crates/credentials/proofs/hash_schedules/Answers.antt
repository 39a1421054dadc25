-- `credentials::hash_schedules` meets its contract.
-- Assumes nothing.
use Rattle.credentials.specs.Credentials.{schedules_of}
use Rattle.credentials.proofs.hash_schedules.Goals as goal

pub returns : goal.returns
unfolding schedules_of
returns c = cc
