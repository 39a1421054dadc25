-- `credentials::scheduled_response` meets its contract.
-- Assumes nothing.
use Rattle.credentials.specs.Credentials.{response_under}
use Rattle.credentials.proofs.scheduled_response.Goals as goal

pub returns : goal.returns
unfolding response_under
returns c = c.encrypt_three_under.ensures
