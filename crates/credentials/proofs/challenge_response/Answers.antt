-- `credentials::challenge_response` meets its contract.
-- Assumes nothing.
use Rattle.credentials.specs.Credentials.{response_of}
use Rattle.credentials.proofs.challenge_response.Goals as goal

pub returns : goal.returns
unfolding response_of
returns c = cc
