-- `verify::responses::first_reason` meets its contract: the choices, from the last to the first,
-- are the definition's.
-- Assumes nothing.
use Rattle.verify.specs.Response.{first_reason}
use Rattle.verify.proofs.responses.first_reason.Goals as goal

pub returns : goal.returns
unfolding first_reason
returns c =
    cc
