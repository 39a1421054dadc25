-- What the parts of the code return and leave. Only the code's inner functions cite these; no
-- public promise does.
-- Assumes nothing: these are definitions.
use Rattle.std.specs.Prelude.{List, ◌≡◌, ℕ, Result}
use Rattle.refusals.specs.Refusal.{told}
use Rattle.refusals.specs.declared.Refusal.{Refusal}
use Rattle.authenticator.specs.Opening.{Opening, opened, opened_issued, opened_buffer}
use Rattle.authenticator.specs.Opening.{opened_as}
use Rattle.authenticator.specs.declared.Started.{Started}
use Rattle.layouts.specs.Call.{after_call}
use Rattle.layouts.specs.Lists.{encode_list}

-- an opening was made on the list that is encoded, and the list was written back
pub record OpenedOn (o : Opening) (list : List ℕ) (r : Result Started Refusal)
    (list_after reply : List ℕ) : Type 0 where
  pub answered : opened_as o r ≡ opened o
  pub issued : list_after ≡ after_call (told r) (encode_list (opened_issued o)) list
  pub sent : reply ≡ opened_buffer o
