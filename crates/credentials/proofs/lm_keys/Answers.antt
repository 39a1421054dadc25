-- `credentials::lm_keys` meets its contract.
-- Assumes nothing.
use mathlib.Core.Path.{ap, ◌∙◌}
use mathlib.Core.List.{map}
use Rattle.std.specs.Char.{to_ascii_uppercase}
use Rattle.credentials.proofs.Padded.{keys_padded}
use Rattle.credentials.proofs.lm_keys.Goals as goal

pub returns : goal.returns
returns c =
    c.make_ascii_uppercase.ensures.after
    ∙ ap (map to_ascii_uppercase) c.array_at-keys.ensures ∙ keys_padded c.args.password.now
