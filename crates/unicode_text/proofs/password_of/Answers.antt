-- `unicode_text::password_of` meets its contract.
-- Assumes nothing.
use Rattle.unicode_text.specs.Password.{password_of}
use Rattle.unicode_text.proofs.password_of.Goals as goal

pub returns : goal.returns
unfolding password_of
returns c = c.recode.ensures
