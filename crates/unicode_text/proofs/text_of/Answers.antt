-- `unicode_text::text_of` meets its contract. A text has at most three octets for two of its
-- password, so it fits wherever the password does.
-- Assumes nothing.
use mathlib.Core.Bool.{Bool}
use Rattle.std.proofs.Common.{sym, ap, ◌∙◌, length, arith}
use borrow.Author.Tests.{lt-ltb}
use Rattle.std.specs.Prelude.{Err}
use Rattle.unicode_text.specs.Scalars.{recoded}
use Rattle.unicode_text.specs.Utf8.{utf8_of}
use Rattle.unicode_text.specs.Utf16.{utf16_first}
use Rattle.unicode_text.specs.Password.{password_max, converted, text_of}
use Rattle.unicode_text.proofs.Converting.{long}
use Rattle.unicode_text.proofs.Laws.{text_fitted}
use Rattle.unicode_text.proofs.text_of.Goals as goal

pub returns-then-password-gt-PASSWORD_MAX : goal.returns-then-password-gt-PASSWORD_MAX
unfolding text_of
returns-then-password-gt-PASSWORD_MAX c =
    let l = c.args.password.now in
    ap Err c.too_long.ensures
    ∙ long utf16_first utf8_of l
    ∙ sym (ap (λ (t : Bool). converted t (recoded utf16_first utf8_of l))
    (lt-ltb password_max (length l) c.if-password-gt-PASSWORD_MAX.true))

pub returns : goal.returns
returns c =
    c.recode.ensures
    ∙ text_fitted c.args.password.now (λ i. omega (arith, c.type_inv.password i))
    c.if-password-gt-PASSWORD_MAX.false
