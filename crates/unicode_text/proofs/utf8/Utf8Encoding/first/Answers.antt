-- `unicode_text::utf8::Utf8::first` meets its contract.
-- Assumes nothing.
use Rattle.std.proofs.Common.{◌≡◌, ◌≤◌, length, subst, sym}
use Rattle.std.specs.Prelude.{Option, IfSome}
use Rattle.unicode_text.specs.declared.encoding.Char.{Char}
use Rattle.unicode_text.specs.Utf8.{utf8_first}
use Rattle.unicode_text.specs.Inner.{found}
use Rattle.unicode_text.proofs.CodecUtf8.{utf8_codec}
use Rattle.unicode_text.proofs.Found.{found_within}
use Rattle.unicode_text.proofs.utf8.Utf8Encoding.first.Goals as goal

character : (c : goal.After-char_from_octets) → c.char_from_octets.result ≡ found (utf8_first c.args.s.now)
unfolding utf8_first
character c = cc

pub returns-clause-within : goal.returns-clause-within
returns-clause-within c =
    let s = c.args.s.now in
    subst (λ (x : Option Char). IfSome x (λ y. y.width ≤ length s)) (sym (character c))
    (found_within (utf8_first s) (length s) (utf8_codec.fits s c.requires))
