-- `unicode_text::utf16::Utf16::first` meets its contract.
-- Assumes nothing.
use Rattle.std.proofs.Common.{◌≡◌, ◌≤◌, length, subst, sym}
use Rattle.std.specs.Prelude.{Option, IfSome}
use Rattle.unicode_text.specs.declared.encoding.Char.{Char}
use Rattle.unicode_text.specs.Utf16.{utf16_first}
use Rattle.unicode_text.specs.Inner.{found}
use Rattle.unicode_text.proofs.CodecUtf16.{utf16_codec}
use Rattle.unicode_text.proofs.Found.{found_within}
use Rattle.unicode_text.proofs.utf16.Utf16Encoding.first.Goals as goal

character : (c : goal.After-char_from_units) → c.char_from_units.result ≡ found (utf16_first c.args.s.now)
unfolding utf16_first
character c = cc

pub returns-clause-within : goal.returns-clause-within
returns-clause-within c =
    let s = c.args.s.now in
    subst (λ (x : Option Char). IfSome x (λ y. y.width ≤ length s)) (sym (character c))
    (found_within (utf16_first s) (length s) (utf16_codec.fits s c.requires))
