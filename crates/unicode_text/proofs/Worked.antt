-- Fixed octets, against slips that both ways could make alike, so that no round trip would show
-- them, and against malformed input.
-- Assumes nothing.
use mathlib.Core.List.{[], ◌∷◌, ◌++◌, map}
use mathlib.Core.Path.{◌≡◌, refl}
use lib.ListN.{replicate}
use Rattle.refusals.specs.Refusal.{told}
use Rattle.unicode_text.specs.Scalars.{encoded, decoded_from}
use Rattle.unicode_text.specs.Utf8.{utf8_of, utf8_first, utf8_encoded}
use Rattle.unicode_text.specs.Utf16.{utf16_of, utf16_first}
use Rattle.unicode_text.specs.Password.{octets_of, password_of, text_of}

-- RFC 3629 section 7: U+0041 U+2262 U+0391 U+002E, and U+233B4
examples : utf8_encoded (0x41 ∷ 0x2262 ∷ 0x391 ∷ 0x2e ∷ 0x233b4 ∷ [])
    ≡ 0x41 ∷ 0xe2 ∷ 0x89 ∷ 0xa2 ∷ 0xce ∷ 0x91 ∷ 0x2e ∷ 0xf0 ∷ 0xa3 ∷ 0x8e ∷ 0xb4 ∷ []
unfolding encoded utf8_of
examples = refl

-- RFC 2781 section 5, UTF-16LE: U+12345 and "=Ra"
ra : octets_of (password_of (0xf0 ∷ 0x92 ∷ 0x8d ∷ 0x85 ∷ 0x3d ∷ 0x52 ∷ 0x61 ∷ []))
    ≡ 0x08 ∷ 0xd8 ∷ 0x45 ∷ 0xdf ∷ 0x3d ∷ 0x00 ∷ 0x52 ∷ 0x00 ∷ 0x61 ∷ 0x00 ∷ []
unfolding password_of encoded decoded_from utf8_first utf16_of
ra = refl

-- U+00FC, U+20AC and U+1F600, each by itself
passwords : map (λ t. octets_of (password_of t)) (
    (0xc3 ∷ 0xbc ∷ []) ∷ (0xe2 ∷ 0x82 ∷ 0xac ∷ []) ∷ (0xf0 ∷ 0x9f ∷ 0x98 ∷ 0x80 ∷ []) ∷ []
    )
    ≡ (0xfc ∷ 0x00 ∷ []) ∷ (0xac ∷ 0x20 ∷ []) ∷ (0x3d ∷ 0xd8 ∷ 0x00 ∷ 0xde ∷ []) ∷ []
unfolding password_of encoded decoded_from utf8_first utf16_of
passwords = refl

texts : map (λ p. octets_of (text_of p)) (
    (0xfc ∷ 0x00 ∷ []) ∷ (0xac ∷ 0x20 ∷ []) ∷ (0x3d ∷ 0xd8 ∷ 0x00 ∷ 0xde ∷ []) ∷ []
    )
    ≡ (0xc3 ∷ 0xbc ∷ []) ∷ (0xe2 ∷ 0x82 ∷ 0xac ∷ []) ∷ (0xf0 ∷ 0x9f ∷ 0x98 ∷ 0x80 ∷ []) ∷ []
unfolding text_of encoded decoded_from utf16_first utf8_of
texts = refl

-- malformed texts: a surrogate, two overlong forms, a value over 10FFFF, F5, a sequence cut short,
-- one that lacks a tail, a tail by itself, FF; and one behind good characters
malformed_texts : map (λ t. told (password_of t)) (
    (0xed ∷ 0xa0 ∷ 0x80 ∷ [])
    ∷ (0xc0 ∷ 0x80 ∷ [])
    ∷ (0xe0 ∷ 0x80 ∷ 0xaf ∷ [])
    ∷ (0xf4 ∷ 0x90 ∷ 0x80 ∷ 0x80 ∷ [])
    ∷ (0xf5 ∷ 0x80 ∷ 0x80 ∷ 0x80 ∷ [])
    ∷ (0xe2 ∷ 0x82 ∷ [])
    ∷ (0xc3 ∷ 0x28 ∷ [])
    ∷ (0x80 ∷ [])
    ∷ (0xff ∷ [])
    ∷ (0x61 ∷ 0xc3 ∷ 0xbc ∷ 0xbc ∷ [])
    ∷ []
    )
    ≡ replicate 10 101
unfolding password_of encoded decoded_from utf8_first utf16_of
malformed_texts = refl

-- malformed passwords: an odd number of octets, a high surrogate at the end, one before another
-- character, a low one by itself, and the two in the wrong order
malformed_passwords : map (λ p. told (text_of p)) (
    (0x61 ∷ 0x00 ∷ 0x62 ∷ [])
    ∷ (0x3d ∷ 0xd8 ∷ [])
    ∷ (0x3d ∷ 0xd8 ∷ 0x61 ∷ 0x00 ∷ [])
    ∷ (0x00 ∷ 0xde ∷ [])
    ∷ (0x00 ∷ 0xde ∷ 0x3d ∷ 0xd8 ∷ [])
    ∷ []
    )
    ≡ replicate 5 101
unfolding text_of encoded decoded_from utf16_first utf8_of
malformed_passwords = refl

-- 256 characters fit, 257 do not, and malformed comes before long
lengths : map (λ t. told (password_of t)) (
    replicate 256 0x61 ∷ replicate 257 0x61 ∷ (replicate 257 0x61 ++ 0x80 ∷ []) ∷ []
    )
    ≡ 0 ∷ 8 ∷ 101 ∷ []
unfolding password_of encoded decoded_from utf8_first utf16_of
lengths = refl
