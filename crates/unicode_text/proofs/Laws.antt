-- The laws of the conversion for other crates to cite: what was encoded is decoded again and what
-- was decoded is encoded again, for each encoding; and the text of a text's password is that text,
-- the password of a password's text that password.
-- Assumes nothing.
use mathlib.Core.Bool.{Bool, true, false}
use mathlib.Core.List.{List, [], ◌∷◌}
use mathlib.Core.Option.{Option, none, some}
use mathlib.Core.Path.{◌≡◌, refl, sym, ap, ◌∙◌, subst}
use Prim.Native.Nat.{ℕ, ◌+◌, ◌*◌, ◌/◌, ◌%◌, ◌≤◌}
use native.Mathlib.Omega.{arith}
use borrow.Author.Tests.{le-ltb, ltb-false}
use lib.Dec.{ltb}
use lib.ListN.{length, length-append}
use Rattle.std.specs.Prelude.{Ok}
use Rattle.octets.proofs.Numbers.{Octets}
use Rattle.unicode_text.specs.declared.encoding.Char.{Char}
use Rattle.unicode_text.specs.Scalars.{encoded, decoded, encoded_if, recoded}
use Rattle.unicode_text.specs.Utf8.{utf8_of, utf8_first, utf8_encoded, utf8_decoded}
use Rattle.unicode_text.specs.Utf16.{utf16_of, utf16_first, utf16_encoded, utf16_decoded}
use Rattle.unicode_text.specs.Password.{password_max, text_max, converted, fitted, password_of}
use Rattle.unicode_text.specs.Password.{text_of}
use Rattle.unicode_text.proofs.Texts.{Scalars, Codec, decode_encoded, encode_decoded}
use Rattle.unicode_text.proofs.CodecUtf8.{utf8_codec, at_most_three, at_most_four}
use Rattle.unicode_text.proofs.CodecUtf16.{utf16_codec, utf16_one, utf16_two}
use Rattle.unicode_text.proofs.CodecUtf16.{Size, one, two, size}
use Rattle.unicode_text.proofs.Converting.{good}

-- ---- each encoding by itself

pub utf8_decode_encoded : (vs : List ℕ) → Scalars vs → utf8_decoded (utf8_encoded vs) ≡ some vs
utf8_decode_encoded vs s = decode_encoded utf8_codec vs s

pub utf8_encode_decoded : (l vs : List ℕ) → utf8_decoded l ≡ some vs
    → (utf8_encoded vs ≡ l) × Scalars vs
utf8_encode_decoded l vs e = encode_decoded utf8_codec l vs tt e

pub utf16_decode_encoded : (vs : List ℕ) → Scalars vs → utf16_decoded (utf16_encoded vs) ≡ some vs
utf16_decode_encoded vs s = decode_encoded utf16_codec vs s

pub utf16_encode_decoded : (l vs : List ℕ) → Octets l → utf16_decoded l ≡ some vs
    → (utf16_encoded vs ≡ l) × Scalars vs
utf16_encode_decoded l vs o e = encode_decoded utf16_codec l vs o e

-- ---- from one to the other and back

-- the text between the two
record Between (first : List ℕ → Char) (code : ℕ → List ℕ) (from to : List ℕ) : Type 0 where
  text : List ℕ
  read : decoded first from ≡ some text
  same : encoded code text ≡ to

between : (first : List ℕ → Char) (code : ℕ → List ℕ) (from to : List ℕ)
    → recoded first code from ≡ some to → Between first code from to
between first code from to e = by (decoded first from) refl e
  where
    by : (d : Option (List ℕ)) → decoded first from ≡ d → encoded_if code d ≡ some to
        → Between first code from to
    by none p q = let z : ◌≡◌ {A = ℕ} 0 1 = cc in absurd (omega (arith, z))
    by (some vs) p q = record { text = vs; read = p; same = cc }

recoded_back : {Fit Fit' : List ℕ → Type 0} {first first' : List ℕ → Char}
    {code code' : ℕ → List ℕ} → Codec Fit first code → Codec Fit' first' code'
    → (from to : List ℕ) → Fit from
    → recoded first code' from ≡ some to → recoded first' code to ≡ some from
recoded_back {first = first} {first' = first'} {code = code} {code' = code'} a b from to o e =
    let m = between first code' from to e in
    let k = encode_decoded a from m.text o m.read in
    ap (recoded first' code) (sym m.same)
    ∙ ap (encoded_if code) (decode_encoded b m.text k.1) ∙ ap some k.0

-- ---- sizes

-- at most three octets in UTF-8 for two in UTF-16, of a character and of a text
char_size : (n : ℕ) → (2 * length (utf8_of n) ≤ 3 * length (utf16_of n))
    × (length (utf16_of n) % 2 ≡ 0)
char_size n = by (size n)
  where
    by : Size n → (2 * length (utf8_of n) ≤ 3 * length (utf16_of n)) × (length (utf16_of n) % 2 ≡ 0)
    by (one h) = omega (arith, at_most_three n h, ap length (utf16_one n h))
    by (two h) = omega (arith, at_most_four n, ap length (utf16_two n h))

even_sum : (a b : ℕ) → a % 2 ≡ 0 → b % 2 ≡ 0 → (a + b) % 2 ≡ 0
even_sum a b p q =
    let x : a ≡ 2 * (a / 2) = omega arith in
    let y : b ≡ 2 * (b / 2) = omega arith in
    let z : a + b ≡ 2 * (a / 2 + b / 2) = omega arith in
    ap (λ (n : ℕ). n % 2) z ∙ double (a / 2 + b / 2)
  where
    double : (n : ℕ) → 2 * n % 2 ≡ 0
    double n = omega arith

text_size : (vs : List ℕ) → (2 * length (utf8_encoded vs) ≤ 3 * length (utf16_encoded vs))
    × (length (utf16_encoded vs) % 2 ≡ 0)
unfolding encoded
text_size [] = omega arith
text_size (v ∷ vs) =
    let h = char_size v in
    let t = text_size vs in
    let e = length-append (utf16_of v) (encoded utf16_of vs) in (
      omega (arith, h.0, t.0, length-append (utf8_of v) (encoded utf8_of vs), e),
      ap (λ (n : ℕ). n % 2) e
          ∙ even_sum (length (utf16_of v)) (length (encoded utf16_of vs)) h.1 t.1,
    )

-- the two sizes, where the one is converted to the other
sizes : (vs p t : List ℕ) → utf16_encoded vs ≡ p → utf8_encoded vs ≡ t
    → (2 * length t ≤ 3 * length p) × (length p % 2 ≡ 0)
sizes vs p t e k =
    subst (λ (x : List ℕ). (2 * length x ≤ 3 * length p) × (length p % 2 ≡ 0)) k
    (subst (λ (x : List ℕ). (2 * length (utf8_encoded vs) ≤ 3 * length x) × (length x % 2 ≡ 0)) e
    (text_size vs))

-- the text of a password has at most three octets for two
pub text_long : (p t : List ℕ) → Octets p → recoded utf16_first utf8_of p ≡ some t
    → 2 * length t ≤ 3 * length p
text_long p t o e =
    let m = between utf16_first utf8_of p t e in
    (sizes m.text p t (utf16_encode_decoded p m.text o m.read).0 m.same).0

-- so it fits wherever the password does
pub text_fitted : (p : List ℕ) → Octets p → length p ≤ password_max
    → fitted text_max (recoded utf16_first utf8_of p) ≡ text_of p
unfolding text_of
text_fitted p o h =
    by (recoded utf16_first utf8_of p) refl
    ∙ sym (ap (λ (t : Bool). converted t (recoded utf16_first utf8_of p))
    (le-ltb password_max (length p) h))
  where
    by : (d : Option (List ℕ)) → recoded utf16_first utf8_of p ≡ d
        → fitted text_max d ≡ converted false d
    by none e = refl
    by (some t) e =
        ap (λ (x : Bool). converted x (some t))
        (le-ltb text_max (length t) (omega (arith, text_long p t o e, h)))

-- ---- the answers

-- a password that is not refused
record Given (o : Option (List ℕ)) (l : List ℕ) : Type 0 where
  same : o ≡ some l
  fits : length l ≤ password_max

given : (o : Option (List ℕ)) (l : List ℕ) → fitted password_max o ≡ Ok l → Given o l
given none l e = let z : ◌≡◌ {A = ℕ} 0 1 = cc in absurd (omega (arith, z))
given (some k) l e = by (ltb password_max (length k)) refl e
  where
    by : (t : Bool) → ltb password_max (length k) ≡ t → converted t (some k) ≡ Ok l
        → Given (some k) l
    by true p q = let z : ◌≡◌ {A = ℕ} 0 1 = cc in absurd (omega (arith, z))
    by false p q =
        let y : k ≡ l = cc in
        record {
          same = ap some y;
          fits = subst (λ (x : List ℕ). length x ≤ password_max) y (ltb-false password_max (length k) p);
        }

-- a text that is not refused
record Shown (n : ℕ) (o : Option (List ℕ)) (l : List ℕ) : Type 0 where
  same : o ≡ some l
  fits : n ≤ password_max

shown : (n : ℕ) (o : Option (List ℕ)) (l : List ℕ) → converted (ltb password_max n) o ≡ Ok l
    → Shown n o l
shown n none l e = let z : ◌≡◌ {A = ℕ} 0 1 = cc in absurd (omega (arith, z))
shown n (some k) l e = by (ltb password_max n) refl e
  where
    by : (t : Bool) → ltb password_max n ≡ t → converted t (some k) ≡ Ok l → Shown n (some k) l
    by true p q = let z : ◌≡◌ {A = ℕ} 0 1 = cc in absurd (omega (arith, z))
    by false p q = let y : k ≡ l = cc in record { same = ap some y; fits = ltb-false password_max n p }

-- ---- the laws

-- what a user typed is shown again
pub text_back : (t p : List ℕ) → password_of t ≡ Ok p → text_of p ≡ Ok t
unfolding password_of text_of
text_back t p e =
    let g = given (recoded utf8_first utf16_of t) p e in
    ap (converted (ltb password_max (length p)))
    (recoded_back utf8_codec utf16_codec t p tt g.same)
    ∙ ap (λ (x : Bool). converted x (some t)) (le-ltb password_max (length p) g.fits)

-- a password that is shown and typed is the same
pub password_back : (p t : List ℕ) → Octets p → text_of p ≡ Ok t → password_of t ≡ Ok p
unfolding password_of text_of
password_back p t o e =
    let g = shown (length p) (recoded utf16_first utf8_of p) t e in
    ap (fitted password_max) (recoded_back utf16_codec utf8_codec p t o g.same)
    ∙ good password_max p g.fits

-- the password of a text has the length of an NT password
pub password_size_lem : (t p : List ℕ) → password_of t ≡ Ok p
    → (length p ≤ password_max) × (length p % 2 ≡ 0)
unfolding password_of
password_size_lem t p e =
    let g = given (recoded utf8_first utf16_of t) p e in
    let m = between utf8_first utf16_of t p g.same in
    let k = utf8_encode_decoded t m.text m.read in
    (g.fits, (sizes m.text p t m.same k.0).1)
