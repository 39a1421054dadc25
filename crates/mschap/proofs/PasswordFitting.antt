-- A password that C makes is valid for the next call, and is what it was made of.
-- Assumes nothing.
use mathlib.Core.Path.{◌≡◌, ap, ap₂, ◌∙◌}
use mathlib.Core.Bool.{true, false, ◌||◌}
use mathlib.Core.List.{List}
use Prim.Native.Nat.{ℕ, ◌%◌, ◌≤◌}
use borrow.Author.Tests.{le-ltb, ltb-false}
use lib.Dec.{eqb, ltb}
use lib.ListN.{length}
use Rattle.credentials.specs.Credentials.{bad_nt_password}
use Rattle.layouts.specs.Passwords.{encode_password, decode_password, is_encoded_password}
use Rattle.layouts.proofs.PasswordLaws as layouts
use Rattle.std.specs.Prelude.{Ok}
use Rattle.unicode_text.specs.Password.{password_of, text_of}
use Rattle.unicode_text.proofs.Laws.{text_back, password_size_lem}
use Rattle.mschap.specs.Passwords.{text_from}
use Rattle.mschap.proofs.ListCalls.{neither}

-- an even number of at most 512
good : (p : List ℕ) → length p ≤ 512 → length p % 2 ≡ 0 → bad_nt_password p ≡ false
good p fits e =
    let even : eqb (length p % 2) 1 ≡ false = ap (λ (n : ℕ). eqb n 1) e in
    ap₂ ◌||◌ (le-ltb 512 (length p) fits) even

-- a password that was made of a text is valid, and is read as the text that it was made of
pub password_made : (text p : List ℕ) → password_of text ≡ Ok p
    → (is_encoded_password (encode_password p) ≡ true) × (text_from (encode_password p) ≡ Ok text)
password_made text p e =
    let size = password_size_lem text p e in (
      layouts.password_fits p size.0 (good p size.0 size.1),
      ap text_of (layouts.password_back p size.0) ∙ text_back text p e,
    )

-- one that was made of characters is valid, and holds them
pub characters_made : (characters : List ℕ) → bad_nt_password characters ≡ false
    → (is_encoded_password (encode_password characters) ≡ true)
    × (decode_password (encode_password characters) ≡ characters)
characters_made characters e =
    let fits = ltb-false 512 (length characters) (neither (ltb 512 (length characters)) _ e) in
    (layouts.password_fits characters fits e, layouts.password_back characters fits)
