-- Texts in any encoding of which the first character is told: decoding undoes encoding, encoding
-- undoes decoding, and what a loop over the characters has left.
-- Assumes nothing.
use mathlib.Core.Bool.{Bool, true, false, cond}
use mathlib.Core.List.{List, [], ◌∷◌, ◌++◌, append_assoc}
use mathlib.Core.Option.{Option, none, some}
use mathlib.Core.Path.{◌≡◌, refl, sym, ap, ap₂, ◌∙◌, subst}
use Prim.Native.Nat.{ℕ, zero, suc, ◌-◌, ◌≤◌, ◌<◌}
use native.Mathlib.Omega.{arith}
use borrow.Author.Tests.{eq-eqb, ne_eqb, eqb-true, eqb-false}
use lib.Dec.{eqb}
use lib.ListN.{length, take, drop, length-append, length-drop, take-append-drop}
use lib.Seq.{drop-append_seam, take_all}
use Rattle.unicode_text.specs.declared.encoding.Char.{Char}
use Rattle.unicode_text.specs.Scalars.{is_scalar, decoded_as, encoded, joined, decoded_from}
use Rattle.unicode_text.specs.Scalars.{decoded}
use Rattle.unicode_text.specs.Scalars.{is_some, well_formed, encoded_if, recoded}

-- each value of a text is a scalar value
abbrev pub Scalars : List ℕ → Type 0
Scalars [] = Unit {0}
Scalars (v ∷ vs) = (is_scalar v ≡ true) × Scalars vs

-- what is asked of an encoding, by the character with which octets begin and by the octets of a
-- character; Fit says of which lists the second law holds
pub record Codec (Fit : List ℕ → Type 0) (first : List ℕ → Char) (code : ℕ → List ℕ) : Type 0 where
  -- a character is told from its octets, whatever comes behind them
  pub read : (n : ℕ) (l : List ℕ) → is_scalar n ≡ true
      → first (code n ++ l) ≡ decoded_as (length (code n)) n
  -- the octets that tell one are those of a scalar value
  pub back : (l : List ℕ) → Fit l → 0 < length l → 0 < (first l).width
      → (is_scalar (first l).value ≡ true) × (code (first l).value ≡ take (first l).width l)
  pub fits : (l : List ℕ) → 0 < length l → (first l).width ≤ length l
  pub some_octets : (n : ℕ) → 0 < length (code n)
  pub kept : (w : ℕ) (l : List ℕ) → Fit l → Fit (drop w l)

-- ---- what is put before a list, if there is one

abbrev pub prefixed : List ℕ → Option (List ℕ) → Option (List ℕ)
prefixed front none = none
prefixed front (some l) = some (front ++ l)

pub prefixed_twice : (a b : List ℕ) (o : Option (List ℕ))
    → prefixed a (prefixed b o) ≡ prefixed (a ++ b) o
prefixed_twice a b none = refl
prefixed_twice a b (some l) = ap some (sym (append_assoc a b l))

pub prefixed_nothing : (o : Option (List ℕ)) → prefixed [] o ≡ o
prefixed_nothing none = refl
prefixed_nothing (some l) = refl

-- ---- what is left behind w octets, as the code cuts it

abbrev pub behind : ℕ → List ℕ → List ℕ
behind w l = take (length l - w) (drop w l)

cut : (w : ℕ) (l : List ℕ) → behind w l ≡ drop w l
cut w l = take_all (length l - w) (drop w l) (omega (arith, length-drop w l))

pub length_behind : (w : ℕ) (l : List ℕ) → length (behind w l) ≡ length l - w
length_behind w l = ap length (cut w l) ∙ length-drop w l

pub shorter : (w : ℕ) (l : List ℕ) → 0 < length l → (w ≡ 0 → ⊥) → length (behind w l) < length l
shorter w l h n = omega (arith, n, length_behind w l)

-- ---- a character, and the text behind it

joined_none : (c : Char) → c.width ≡ 0 → (o : Option (List ℕ)) → joined c o ≡ none
joined_none c z none = refl
joined_none c z (some vs) =
    ap (λ (t : Bool). cond t none (some (c.value ∷ vs))) (eq-eqb c.width 0 z)

joined_some : (c : Char) → 0 < c.width → (vs : List ℕ) → joined c (some vs) ≡ some (c.value ∷ vs)
joined_some c p vs =
    ap (λ (t : Bool). cond t none (some (c.value ∷ vs))) (ne_eqb c.width 0 (λ z. omega arith))

module _ (first : List ℕ → Char) where
  skip : (n : ℕ) (l : List ℕ) → decoded_from first n l ≡ decoded_from first 0 (drop n l)
  unfolding decoded_from
  skip zero l = refl
  skip (suc n) [] = refl
  skip (suc n) (x ∷ l) = skip n l

  next : (l : List ℕ) → 0 < length l → 0 < (first l).width
      → decoded first l ≡ joined (first l) (decoded first (drop (first l).width l))
  unfolding decoded_from
  next [] h p = absurd (omega (arith, h))
  next (x ∷ l) h p =
      let w = (first (x ∷ l)).width in
      let e : suc (w - 1) ≡ w = omega (arith, p) in
      ap (joined (first (x ∷ l)))
      (skip (w - 1) l ∙ ap (λ (n : ℕ). decoded_from first 0 (drop n (x ∷ l))) e)

  bad : (l : List ℕ) → 0 < length l → (first l).width ≡ 0 → decoded first l ≡ none
  unfolding decoded_from
  bad [] h z = absurd (omega (arith, h))
  bad (x ∷ l) h z =
      joined_none (first (x ∷ l)) z (decoded_from first ((first (x ∷ l)).width - 1) l)

  end : (l : List ℕ) → length l ≤ 0 → decoded first l ≡ some []
  unfolding decoded_from
  end [] h = refl
  end (x ∷ l) h = absurd (omega (arith, h))

  pub formed_end : (l : List ℕ) → length l ≤ 0 → well_formed first l ≡ true
  formed_end l h = ap is_some (end l h)

  pub recoded_end : (code : ℕ → List ℕ) (l : List ℕ) → length l ≤ 0
      → recoded first code l ≡ some []
  unfolding encoded
  recoded_end code l h = ap (encoded_if code) (end l h)

  -- the same of a character that the code told
  module _ (l : List ℕ) (h : 0 < length l) {c : Char} (e : c ≡ first l) where
    told_bad : c.width ≡ 0 → decoded first l ≡ none
    told_bad z = bad l h (sym (ap (λ (x : Char). x.width) e) ∙ z)

    told_next : (c.width ≡ 0 → ⊥)
        → decoded first l ≡ joined c (decoded first (drop c.width l))
    told_next n =
        let p : 0 < (first l).width = subst (λ (x : Char). 0 < x.width) e (omega (arith, n)) in
        next l h p ∙ ap (λ (x : Char). joined x (decoded first (drop x.width l))) (sym e)

    -- whether octets are well-formed
    pub formed_bad : c.width ≡ 0 → well_formed first l ≡ false
    formed_bad z = ap is_some (told_bad z)

    pub formed_next : (c.width ≡ 0 → ⊥)
        → well_formed first (behind c.width l) ≡ well_formed first l
    formed_next n =
        ap (well_formed first) (cut c.width l)
        ∙ same (decoded first (drop c.width l)) ∙ sym (ap is_some (told_next n))
      where
        same : (o : Option (List ℕ)) → is_some o ≡ is_some (joined c o)
        same none = refl
        same (some vs) = sym (ap is_some (joined_some c (omega (arith, n)) vs))

    -- what they are in another encoding
    pub recoded_bad : (code : ℕ → List ℕ) → c.width ≡ 0 → recoded first code l ≡ none
    recoded_bad code z = ap (encoded_if code) (told_bad z)

    pub recoded_next : (code : ℕ → List ℕ) → (c.width ≡ 0 → ⊥)
        → recoded first code l
        ≡ prefixed (code c.value) (recoded first code (behind c.width l))
    unfolding encoded
    recoded_next code n =
        ap (encoded_if code) (told_next n) ∙ same (decoded first (drop c.width l))
        ∙ ap (λ (x : List ℕ). prefixed (code c.value) (recoded first code x))
        (sym (cut c.width l))
      where
        same : (o : Option (List ℕ))
            → encoded_if code (joined c o) ≡ prefixed (code c.value) (encoded_if code o)
        same none = refl
        same (some vs) = ap (encoded_if code) (joined_some c (omega (arith, n)) vs)

module _ {Fit : List ℕ → Type 0} {first : List ℕ → Char} {code : ℕ → List ℕ}
    (codec : Codec Fit first code) where
  -- the octets of a character that the code told are there
  pub told_fits : (l : List ℕ) → 0 < length l → {c : Char} → c ≡ first l → c.width ≤ length l
  told_fits l h e = subst (λ (x : Char). x.width ≤ length l) (sym e) (codec.fits l h)

  -- what was encoded is decoded again
  pub decode_encoded : (vs : List ℕ) → Scalars vs → decoded first (encoded code vs) ≡ some vs
  unfolding encoded decoded_from
  decode_encoded [] s = refl
  decode_encoded (v ∷ vs) s =
      let rest = encoded code vs in
      let l = code v ++ rest in
      let c = decoded_as (length (code v)) v in
      let p : 0 < length (code v) = codec.some_octets v in
      let h : 0 < length l = omega (arith, length-append (code v) rest) in
      let n : c.width ≡ 0 → ⊥ = λ z. omega (arith, z, p) in
      told_next first l h (sym (codec.read v rest s.0)) n
      ∙ ap (λ (x : List ℕ). joined c (decoded first x)) (drop-append_seam (code v) rest)
      ∙ ap (joined c) (decode_encoded vs s.1) ∙ joined_some c p vs

  -- what was decoded is encoded again, and is a text
  abbrev Encoded : List ℕ → List ℕ → Type 0
  Encoded vs l = (encoded code vs ≡ l) × Scalars vs

  nothing : (vs : List ℕ) → some [] ≡ some vs → Encoded vs []
  unfolding encoded
  nothing [] e = (refl, tt)
  nothing (v ∷ vs) e = let z : ◌≡◌ {A = ℕ} 0 1 = cc in absurd (omega (arith, z))

  -- of the first character, with what is known of the octets behind it
  abbrev Behind : List ℕ → Type 0
  Behind l = 0 < length l → 0 < (first l).width
      → (us : List ℕ) → decoded first (drop (first l).width l) ≡ some us
      → Encoded us (drop (first l).width l)

  one_more : (l vs : List ℕ) → 0 < length l → Fit l → decoded first l ≡ some vs → Behind l
      → Encoded vs l
  unfolding encoded
  one_more l vs h o e rest = which (eqb w 0) refl
    where
      w : ℕ
      w = (first l).width

      v : ℕ
      v = (first l).value

      by : (p : 0 < w) (d : Option (List ℕ)) → decoded first (drop w l) ≡ d → Encoded vs l
      by p none q =
          let z : none ≡ some vs = sym (next first l h p ∙ ap (joined (first l)) q) ∙ e in
          let y : ◌≡◌ {A = ℕ} 0 1 = cc in
          absurd (omega (arith, y))
      by p (some us) q =
          let step = next first l h p ∙ ap (joined (first l)) q ∙ joined_some (first l) p us in
          let z : some (v ∷ us) ≡ some vs = sym step ∙ e in
          let y : v ∷ us ≡ vs = cc in
          let k = rest h p us q in
          let b = codec.back l o h p in
          subst (λ (x : List ℕ). Encoded x l) y
          (ap₂ ◌++◌ b.1 k.0 ∙ take-append-drop w l, (b.0, k.1))

      which : (t : Bool) → eqb w 0 ≡ t → Encoded vs l
      which true q =
          let z : none ≡ some vs = sym (bad first l h (eqb-true w 0 q)) ∙ e in
          let y : ◌≡◌ {A = ℕ} 0 1 = cc in
          absurd (omega (arith, y))
      which false q =
          let n = eqb-false w 0 q in
          by (omega (arith, n)) (decoded first (drop w l)) refl

  some_more : (l vs : List ℕ) → Fit l → decoded first l ≡ some vs → Behind l → Encoded vs l
  unfolding decoded_from
  some_more [] vs o e rest = nothing vs e
  some_more (x ∷ l) vs o e rest = one_more (x ∷ l) vs (omega arith) o e rest

  encode_from : (n : ℕ) (l vs : List ℕ) → length l ≤ n → Fit l → decoded first l ≡ some vs
      → Encoded vs l
  encode_from zero l vs h o e = some_more l vs o e (λ k p us q. absurd (omega (arith, h, k)))
  encode_from (suc n) l vs h o e =
      let w = (first l).width in
      some_more l vs o e
      (λ k p us q. encode_from n (drop w l) us (omega (arith, k, p, h, length-drop w l))
      (codec.kept w l o) q)

  pub encode_decoded : (l vs : List ℕ) → Fit l → decoded first l ≡ some vs
      → (encoded code vs ≡ l) × Scalars vs
  encode_decoded l vs o e = encode_from (length l) l vs (omega arith) o e
