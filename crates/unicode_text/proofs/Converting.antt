-- A text on its way from one encoding to another: what is put so far, and what is left to convert.
-- Assumes nothing.
use mathlib.Core.Bool.{Bool, true, cond}
use mathlib.Core.List.{List, [], ◌++◌, append-nil}
use mathlib.Core.Option.{Option, none, some}
use mathlib.Core.Path.{◌≡◌, refl, sym, ap, ◌∙◌, subst}
use Prim.Native.Nat.{ℕ, ◌+◌, ◌≤◌, ◌<◌}
use native.Mathlib.Omega.{arith}
use borrow.Author.Tests.{lt-ltb, le-ltb}
use lib.ListN.{length, length-append}
use Rattle.std.specs.Prelude.{Ok, Err}
use Rattle.refusals.specs.declared.Refusal.TheVariants.{Input, Text}
use Rattle.unicode_text.specs.declared.encoding.Char.{Char}
use Rattle.unicode_text.specs.Scalars.{is_some, decoded, well_formed}
use Rattle.unicode_text.specs.Scalars.{encoded, encoded_if, recoded}
use Rattle.unicode_text.specs.Password.{converted, fitted}
use Rattle.unicode_text.proofs.Found.{Character}
use Rattle.unicode_text.proofs.Texts.{prefixed, prefixed_twice, prefixed_nothing, behind}
use Rattle.unicode_text.proofs.Texts.{formed_next, recoded_bad, recoded_next, recoded_end}

-- ---- a loop over the octets of whole: done is put, and the octets of rest are left

pub record Converting (first : List ℕ → Char) (code : ℕ → List ℕ) (whole rest done : List ℕ) : Type 0
  where
    pub left : prefixed done (recoded first code rest) ≡ recoded first code whole

pub begun : (first : List ℕ → Char) (code : ℕ → List ℕ) (l : List ℕ) {done : List ℕ} → done ≡ []
    → Converting first code l l done
begun first code l e =
    record {
      left = ap (λ (x : List ℕ). prefixed x (recoded first code l)) e
          ∙ prefixed_nothing (recoded first code l);
    }

module _ {first : List ℕ → Char} {code : ℕ → List ℕ} {whole rest done : List ℕ}
    (v : Converting first code whole rest done) where
  -- nothing is left
  pub ended : length rest ≤ 0 → recoded first code whole ≡ some done
  ended h =
      sym v.left ∙ ap (prefixed done) (recoded_end first code rest h) ∙ ap some (append-nil done)

  module _ (h : 0 < length rest) where
    pub stopped : (first rest).width ≡ 0 → recoded first code whole ≡ none
    stopped z = sym v.left ∙ ap (prefixed done) (recoded_bad first rest h refl code z)

    module _ {c : Char} (k : Character (first rest) c) where
      -- one character more
      pub moved : Converting first code whole (behind c.width rest) (done ++ code c.value)
      moved =
          record {
            left = sym (prefixed_twice done (code c.value) (recoded first code (behind c.width rest)))
                ∙ ap (prefixed done) (sym (recoded_next first rest h k.same code k.some_width)) ∙ v.left;
          }

      pub moved_to : {b p o : List ℕ} → b ≡ done ++ p → p ≡ o → o ≡ code c.value
          → Converting first code whole (behind c.width rest) b
      moved_to e f g =
          subst (λ (x : List ℕ). Converting first code whole (behind c.width rest) x)
          (sym (e ∙ ap (λ (x : List ℕ). done ++ x) (f ∙ g))) moved

      -- one that finds no room
      pub crowded : (room : ℕ) → room < length done + length (code c.value)
          → fitted room (recoded first code whole)
          ≡ Err (cond (well_formed first rest) Input Text)
      crowded room m =
          ap (fitted room) (sym moved.left)
          ∙ by (decoded first (behind c.width rest))
          ∙ ap (λ (t : Bool). Err (cond t Input Text)) (formed_next first rest h k.same k.some_width)
        where
          by : (d : Option (List ℕ))
              → fitted room (prefixed (done ++ code c.value) (encoded_if code d))
              ≡ Err (cond (is_some d) Input Text)
          by none = refl
          by (some us) =
              let whole = length-append (done ++ code c.value) (encoded code us) in
              let front = length-append done (code c.value) in
              ap (λ (t : Bool). converted t (some ((done ++ code c.value) ++ encoded code us)))
              (lt-ltb room (length ((done ++ code c.value) ++ encoded code us))
              (omega (arith, m, whole, front)))

-- ---- the answers

pub good : (room : ℕ) (l : List ℕ) → length l ≤ room → fitted room (some l) ≡ Ok l
good room l h = ap (λ (t : Bool). converted t (some l)) (le-ltb room (length l) h)

pub long : (first : List ℕ → Char) (code : ℕ → List ℕ) (l : List ℕ)
    → Err (cond (well_formed first l) Input Text) ≡ converted true (recoded first code l)
long first code l = by (decoded first l)
  where
    by : (d : Option (List ℕ))
        → Err (cond (is_some d) Input Text) ≡ converted true (encoded_if code d)
    by none = refl
    by (some vs) = refl
