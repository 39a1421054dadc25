-- The first line of `acctsum`'s input, and what follows from it.
-- Assumes nothing.
use mathlib.Core.Bool.{Bool, true, false, cond, ◌&&◌, and-false}
use mathlib.Core.List.{List}
use mathlib.Core.Path.{◌≡◌, refl, sym, ap, ap₂, ◌∙◌}
use Prim.Native.Nat.{ℕ, ◌≤◌, ◌<◌}
use native.Mathlib.Omega.{arith}
use borrow.Author.Tests.{le-leb, lt-leb, lt-ltb, le-ltb}
use lib.Arith.{lt_of_le-ne}
use lib.Dec.{leb}
use lib.ListN.{length}
use Rattle.octets.specs.Split.{holds, before, behind}
use Rattle.octets.proofs.Split.{place, held, place_le}
use Rattle.smbpasswd.specs.Line.{lf}
use Rattle.smbpasswd.specs.Summary.{space, is_number, value_of, is_head, longest_input, counts_of}
use Rattle.smbpasswd.specs.Summary.{summary_of}
use Rattle.smbpasswd.specs.Inner.{number_in}
use Rattle.smbpasswd.specs.declared.Counts.{Counts}
use Rattle.refusals.specs.declared.Refusal.TheVariants as refusal
use Rattle.std.specs.Prelude.{Some, None, Ok, Err}

-- ---- a number, by what was read

pub record Valued (s : List ℕ) (v : ℕ) : Type 0 where
  pub is : is_number s ≡ true
  pub value : v ≡ value_of s

pub valued : (s : List ℕ) {v : ℕ} → Some v ≡ number_in s → Valued s v
valued s {v} e = by (is_number s) refl e
  where
    by : (b : Bool) → is_number s ≡ b → Some v ≡ cond b (Some (value_of s)) None → Valued s v
    by true i g = record { is = i; value = cc }
    by false i g = absurd (let z : ◌≡◌ {A = ℕ} 0 1 = cc in omega arith)

pub not_valued : (s : List ℕ) → None ≡ number_in s → is_number s ≡ false
not_valued s e = by (is_number s) refl e
  where
    by : (b : Bool) → is_number s ≡ b → None ≡ cond b (Some (value_of s)) None → is_number s ≡ false
    by true i g = absurd (let z : ◌≡◌ {A = ℕ} 0 1 = cc in omega arith)
    by false i g = i

-- ---- the summary

module _ (input : List ℕ) where
  abbrev head : List ℕ
  head = before lf input

  pub too_long : longest_input < length input → Err refusal.Line ≡ summary_of input
  unfolding summary_of
  too_long h = rw (lt-leb (length input) longest_input h)

  -- another first line
  no_head : is_head head ≡ false → Err refusal.Line ≡ summary_of input
  unfolding summary_of
  no_head e = rw (e, and-false (leb (length input) longest_input))

  pub no_space : length head ≡ length (before space head) → Err refusal.Line ≡ summary_of input
  no_space e =
      no_head (ap (λ (t : Bool). t && (is_number (before space head) && is_number (behind space head)))
      (held space head ∙ le-ltb (place space head) (length head) (omega arith)))

  pub bad_first : is_number (before space head) ≡ false → Err refusal.Line ≡ summary_of input
  bad_first e =
      no_head (ap (λ (t : Bool). holds space head && (t && is_number (behind space head))) e ∙ and-false (holds space head))

  pub bad_second : is_number (behind space head) ≡ false → Err refusal.Line ≡ summary_of input
  bad_second e =
      no_head (ap (λ (t : Bool). holds space head && (is_number (before space head) && t)) e
      ∙ ap (λ (t : Bool). holds space head && t) (and-false (is_number (before space head))) ∙ and-false (holds space head))

  pub summed : length input ≤ longest_input → (length head ≡ length (before space head) → ⊥)
      → {now max_age : ℕ} → Valued (before space head) now → Valued (behind space head) max_age
      → {k : Counts} → k ≡ counts_of now max_age (behind lf input)
      → Ok k ≡ summary_of input
  unfolding summary_of
  summed short there {now} {max_age} a b {k} e =
      let s : holds space head ≡ true = held space head ∙ lt-ltb (place space head) (length head)
      (lt_of_le-ne (place_le space head) (λ z. there (sym z))) in
      rw (le-leb (length input) longest_input short, s, a.is, b.is)
      (ap (λ (x : Counts). Ok x)
      (e ∙ ap₂ (λ (x y : ℕ). counts_of x y (behind lf input)) a.value b.value))
