use mathlib.Core.List.{List}
use mathlib.Core.Path.{◌≡◌, refl, sym, ap, ◌∙◌, subst}
use Prim.Native.Nat.{ℕ, suc, ◌*◌, ◌^◌, ◌≤◌, ◌<◌}
use native.Mathlib.Nat.{zero-add}
use native.Mathlib.Numerals.{add-one}
use native.Mathlib.Omega.{arith}
use lib.Dec.{lit<}
use lib.ListN.{length, take, get_or}
use lib.Seq.{take_all}
use borrow.Author.Rules.{rules}
use Rattle.octets.specs.Numbers.{to_le}
use Rattle.octets.specs.Parts.{over, over_at}
use Rattle.octets.proofs.Numbers.{Below}
use Rattle.octets.proofs.Laid.{join, filled}
use Rattle.octets.proofs.Parts.{length_over_at}
use Rattle.des.specs.Stored.{keys_in}
use Rattle.credentials.specs.Credentials.{encode_keys}
use Rattle.credentials.proofs.KeyOctets.{length_encoded, encoded_more, length_encoded_front}
use Rattle.credentials.proofs.KeyOctets.{keys_in_back, below_more}
use Rattle.credentials.proofs.key_octets.Goals as goal

-- one more number laid behind those before it
laid : (i : ℕ) (keys r₀ : List ℕ) {r b : List ℕ} → i < length keys
    → r ≡ over_at 0 (encode_keys (take i keys)) r₀ → b ≡ over_at (8 * i) (to_le 8 (get_or keys i 0)) r
    → b ≡ over_at 0 (encode_keys (take (suc i) keys)) r₀
laid i keys r₀ {r} {b} h e f =
    join 0 (encode_keys (take i keys)) (to_le 8 (get_or keys i 0)) r₀
    (length_encoded_front i keys (omega arith)) e
    (f ∙ ap (λ (k : ℕ). over_at k (to_le 8 (get_or keys i 0)) r) (sym (zero-add (8 * i))))
    ∙ ap (λ (l : List ℕ). over_at 0 l r₀) (sym (encoded_more i keys h))

-- all of them
all_laid : (i : ℕ) (keys r₀ : List ℕ) {r : List ℕ} → length keys ≤ i → length keys ≡ 48
    → length r₀ ≡ 384 → r ≡ over_at 0 (encode_keys (take i keys)) r₀ → r ≡ encode_keys keys
all_laid i keys r₀ h n m e =
    e ∙ ap (λ (l : List ℕ). over_at 0 (encode_keys l) r₀) (take_all i keys h)
    ∙ filled (encode_keys keys) r₀ (m ∙ sym (length_encoded keys ∙ ap (λ (k : ℕ). 8 * k) n))

pub loop-i-init : goal.loop-i-init
unfolding encode_keys over
loop-i-init c = (refl, refl, refl, λ i. lit< tt)

pub loop-i-preserved : goal.loop-i-preserved
loop-i-preserved c =
    let keys = c.args.keys in
    let numbers : length keys ≡ 48 = search rules in
    let i = c.loop-i.i in
    let v = c.loop-i.invariant in (
      v.0,
      ap length c.copy_at.ensures ∙ length_over_at (8 * i) _ c.loop-i.octets ∙ v.1,
      rw (add-one i) (laid i keys _ (omega arith) v.2
          (c.copy_at.ensures ∙ ap (λ (l : List ℕ). over_at (8 * i) l c.loop-i.octets) c.eight_octets.ensures.0)),
      rw (add-one i) (below_more i keys (omega arith) v.3 c.eight_octets.ensures.1),
    )

pub returns : goal.returns
returns c =
    let keys = c.args.keys in
    let numbers : length keys ≡ 48 = search rules in
    let i = c.loop-i.i in
    let v = c.loop-i.invariant in
    let whole = all_laid i keys _ (omega arith) numbers v.0 v.2 in (
      whole,
      ap keys_in whole ∙ keys_in_back keys numbers
          (subst (Below (2 ^ 64)) (take_all i keys (omega arith)) v.3),
    )
