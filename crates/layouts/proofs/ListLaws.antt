-- The layout of a list of issued challenges: a list that draws no 24 is decoded as it was encoded,
-- its counts too, which are not in it.
-- Assumes nothing.
use mathlib.Core.Path.{◌≡◌, refl, sym, ap, ap₂, ◌∙◌}
use mathlib.Core.Bool.{Bool, true, false, cond, not, ◌&&◌}
use mathlib.Core.List.{List, []}
use Prim.Native.Nat.{ℕ, ◌%◌, ◌≤◌}
use native.Mathlib.Omega.{arith}
use borrow.Author.Tests.{le-ltb}
use lib.ListN.{length, replicate}
use Rattle.octets.specs.Parts.{agrees}
use Rattle.octets.proofs.Parts.{agrees_refl, agrees_equal}
use Rattle.octets.proofs.Numbers.{from_be-to_be}
use Rattle.issued.specs.Issued.{Issued, bad_buffer, bad_counts, listed, counts_of}
use Rattle.issued.specs.Issued.{true_counts, octet_values}
use Rattle.issued.proofs.Spending.{sound}
use Rattle.layouts.specs.Values.{list_kind, tagged}
use Rattle.layouts.specs.Lists.{encode_list, decode_list, is_list}

pub issued_same : {b b' : List ℕ} {u u' : ℕ} {k k' : List ℕ} → b ≡ b' → u ≡ u' → k ≡ k'
    → ◌≡◌ {A = Issued} (record { buffer = b; used = u; counts = k })
    (record { buffer = b'; used = u'; counts = k' })
issued_same e₁ e₂ e₃ = cc

turned : (b : Bool) → not b ≡ false → b ≡ true
turned true e = refl
turned false e = sym e

module _ (i : Issued) (good : bad_buffer 8 i.buffer i.used ≡ false)
    (counted : bad_counts 8 i ≡ false) where
  counts : counts_of (listed 8 i) ≡ i.counts
  counts =
      agrees_equal (counts_of (listed 8 i)) i.counts
      (turned (agrees (counts_of (listed 8 i)) i.counts) counted)

  pub list_back : (is_list (encode_list i) ≡ true) × (decode_list (encode_list i) ≡ i)
  unfolding is_list
  list_back =
      let g = sound 8 i.buffer i.used good in
      let small : i.used % 65536 ≡ i.used = omega (arith, g.few, g.fits) in
      let used = from_be-to_be 2 i.used ∙ small in
      let long : 4 ≤ length (encode_list i) = omega arith in (
        ap₂ (λ (t u : Bool). not t && u) (le-ltb (length (encode_list i)) 4 long)
            (agrees_refl (tagged list_kind [])),
        issued_same refl used
            (ap (λ (n : ℕ). true_counts 8 n i.buffer) used
            ∙ ap (λ (t : Bool). cond t (replicate octet_values 0) (counts_of (listed 8 i))) good
            ∙ counts),
      )
