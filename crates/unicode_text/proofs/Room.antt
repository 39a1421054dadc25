-- A room that is blank behind what is put there: at the start, and after one more piece.
-- Assumes nothing.
use mathlib.Core.List.{List, [], ◌++◌}
use mathlib.Core.Path.{◌≡◌, refl, sym, ap, ◌∙◌}
use Prim.Native.Nat.{ℕ, ◌+◌, ◌-◌, ◌≤◌}
use borrow.Rule.Slice.PartMut.{put_mid}
use native.Mathlib.Omega.{arith}
use lib.ListN.{length, take, drop, replicate, length-append, length-replicate}
use lib.ListN.{take-append-drop}
use lib.Seq.{drop-drop, drop_at}
use Rattle.std.proofs.lemmas.Slice.{take-put_mid, drop-put_mid}
use Rattle.octets.specs.Parts.{over, fixed}
use Rattle.octets.proofs.Parts.{over_fits, length_fixed}
use Rattle.unicode_text.specs.Inner.{size_back}

pub begun_blank : (n : ℕ) → replicate n 0 ≡ fixed n []
unfolding over
begun_blank n = refl

-- what is laid over zeros, and the zeros behind it
laid : (n : ℕ) (l : List ℕ) → length l ≤ n → fixed n l ≡ l ++ drop (length l) (replicate n 0)
laid n l h = over_fits l (replicate n 0) (omega (arith, length-replicate {A = ℕ} n 0))

-- the same behind what is put there
behind : (n size more : ℕ) (octets : List ℕ) → (size ≤ n) × (octets ≡ fixed n (take size octets))
    → drop (size + more) octets ≡ drop (size + more) (replicate n 0)
behind n size more octets h =
    let done = take size octets in
    let count = size_back n size octets h in
    let zeros = drop (length done) (replicate n 0) in
    sym (drop-drop more size octets)
    ∙ ap (λ (l : List ℕ). drop more (drop size l)) (h.1 ∙ laid n done (omega (arith, count, h.0)))
    ∙ ap (drop more) (drop_at done zeros size count)
    ∙ ap (λ (k : ℕ). drop more (drop k (replicate n 0))) count
    ∙ drop-drop more size (replicate n 0)

-- one more piece, put behind what is there
pub more_blank : (n size : ℕ) (octets piece put : List ℕ) → (size ≤ n) × (octets ≡ fixed n (take size octets))
    → size + length piece ≤ n → put ≡ piece
    → put_mid size (size + length piece - size) octets put
    ≡ fixed n (take (size + length piece) (put_mid size (size + length piece - size) octets put))
more_blank n size octets piece put h fits same =
    let end = size + length piece in
    let k = size + length piece - size in
    let new = put_mid size k octets put in
    let count = ap length same in
    let room = ap length h.1 ∙ length_fixed n (take size octets) in
    let inside : size ≤ length octets = omega (arith, room, h.0) in
    let front = take-put_mid size k octets put end (omega (arith, count)) inside in
    let done = length-append (take size octets) put in
    let long : length (take end new) ≡ end = ap length front ∙ done ∙ omega (arith, count, size_back n size octets h) in
    sym (take-append-drop end new)
    ∙ ap (λ (l : List ℕ). take end new ++ l)
    (drop-put_mid size k octets put end (omega arith) inside (omega (arith, count)) ∙ behind n size (length piece) octets h)
    ∙ ap (λ (m : ℕ). take end new ++ drop m (replicate n 0)) (sym long)
    ∙ sym (laid n (take end new) (omega (arith, long, fits)))
