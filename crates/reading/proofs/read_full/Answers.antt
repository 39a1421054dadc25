-- `reading::read_full` meets its contract: what a read gives stands behind what was read before.
-- Assumes nothing.
use Rattle.std.proofs.Common.{◌≡◌, ℕ, ◌+◌, ◌-◌, ◌≤◌, List, ◌++◌, length, take, refl, sym, ap, ◌∙◌}
use Rattle.std.proofs.Common.{append_assoc, arith, rules}
use Rattle.std.specs.Prelude.{Option, Some, None}
use Rattle.std.specs.Io.KnownBytes.{Consumes}
use Rattle.std.proofs.lemmas.List.{take-take, length-take}
use Rattle.std.proofs.lemmas.Slice.{take-put_mid}
use Rattle.std.proofs.Math.Seq.{take-append-add}
use borrow.Rule.Slice.PartMut.{put_mid}
use Rattle.reading.proofs.read_full.Goals as goal

-- what two reads consume, the one behind the other
consumes_on : (a b d : Option (List ℕ)) (xs ys : List ℕ) → Consumes a b xs → Consumes b d ys → Consumes a d (xs ++ ys)
consumes_on None b d xs ys h k = tt
consumes_on (Some us) None d xs ys h k = absurd h
consumes_on (Some us) (Some vs) None xs ys h k = absurd k
consumes_on (Some us) (Some vs) (Some ws) xs ys h k = h ∙ ap (λ (l : List ℕ). xs ++ l) k ∙ sym (append_assoc xs ys ws)

-- the front of a buffer of which a part was written anew
front : (n k count : ℕ) (xs ys : List ℕ) → n ≤ length xs → count ≤ length ys
    → take (n + count) (put_mid n k xs ys) ≡ take n xs ++ take count ys
front n k count xs ys h c =
    let whole = take-put_mid n k xs ys (n + length ys) refl h in
    let long : length (take n xs) ≡ n = length-take n xs ∙ omega arith in
    sym (take-take (n + count) (n + length ys) (put_mid n k xs ys) (omega arith))
    ∙ ap (take (n + count)) whole
    ∙ ap (λ (i : ℕ). take (i + count) (take n xs ++ ys)) (sym long)
    ∙ take-append-add (take n xs) ys count

pub loop-n-preserved : goal.loop-n-preserved
loop-n-preserved g c =
    let b = c.loop-n.buffer in
    let gave = c.in_ok-count.ensures {u = tt} in
    let f = front c.loop-n.n (length b - c.loop-n.n) c.in_ok-count.count b c.read.new.buf c.loop-n.invariant.within gave.bound.0 in
    record {
      within = search rules;
      octets = rw f (consumes_on _ _ _ _ _ c.loop-n.invariant.octets gave.bytes.0);
    }
