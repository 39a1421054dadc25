-- A record's head, or an answer's, and the bytes of round keys, laid into a buffer of the right
-- size: what is there then is the two, one behind the other.
-- Assumes nothing.
use mathlib.Core.List.{List, [], ◌∷◌, ◌++◌}
use mathlib.Core.Path.{◌≡◌, refl, sym, ap, ◌∙◌}
use Prim.Native.Nat.{ℕ, zero, suc, ◌+◌, ◌≤◌}
use native.Mathlib.Omega.{arith}
use lib.ListN.{length, take, drop, length-drop}
use lib.Seq.{take_all, take-take, drop-drop, drop_at}
use Rattle.octets.specs.Parts.{part, over, over_at}
use Rattle.octets.proofs.Parts.{over_fits, length_part}
use Rattle.octets.proofs.Laid.{first, next, laid_whole}
use Rattle.accounts.specs.declared.EntryLookup.{EntryLookup}
use Rattle.layouts.specs.Keys.{both_keys_size}
use Rattle.layouts.specs.Records.{record_head_size, record_size, record_head, record_keys}
use Rattle.layouts.proofs.RecordLaws.{SizedEntry, length_head}

-- both laid over
pub both_laid : (head keys out : List ℕ) {b c : List ℕ} (n k : ℕ) → length head ≡ n
    → length keys ≡ k → length out ≡ n + k → b ≡ over head out → c ≡ over_at n keys b
    → c ≡ head ++ keys
both_laid head keys out n k e f g p q = laid_whole (next (first n e p) keys k f q) g

-- the round keys of a record that has the size of one
pub length_record_keys : (bytes : List ℕ) → length bytes ≡ record_size
    → length (record_keys bytes) ≡ both_keys_size
length_record_keys bytes e = length_part record_head_size both_keys_size bytes (omega (arith, e))

-- another head laid over a record leaves its round keys
pub head_over : (l : EntryLookup) (bytes : List ℕ) → SizedEntry l.entry
    → length bytes ≡ record_size → over (record_head l) bytes ≡ record_head l ++ record_keys bytes
head_over l bytes s e =
    let n = length_head l s in
    over_fits (record_head l) bytes (omega (arith, e, n))
    ∙ ap (λ (k : ℕ). record_head l ++ drop k bytes) n
    ∙ ap (λ (x : List ℕ). record_head l ++ x)
    (sym (take_all both_keys_size (drop record_head_size bytes)
    (omega (arith, length-drop record_head_size bytes, e))))

-- ---- the round keys behind a head

-- a part of a part
taken : (a n m : ℕ) (l : List ℕ) → a + n ≤ m → part a n (take m l) ≡ part a n l
taken zero n m l h = take-take n m l (omega arith)
taken (suc a) n zero l h = absurd (omega arith)
taken (suc a) n (suc m) [] h = refl
taken (suc a) n (suc m) (x ∷ l) h = taken a n m l (omega arith)

pub part_of_part : (a n b m : ℕ) (l : List ℕ) → a + n ≤ m
    → part a n (part b m l) ≡ part (b + a) n l
part_of_part a n b m l h = taken a n m (drop b l) h ∙ ap (take n) (drop-drop a b l)

-- what stands behind a head
pub part_behind : (a n k : ℕ) (head keys : List ℕ) → length head ≡ k
    → part (k + a) n (head ++ keys) ≡ part a n keys
part_behind a n k head keys e =
    ap (take n) (sym (drop-drop a k (head ++ keys)) ∙ ap (drop a) (drop_at head keys k e))
