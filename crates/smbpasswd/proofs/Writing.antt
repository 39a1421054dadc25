-- A record written into its line, field by field: the line that the definition says, and nothing
-- else of the file.
-- Assumes nothing.
use mathlib.Core.Bool.{Bool, true, false, cond}
use mathlib.Core.List.{List, [], ◌∷◌, ◌++◌, append_assoc}
use mathlib.Core.Path.{◌≡◌, sym, ap, ap₂, ◌∙◌}
use Prim.Native.Nat.{ℕ, ◌+◌}
use native.Mathlib.Omega.{arith}
use lib.ListN.{length, take, drop, replicate, length-append, length-drop, length-replicate}
use lib.ListN.{take-append-drop}
use lib.Seq.{take_at, drop_at, drop-drop, length-take-le}
use Rattle.octets.specs.Digits.{hex_text}
use Rattle.octets.specs.Numbers.{to_be}
use Rattle.octets.specs.Parts.{over, over_at}
use Rattle.octets.proofs.HexText.{length_hex}
use Rattle.octets.proofs.Numbers.{length_digits}
use Rattle.octets.proofs.Parts.{over_fits, agrees_equal}
use Rattle.octets.proofs.Split.{take_place, joined}
use Rattle.accounts.specs.declared.Account.{Account}
use Rattle.accounts.specs.declared.Hash.{Hash}
use Rattle.smbpasswd.specs.Line.{lf, colon, letter_x, lct, from_field, field, closed}
use Rattle.smbpasswd.specs.File.{line_at}
use Rattle.smbpasswd.specs.Write.{hash_text, changed_line, with_line}
use Rattle.smbpasswd.specs.Inner.{column, IsLine}
use Rattle.smbpasswd.proofs.Digits.{hash_length, TimeDigits, time_digits}
use Rattle.smbpasswd.proofs.FieldLaws.{both, form, field_column}

-- ---- a copy in the middle

pub over_middle : (p y q x : List ℕ) (k : ℕ) → length p ≡ k → length x ≡ length y → over_at k x (p ++ (y ++ q)) ≡ p ++ (x ++ q)
over_middle p y q x k e g =
    ap₂ (λ (a b : List ℕ). a ++ over x b) (take_at p (y ++ q) k e) (drop_at p (y ++ q) k e)
    ∙ ap (λ (b : List ℕ). p ++ b)
    (over_fits x (y ++ q) (omega (arith, length-append y q)) ∙ ap (λ (b : List ℕ). x ++ b) (drop_at y q (length x) (sym g)))

-- ---- a line as its fields

-- six fields, each closed by a colon, and the rest
abbrev pub line_of : (name uid lm nt flags time rest : List ℕ) → List ℕ
line_of name uid lm nt flags time rest =
    name ++ colon ∷ (uid ++ colon ∷ (lm ++ colon ∷ (nt ++ colon ∷ (flags ++ colon ∷ (time ++ colon ∷ rest)))))

pub line_fields : (l : List ℕ) → closed 6 l ≡ true
    → line_of (field 0 l) (field 1 l) (field 2 l) (field 3 l) (field 4 l) (field 5 l) (from_field 6 l) ≡ l
line_fields l e6 =
    let e5 = both e6 in
    let e4 = both e5.0 in
    let e3 = both e4.0 in
    let e2 = both e3.0 in
    let e1 = both e2.0 in
    let j5 = joined colon (from_field 5 l) e5.1 in
    let j4 = joined colon (from_field 4 l) e4.1 in
    let j3 = joined colon (from_field 3 l) e3.1 in
    let j2 = joined colon (from_field 2 l) e2.1 in
    let j1 = joined colon (from_field 1 l) e1.1 in
    let j0 = joined colon l e1.0 in
    ap (λ (x : List ℕ). field 0 l ++ colon ∷ x)
    (ap (λ (x : List ℕ). field 1 l ++ colon ∷ x)
    (ap (λ (x : List ℕ). field 2 l ++ colon ∷ x)
    (ap (λ (x : List ℕ). field 3 l ++ colon ∷ x)
    (ap (λ (x : List ℕ). field 4 l ++ colon ∷ x) j5 ∙ j4) ∙ j3) ∙ j2) ∙ j1) ∙ j0

-- ---- the three copies

module _ (p name uid lm nt flags digits rest q lm' nt' digits' : List ℕ) (m : length lm' ≡ length lm) (n : length nt' ≡ length nt)
    (d : length digits' ≡ length digits) where
  -- what stands before the LM hash, before the NT hash and before the digits of the time
  front : List ℕ
  front = p ++ (name ++ colon ∷ (uid ++ colon ∷ []))

  middle : List ℕ
  middle = front ++ (lm' ++ colon ∷ [])

  last : List ℕ
  last = middle ++ (nt' ++ colon ∷ (flags ++ colon ∷ lct))

  pub three_copies : (a b c : ℕ) → a ≡ length p + (length name + 1 + length uid + 1) → b ≡ a + length lm + 1
      → c ≡ b + length nt + 1 + length flags + 1 + 4
      → over_at c digits' (over_at b nt' (over_at a lm' (p ++ (line_of name uid lm nt flags (lct ++ digits) rest ++ q))))
      ≡ p ++ (line_of name uid lm' nt' flags (lct ++ digits') rest ++ q)
  unfolding front middle last
  three_copies a b c ea eb ec =
      let ends = colon ∷ (rest ++ q) in
      let after-nt = colon ∷ (flags ++ colon ∷ (lct ++ (digits ++ ends))) in
      let after-lm = colon ∷ (nt ++ after-nt) in
      let lf : length front ≡ a = simp length-append (omega arith) in
      let lmid : length middle ≡ b = simp length-append (omega arith) in
      let llast : length last ≡ c = simp length-append (omega arith) in
      let first : p ++ (line_of name uid lm nt flags (lct ++ digits) rest ++ q) ≡ front ++ (lm ++ after-lm) = simp append_assoc in
      let second : front ++ (lm' ++ after-lm) ≡ middle ++ (nt ++ after-nt) = simp append_assoc in
      let third : middle ++ (nt' ++ after-nt) ≡ last ++ (digits ++ ends) = simp append_assoc in
      let done : last ++ (digits' ++ ends) ≡ p ++ (line_of name uid lm' nt' flags (lct ++ digits') rest ++ q) = simp append_assoc in
      ap (λ (x : List ℕ). over_at c digits' (over_at b nt' (over_at a lm' x))) first
      ∙ ap (λ (x : List ℕ). over_at c digits' (over_at b nt' x)) (over_middle front lm after-lm lm' a lf m ∙ second)
      ∙ ap (over_at c digits') (over_middle middle nt after-nt nt' b lmid n ∙ third)
      ∙ over_middle last digits ends digits' c llast d
      ∙ done

-- ---- the line in the file

pub line_split : (f : List ℕ) (at : ℕ) → take at f ++ (line_at at f ++ drop (at + length (line_at at f)) f) ≡ f
line_split f at =
    let k = length (line_at at f) in
    ap (λ (x : List ℕ). take at f ++ x)
    (ap₂ (λ (x y : List ℕ). x ++ y) (sym (take_place lf (drop at f))) (sym (drop-drop k at f)) ∙ take-append-drop k (drop at f))
    ∙ take-append-drop at f

pub hash_text_length : (h : Hash) → length h.octets ≡ 16 → length (hash_text h) ≡ 32
hash_text_length h e = by h.present
  where
    by : (b : Bool) → length (cond b (hex_text h.octets) (replicate 32 letter_x)) ≡ 32
    by true = omega (arith, length_hex h.octets)
    by false = length-replicate 32 letter_x

pub time_text_length : (now : ℕ) → length (hex_text (to_be 4 now)) ≡ 8
time_text_length now = omega (arith, length_hex (to_be 4 now), length_digits 8 4 now)

-- the time's field begins with LCT-
pub time_front : (f : List ℕ) → TimeDigits f → f ≡ lct ++ drop 4 f
time_front f d = sym (take-append-drop 4 f) ∙ ap (λ (x : List ℕ). x ++ drop 4 f) (agrees_equal (take 4 f) lct d.front)

-- where the fields begin
columns : (l : List ℕ) → (column 2 l ≡ length (field 0 l) + 1 + length (field 1 l) + 1) × (column 3 l ≡ column 2 l + length (field 2 l) + 1)
    × (column 5 l ≡ column 3 l + length (field 3 l) + 1 + length (field 4 l) + 1)
unfolding column
columns l = omega (arith, ap length (field_column 1 l), ap length (field_column 2 l), ap length (field_column 3 l), ap length (field_column 4 l))

pub written_line : (f : List ℕ) (at : ℕ) → IsLine at f → (a : Account) (now : ℕ) → length a.lm.octets ≡ 16 → length a.nt.octets ≡ 16
    → over_at (at + column 5 (line_at at f) + 4) (hex_text (to_be 4 now))
    (over_at (at + column 3 (line_at at f)) (hash_text a.nt) (over_at (at + column 2 (line_at at f)) (hash_text a.lm) f))
    ≡ with_line at (changed_line a now (line_at at f)) f
unfolding changed_line
written_line f at i a now elm ent =
    let l = line_at at f in
    let w = form l i.account in
    let t = time_digits (field 5 l) w.time in
    let k = columns l in
    let p = take at f in
    let q = drop (at + length l) f in
    let lp : length p ≡ at = length-take-le at f (omega (arith, i.within)) in
    let whole : f ≡ p ++ (line_of (field 0 l) (field 1 l) (field 2 l) (field 3 l) (field 4 l) (lct ++ drop 4 (field 5 l)) (from_field 6 l) ++ q) =
    sym (line_split f at) ∙ ap (λ (x : List ℕ). p ++ (x ++ q))
    (sym (line_fields l w.all) ∙ ap (λ (x : List ℕ). line_of (field 0 l) (field 1 l) (field 2 l) (field 3 l) (field 4 l) x
    (from_field 6 l)) (time_front (field 5 l) t)) in
    ap (λ (x : List ℕ). over_at (at + column 5 l + 4) (hex_text (to_be 4 now))
    (over_at (at + column 3 l) (hash_text a.nt) (over_at (at + column 2 l) (hash_text a.lm) x))) whole
    ∙ three_copies p (field 0 l) (field 1 l) (field 2 l) (field 3 l) (field 4 l) (drop 4 (field 5 l)) (from_field 6 l) q
    (hash_text a.lm) (hash_text a.nt) (hex_text (to_be 4 now))
    (hash_text_length a.lm elm ∙ sym (hash_length (field 2 l) w.lm)) (hash_text_length a.nt ent ∙ sym (hash_length (field 3 l) w.nt))
    (omega (arith, time_text_length now, t.long, length-drop 4 (field 5 l)))
    (at + column 2 l) (at + column 3 l) (at + column 5 l + 4) (omega arith) (omega arith) (omega arith)
