-- The line with a record written into it: its fields, its form, and what is read in it.
-- Assumes nothing.
use mathlib.Core.Bool.{Bool, true, false, cond, ◌&&◌, ◌||◌, false≢true}
use mathlib.Core.List.{List, [], ◌∷◌, ◌++◌, map}
use mathlib.Core.Path.{◌≡◌, refl, sym, ap, ap₂, ◌∙◌}
use Prim.Native.Nat.{ℕ, ◌+◌, ◌/◌, ◌%◌, ◌≤◌, ◌<◌, ◌^◌}
use native.Mathlib.Omega.{arith}
use borrow.Author.Tests.{ne_eqb, eq-eqb, lt-ltb, ltb-true, ltb-false, leb-true}
use lib.Dec.{eqb, ltb}
use lib.ListN.{length, take, drop, get_or, replicate, length-append}
use Rattle.octets.specs.Digits.{digit_of, hex_of, all_below, pairs, hex_text}
use Rattle.octets.specs.Numbers.{from_be, to_be}
use Rattle.octets.specs.Parts.{agrees}
use Rattle.octets.specs.Split.{holds, before, behind}
use Rattle.octets.proofs.Digits.{digit_back}
use Rattle.octets.proofs.HexText.{length_hex, hex_back}
use Rattle.octets.proofs.Numbers.{Octets, from_be-to_be, octets-to_be}
use Rattle.octets.proofs.Split.{cut, before_free, holds_append}
use Rattle.accounts.specs.Account.{no_hash, hash_of, account_with}
use Rattle.accounts.specs.declared.Account.{Account}
use Rattle.accounts.specs.declared.Hash.{Hash}
use Rattle.smbpasswd.specs.Line.{lf, number_sign, colon, letter_d, letter_x, no_password}
use Rattle.smbpasswd.specs.Line.{from_field, field, closed, is_name, is_absent, is_hash, is_flags}
use Rattle.smbpasswd.specs.Line.{is_time, is_uid, is_comment, is_account}
use Rattle.smbpasswd.specs.Record.{hash_in, has_flag, time_in, is_expired, account_in}
use Rattle.smbpasswd.specs.Write.{hash_text, time_text, changed_line}
use Rattle.smbpasswd.proofs.FieldLaws.{both, Form, of_form}
use Rattle.smbpasswd.proofs.Writing.{line_of, line_fields, hash_text_length, time_text_length}
use Rattle.smbpasswd.proofs.Digits.{hash_length, time_digits}

-- ---- digits that are written

-- neither LF, colon nor X, nor the first letter of NO PASSWORD
pub record Plain (x : ℕ) : Type 0 where
  pub low : 48 ≤ x
  pub high : x ≤ 70
  pub no_colon : x ≡ colon → ⊥

hex_plain : (v : ℕ) → v < 16 → Plain (hex_of v)
unfolding hex_of
hex_plain v h = by (ltb v 10) refl
  where
    by : (b : Bool) → ltb v 10 ≡ b → Plain (cond b (v + 48) (v + 55))
    by true e = let k = ltb-true v 10 e in record { low = omega arith; high = omega arith; no_colon = λ z. omega (arith, k, z) }
    by false e = let k = ltb-false v 10 e in record { low = omega arith; high = omega arith; no_colon = λ z. omega (arith, k, z) }

-- a text of such digits does not hold an octet that none of them is
hex_free : (c : ℕ) → ((v : ℕ) → v < 16 → hex_of v ≡ c → ⊥) → (l : List ℕ) → holds c (hex_text l) ≡ false
hex_free c avoid [] = refl
hex_free c avoid (x ∷ l) =
    ap₂ ◌||◌ (ne_eqb (hex_of (x / 16 % 16)) c (avoid (x / 16 % 16) (omega arith)))
    (ap₂ ◌||◌ (ne_eqb (hex_of (x % 16)) c (avoid (x % 16) (omega arith))) (hex_free c avoid l))

no_colon_lem : (l : List ℕ) → holds colon (hex_text l) ≡ false
no_colon_lem l = hex_free colon (λ v h. (hex_plain v h).no_colon) l

no_lf : (l : List ℕ) → holds lf (hex_text l) ≡ false
no_lf l = hex_free lf (λ v h z. omega (arith, (hex_plain v h).low, z)) l

hex_digits : (l : List ℕ) → all_below 16 (map digit_of (hex_text l)) ≡ true
hex_digits [] = refl
hex_digits (x ∷ l) =
    ap₂ ◌&&◌ (ap (λ (d : ℕ). ltb d 16) (digit_back (x / 16 % 16) (omega arith)) ∙ lt-ltb (x / 16 % 16) 16 (omega arith))
    (ap₂ ◌&&◌ (ap (λ (d : ℕ). ltb d 16) (digit_back (x % 16) (omega arith)) ∙ lt-ltb (x % 16) 16 (omega arith)) (hex_digits l))

-- ---- a hash

-- 16 octets
pub record IsHash (h : Hash) : Type 0 where
  pub long : length h.octets ≡ 16
  pub octets : Octets h.octets

-- the octets of an absent hash are not kept
abbrev pub kept : Hash → Hash
kept h = cond h.present (hash_of h.octets) no_hash

not_absent : (l : List ℕ) → length l ≡ 16 → is_absent (hex_text l) ≡ false
unfolding agrees
not_absent [] e = absurd (omega (arith, e))
not_absent (x ∷ l) e =
    let p = hex_plain (x / 16 % 16) (omega arith) in
    ap₂ ◌||◌
    (ap (λ (t : Bool). t && true) (ne_eqb (hex_of (x / 16 % 16)) letter_x (λ z. omega (arith, p.high, z))))
    (ap (λ (t : Bool). t && agrees (take 10 (hex_of (x % 16) ∷ hex_text l)) (drop 1 no_password))
    (ne_eqb (hex_of (x / 16 % 16)) 78 (λ z. omega (arith, p.high, z))))

module _ (h : Hash) (s : IsHash h) where
  pub text_is_hash : is_hash (hash_text h) ≡ true
  unfolding agrees
  text_is_hash = by h.present (hash_text_length h s.long)
    where
      by : (b : Bool) → length (hash_text h) ≡ 32 → is_hash (cond b (hex_text h.octets) (replicate 32 letter_x)) ≡ true
      by true e =
          ap₂ ◌&&◌ (eq-eqb (length (hex_text h.octets)) 32 (omega (arith, length_hex h.octets, s.long)))
          (ap (λ (t : Bool). is_absent (hex_text h.octets) || t) (hex_digits h.octets)
          ∙ ap (λ (t : Bool). t || true) (not_absent h.octets s.long))
      by false e = refl

  pub text_read : hash_in (hash_text h) ≡ kept h
  unfolding agrees
  text_read = by h.present
    where
      by : (b : Bool) → hash_in (cond b (hex_text h.octets) (replicate 32 letter_x)) ≡ cond b (hash_of h.octets) no_hash
      by true =
          ap (λ (t : Bool). cond t no_hash (hash_of (pairs (map digit_of (hex_text h.octets))))) (not_absent h.octets s.long)
          ∙ ap hash_of (hex_back h.octets s.octets)
      by false = refl

pub hash_free : (c : ℕ) → holds c (replicate 32 letter_x) ≡ false → ((l : List ℕ) → holds c (hex_text l) ≡ false) → (h : Hash)
    → holds c (hash_text h) ≡ false
hash_free c x rest h = by h.present
  where
    by : (b : Bool) → holds c (cond b (hex_text h.octets) (replicate 32 letter_x)) ≡ false
    by true = rest h.octets
    by false = x

-- ---- a time

pub time_read : (now : ℕ) → now < 2 ^ 32 → time_in (time_text now) ≡ now
time_read now h =
    let small : now % 2 ^ 32 ≡ now = omega arith in
    ap from_be (hex_back (to_be 4 now) (octets-to_be 4 now)) ∙ from_be-to_be 4 now ∙ small

pub text_is_time : (now : ℕ) → is_time (time_text now) ≡ true
unfolding agrees
text_is_time now = hex_digits (to_be 4 now)

-- ---- six fields and the rest

-- six lists without a colon
pub record Free (name uid lm nt flags time : List ℕ) : Type 0 where
  pub name_free : holds colon name ≡ false
  pub uid_free : holds colon uid ≡ false
  pub lm_free : holds colon lm ≡ false
  pub nt_free : holds colon nt ≡ false
  pub flags_free : holds colon flags ≡ false
  pub time_free : holds colon time ≡ false

pub record Fields (l name uid lm nt flags time rest : List ℕ) : Type 0 where
  pub all : closed 6 l ≡ true
  pub name_is : field 0 l ≡ name
  pub uid_is : field 1 l ≡ uid
  pub lm_is : field 2 l ≡ lm
  pub nt_is : field 3 l ≡ nt
  pub flags_is : field 4 l ≡ flags
  pub time_is : field 5 l ≡ time
  pub rest_is : from_field 6 l ≡ rest

-- the line that they make has them
pub fields_of : (name uid lm nt flags time rest : List ℕ) → Free name uid lm nt flags time
    → Fields (line_of name uid lm nt flags time rest) name uid lm nt flags time rest
fields_of name uid lm nt flags time rest f =
    let l = line_of name uid lm nt flags time rest in
    let r5 = time ++ colon ∷ rest in
    let r4 = flags ++ colon ∷ r5 in
    let r3 = nt ++ colon ∷ r4 in
    let r2 = lm ++ colon ∷ r3 in
    let r1 = uid ++ colon ∷ r2 in
    let c0 = cut colon name r1 f.name_free in
    let c1 = cut colon uid r2 f.uid_free in
    let c2 = cut colon lm r3 f.lm_free in
    let c3 = cut colon nt r4 f.nt_free in
    let c4 = cut colon flags r5 f.flags_free in
    let c5 = cut colon time rest f.time_free in
    let f1 : from_field 1 l ≡ r1 = c0.behind_it in
    let f2 : from_field 2 l ≡ r2 = ap (behind colon) f1 ∙ c1.behind_it in
    let f3 : from_field 3 l ≡ r3 = ap (behind colon) f2 ∙ c2.behind_it in
    let f4 : from_field 4 l ≡ r4 = ap (behind colon) f3 ∙ c3.behind_it in
    let f5 : from_field 5 l ≡ r5 = ap (behind colon) f4 ∙ c4.behind_it in
    record {
      all = ap₂ ◌&&◌ (ap₂ ◌&&◌ (ap₂ ◌&&◌ (ap₂ ◌&&◌ (ap₂ ◌&&◌ c0.holds_it
          (ap (holds colon) f1 ∙ c1.holds_it)) (ap (holds colon) f2 ∙ c2.holds_it)) (ap (holds colon) f3 ∙ c3.holds_it))
          (ap (holds colon) f4 ∙ c4.holds_it)) (ap (holds colon) f5 ∙ c5.holds_it);
      name_is = c0.before_it;
      uid_is = ap (before colon) f1 ∙ c1.before_it;
      lm_is = ap (before colon) f2 ∙ c2.before_it;
      nt_is = ap (before colon) f3 ∙ c3.before_it;
      flags_is = ap (before colon) f4 ∙ c4.before_it;
      time_is = ap (before colon) f5 ∙ c5.before_it;
      rest_is = ap (behind colon) f5 ∙ c5.behind_it;
    }

-- ---- how long they are, and whether they hold an octet

lengths : (name uid lm nt flags time rest : List ℕ)
    → length (line_of name uid lm nt flags time rest)
    ≡ length name + 1 + length uid + 1 + length lm + 1 + length nt + 1 + length flags + 1 + length time + 1 + length rest
lengths name uid lm nt flags time rest = simp length-append (omega arith)

first : (x y : List ℕ) → 1 ≤ length x → get_or (x ++ y) 0 0 ≡ get_or x 0 0
first [] y h = absurd (omega arith)
first (z ∷ x) y h = refl

-- neither of two is true
neither : (a b : Bool) → (a || b) ≡ false → (a ≡ false) × (b ≡ false)
neither true b e = absurd (false≢true (sym e))
neither false b e = (refl, e)

-- a list, a colon and another hold c where one of the lists does, if c is no colon
pub record Without (c : ℕ) (x0 x1 x2 x3 x4 x5 x6 : List ℕ) : Type 0 where
  pub c0 : holds c x0 ≡ false
  pub c1 : holds c x1 ≡ false
  pub c2 : holds c x2 ≡ false
  pub c3 : holds c x3 ≡ false
  pub c4 : holds c x4 ≡ false
  pub c5 : holds c x5 ≡ false
  pub c6 : holds c x6 ≡ false

one : (c : ℕ) (x y : List ℕ) → eqb colon c ≡ false → holds c (x ++ colon ∷ y) ≡ (holds c x || holds c y)
one c x y n = holds_append c x (colon ∷ y) ∙ ap (λ (t : Bool). holds c x || (t || holds c y)) n

colons : (c : ℕ) (x0 x1 x2 x3 x4 x5 x6 : List ℕ) → eqb colon c ≡ false → holds c (line_of x0 x1 x2 x3 x4 x5 x6) ≡ false
    → Without c x0 x1 x2 x3 x4 x5 x6
colons c x0 x1 x2 x3 x4 x5 x6 n e =
    let r5 = x5 ++ colon ∷ x6 in
    let r4 = x4 ++ colon ∷ r5 in
    let r3 = x3 ++ colon ∷ r4 in
    let r2 = x2 ++ colon ∷ r3 in
    let r1 = x1 ++ colon ∷ r2 in
    let e0 = neither (holds c x0) (holds c r1) (sym (one c x0 r1 n) ∙ e) in
    let e1 = neither (holds c x1) (holds c r2) (sym (one c x1 r2 n) ∙ e0.1) in
    let e2 = neither (holds c x2) (holds c r3) (sym (one c x2 r3 n) ∙ e1.1) in
    let e3 = neither (holds c x3) (holds c r4) (sym (one c x3 r4 n) ∙ e2.1) in
    let e4 = neither (holds c x4) (holds c r5) (sym (one c x4 r5 n) ∙ e3.1) in
    let e5 = neither (holds c x5) (holds c x6) (sym (one c x5 x6 n) ∙ e4.1) in
    record { c0 = e0.0; c1 = e1.0; c2 = e2.0; c3 = e3.0; c4 = e4.0; c5 = e5.0; c6 = e5.1 }

of_colons : (c : ℕ) (x0 x1 x2 x3 x4 x5 x6 : List ℕ) → eqb colon c ≡ false → Without c x0 x1 x2 x3 x4 x5 x6
    → holds c (line_of x0 x1 x2 x3 x4 x5 x6) ≡ false
of_colons c x0 x1 x2 x3 x4 x5 x6 n w =
    let r5 = x5 ++ colon ∷ x6 in
    let r4 = x4 ++ colon ∷ r5 in
    let r3 = x3 ++ colon ∷ r4 in
    let r2 = x2 ++ colon ∷ r3 in
    let r1 = x1 ++ colon ∷ r2 in
    one c x0 r1 n
    ∙ ap₂ ◌||◌ w.c0 (one c x1 r2 n
    ∙ ap₂ ◌||◌ w.c1 (one c x2 r3 n
    ∙ ap₂ ◌||◌ w.c2 (one c x3 r4 n
    ∙ ap₂ ◌||◌ w.c3 (one c x4 r5 n
    ∙ ap₂ ◌||◌ w.c4 (one c x5 x6 n ∙ ap₂ ◌||◌ w.c5 w.c6)))))

-- ---- the changed line

module _ (a : Account) (now : ℕ) (l : List ℕ) where
  pub changed_fields : Fields (changed_line a now l) (field 0 l) (field 1 l) (hash_text a.lm) (hash_text a.nt) (field 4 l) (time_text now)
      (from_field 6 l)
  unfolding changed_line
  changed_fields =
      fields_of (field 0 l) (field 1 l) (hash_text a.lm) (hash_text a.nt) (field 4 l) (time_text now) (from_field 6 l)
      (record {
        name_free = before_free colon l;
        uid_free = before_free colon (from_field 1 l);
        lm_free = hash_free colon refl no_colon_lem a.lm;
        nt_free = hash_free colon refl no_colon_lem a.nt;
        flags_free = before_free colon (from_field 4 l);
        time_free = no_colon_lem (to_be 4 now);
      })

  module _ (w : Form l) (slm : IsHash a.lm) (snt : IsHash a.nt) where
    pub changed_account : is_account (changed_line a now l) ≡ true
    changed_account =
        let c = changed_fields in
        of_form (changed_line a now l)
        (record {
          all = c.all;
          name = ap is_name c.name_is ∙ w.name;
          uid = ap is_uid c.uid_is ∙ w.uid;
          lm = ap is_hash c.lm_is ∙ text_is_hash a.lm slm;
          nt = ap is_hash c.nt_is ∙ text_is_hash a.nt snt;
          flags = ap is_flags c.flags_is ∙ w.flags;
          time = ap is_time c.time_is ∙ text_is_time now;
        })

    -- what is read in it: hashes and time are those written, the flags are those of the line
    pub changed_read : now < 2 ^ 32 → (later max_age : ℕ)
        → account_in later max_age (changed_line a now l)
        ≡ account_with (kept a.nt) (kept a.lm) (has_flag letter_d (field 4 l)) false false
        (is_expired later max_age (has_flag letter_x (field 4 l)) now)
    unfolding account_in
    changed_read small later max_age =
        let c = changed_fields in
        let ent = ap hash_in c.nt_is ∙ text_read a.nt snt in
        let elm = ap hash_in c.lm_is ∙ text_read a.lm slm in
        let et = ap time_in c.time_is ∙ time_read now small in
        ap₂ (λ (x y : Hash). account_with x y (has_flag letter_d (field 4 (changed_line a now l))) false false
        (is_expired later max_age (has_flag letter_x (field 4 (changed_line a now l))) (time_in (field 5 (changed_line a now l))))) ent elm
        ∙ ap₂ (λ (x : List ℕ) (t : ℕ). account_with (kept a.nt) (kept a.lm) (has_flag letter_d x) false false
        (is_expired later max_age (has_flag letter_x x) t))
        c.flags_is et

    pub changed_length : length (changed_line a now l) ≡ length l
    unfolding changed_line
    changed_length =
        let t = time_digits (field 5 l) w.time in
        let whole = ap length (line_fields l w.all) in
        let elm = hash_text_length a.lm slm.long ∙ sym (hash_length (field 2 l) w.lm) in
        let ent = hash_text_length a.nt snt.long ∙ sym (hash_length (field 3 l) w.nt) in
        let etime : length (time_text now) ≡ length (field 5 l) = omega (arith, time_text_length now, t.long) in
        lengths (field 0 l) (field 1 l) (hash_text a.lm) (hash_text a.nt) (field 4 l) (time_text now) (from_field 6 l)
        ∙ ap₂ (λ (x y : ℕ). length (field 0 l) + 1 + length (field 1 l) + 1 + x + 1 + y + 1 + length (field 4 l) + 1 + length
        (time_text now) + 1 + length (from_field 6 l)) elm ent
        ∙ ap (λ (x : ℕ). length (field 0 l) + 1 + length (field 1 l) + 1 + length (field 2 l) + 1 + length (field 3 l) + 1 + length
        (field 4 l) + 1 + x + 1 + length (from_field 6 l)) etime
        ∙ sym (lengths (field 0 l) (field 1 l) (field 2 l) (field 3 l) (field 4 l) (field 5 l) (from_field 6 l)) ∙ whole

    -- it begins with the same octet
    pub changed_comment : is_comment (changed_line a now l) ≡ is_comment l
    unfolding changed_line
    changed_comment =
        let some = leb-true 1 (length (field 0 l)) (both w.name).0 in
        ap (λ (x : ℕ). eqb x number_sign)
        (first (field 0 l) (colon ∷ (field 1 l ++ colon ∷ (hash_text a.lm ++ colon ∷
        (hash_text a.nt ++ colon ∷ (field 4 l ++ colon ∷ (time_text now ++ colon ∷ from_field 6 l)))))) some
        ∙ sym (first (field 0 l) (colon ∷ (field 1 l ++ colon ∷
        (field 2 l ++ colon ∷ (field 3 l ++ colon ∷ (field 4 l ++ colon ∷ (field 5 l ++ colon ∷ from_field 6 l)))))) some)
        ∙ ap (λ (x : List ℕ). get_or x 0 0) (line_fields l w.all))

    -- and is one line still
    pub changed_one_line : holds lf l ≡ false → holds lf (changed_line a now l) ≡ false
    unfolding changed_line
    changed_one_line e =
        let whole = ap (holds lf) (line_fields l w.all) ∙ e in
        let c = colons lf (field 0 l) (field 1 l) (field 2 l) (field 3 l) (field 4 l) (field 5 l) (from_field 6 l) refl whole in
        of_colons lf (field 0 l) (field 1 l) (hash_text a.lm) (hash_text a.nt) (field 4 l) (time_text now) (from_field 6 l) refl
        (record {
          c0 = c.c0;
          c1 = c.c1;
          c2 = hash_free lf refl no_lf a.lm;
          c3 = hash_free lf refl no_lf a.nt;
          c4 = c.c4;
          c5 = no_lf (to_be 4 now);
          c6 = c.c6;
        })

  -- written twice, the last counts
  pub changed_twice_lem : (b : Account) (t : ℕ) → changed_line b t (changed_line a now l) ≡ changed_line b t l
  unfolding changed_line
  changed_twice_lem b t =
      let c = changed_fields in
      ap₂ (λ (x y : List ℕ). line_of x y (hash_text b.lm) (hash_text b.nt) (field 4 (changed_line a now l)) (time_text t)
      (from_field 6 (changed_line a now l))) c.name_is c.uid_is
      ∙ ap₂ (λ (x y : List ℕ). line_of (field 0 l) (field 1 l) (hash_text b.lm) (hash_text b.nt) x (time_text t) y) c.flags_is c.rest_is
