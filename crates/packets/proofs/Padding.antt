-- "Octets after Length are padding and ignored" (document 01; RFC 1994, section 4): a packet with a
-- good frame, cut at its Length with any octets behind, is read as the packet is, by every reader
-- and whatever the packet holds.
-- Assumes nothing.
use mathlib.Core.Bool.{Bool, true, false, cond, not, ◌||◌, true≢false}
use mathlib.Core.List.{List, [], ◌∷◌, ◌++◌}
use mathlib.Core.Path.{◌≡◌, refl, sym, ap, ap₂, ◌∙◌}
use Prim.Native.Nat.{ℕ, ◌+◌, ◌-◌, ◌≤◌, ◌<◌}
use native.Mathlib.Omega.{arith}
use borrow.Author.Tests.{le-ltb, eqb-true, ltb-false, not-false}
use lib.Dec.{eqb, ltb}
use lib.ListN.{length, take, drop, length-append, length-drop, take-append-drop, get_or-append}
use lib.Seq.{take-append-le, drop-append-le, length-take-le}
use Rattle.octets.specs.Parts.{part, fixed}
use Rattle.octets.specs.Numbers.{from_be}
use Rattle.packets.specs.Frame.{octet, number_at, length_of, bad_frame, data_of}
use Rattle.packets.specs.Response.{read_response, read_name, bad_response_size, bad_response_flag}
use Rattle.packets.specs.Response.{response_refusal}
use Rattle.packets.specs.Change.{read_change, bad_change_size, bad_change_flags, change_refusal}
use Rattle.packets.specs.ChangeOne.{read_change_one, bad_change_one_size, bad_change_one_flags}
use Rattle.packets.specs.ChangeOne.{change_one_refusal}
use Rattle.std.specs.Prelude.{Some, None}
use Rattle.packets.specs.Reply.{ChallengeFields, refused_challenge, bad_challenge, read_challenge}
use Rattle.packets.specs.Reply.{read_reply}
use Rattle.packets.specs.Name.{is_split, before_split, after_split, is_bad_response, domain_of}
use Rattle.packets.specs.Name.{account_of, domain_part, account_part}
use Rattle.packets.specs.declared.Part.{Part}
use Rattle.packets.specs.declared.Change.{Change}
use Rattle.packets.specs.declared.ChangeOne.{ChangeOne}
use Rattle.packets.proofs.Framing.{frame_bounds}
use Rattle.packets.proofs.Fields.{response_same, asked_same, change_same, change_one_same}

-- ---- two packets that agree up to the Length of one

pub record SamePacket (p q : List ℕ) : Type 0 where
  pub least : 4 ≤ length_of p
  pub good : bad_frame p ≡ false
  pub frame : bad_frame q ≡ bad_frame p
  pub octets : (i : ℕ) → i < length_of p → octet i q ≡ octet i p
  pub parts : (a n : ℕ) → a + n ≤ length_of p → part a n q ≡ part a n p

part_front : (x t : List ℕ) (a n : ℕ) → a + n ≤ length x → part a n (x ++ t) ≡ part a n x
part_front x t a n h =
    ap (take n) (drop-append-le a x t (omega arith)) ∙ take-append-le n (drop a x) t (omega (arith, length-drop a x))

fits : (t u v : Bool) → t ≡ false → u ≡ false → v ≡ false → (t || (u || v)) ≡ false
fits t u v x y z = rw (x, y, z)

pub cut_at_length : (p behind : List ℕ) → bad_frame p ≡ false → SamePacket p (take (length_of p) p ++ behind)
cut_at_length p behind good =
    let b = frame_bounds p good in
    let x = take (length_of p) p in
    let long : length x ≡ length_of p = length-take-le (length_of p) p b.most in
    let whole : x ++ drop (length_of p) p ≡ p = take-append-drop (length_of p) p in
    let octets : (i : ℕ) → i < length_of p → octet i (x ++ behind) ≡ octet i p = λ i h.
    get_or-append x behind 0 i (omega (arith, long)) ∙ sym (get_or-append x (drop (length_of p) p) 0 i (omega (arith, long)))
    ∙ ap (octet i) whole in
    let parts : (a n : ℕ) → a + n ≤ length_of p → part a n (x ++ behind) ≡ part a n p = λ a n h.
    part_front x behind a n (omega (arith, long)) ∙ sym (part_front x (drop (length_of p) p) a n (omega (arith, long))) ∙ ap (part a n) whole in
    let same : length_of (x ++ behind) ≡ length_of p = ap₂ (λ (i j : ℕ). from_be (i ∷ j ∷ [])) (octets 2 (omega (arith, b.least))) (octets 3 (omega (arith, b.least))) in
    let enough : length_of p ≤ length (x ++ behind) = omega (arith, length-append x behind, long) in
    record {
      least = b.least;
      good = good;
      frame = fits (ltb (length (x ++ behind)) 4) (ltb (length_of (x ++ behind)) 4) (ltb (length (x ++ behind)) (length_of (x ++ behind)))
          (le-ltb (length (x ++ behind)) 4 (omega (arith, b.least, enough))) (le-ltb (length_of (x ++ behind)) 4 (omega (arith, b.least, same)))
          (le-ltb (length (x ++ behind)) (length_of (x ++ behind)) (omega (arith, same, enough))) ∙ sym good;
      octets = octets;
      parts = parts;
    }

-- ---- tests of which the later ones read what a good size reaches

-- a size that may be bad, and a test that is asked only where it is not
size_first : (t y z : Bool) → (t ≡ false → y ≡ z) → (t || y) ≡ (t || z)
size_first true y z h = refl
size_first false y z h = h refl

chosen : {A : Type 0} (t : Bool) (a b c : A) → (t ≡ false → b ≡ c) → cond t a b ≡ cond t a c
chosen true a b c h = refl
chosen false a b c h = h refl

pub or_false_both : (t u : Bool) → (t || u) ≡ false → (t ≡ false) × (u ≡ false)
or_false_both true u e = absurd (true≢false e)
or_false_both false u e = (refl, e)

-- ---- every reader

module _ (p q : List ℕ) (s : SamePacket p q) where
  same_number : (a : ℕ) → a + 2 ≤ length_of p → number_at a q ≡ number_at a p
  same_number a h = ap₂ (λ (i j : ℕ). from_be (i ∷ j ∷ [])) (s.octets a (omega arith)) (s.octets (a + 1) (omega arith))

  pub same_length : length_of q ≡ length_of p
  same_length = same_number 2 s.least

  pub same_code : octet 0 q ≡ octet 0 p
  same_code = s.octets 0 (omega (arith, s.least))

  pub same_id : octet 1 q ≡ octet 1 p
  same_id = s.octets 1 (omega (arith, s.least))

  same_data : data_of q ≡ data_of p
  same_data = ap (λ (n : ℕ). part 4 (n - 4) q) same_length ∙ s.parts 4 (length_of p - 4) (omega (arith, s.least))

  -- a Challenge
  challenge_size_lem : bad_challenge q ≡ bad_challenge p
  challenge_size_lem =
      ap₂ (λ (i n : ℕ). not (eqb i 1) || (ltb n (5 + 8) || not (eqb (octet 4 q) 8))) same_code same_length
      ∙ ap (λ (t : Bool). not (eqb (octet 0 p) 1) || t)
      (size_first (ltb (length_of p) (5 + 8)) _ _ (λ h. ap (λ (i : ℕ). not (eqb i 8)) (s.octets 4 (omega (arith, ltb-false (length_of p) 13 h)))))

  pub same_challenge : read_challenge q ≡ read_challenge p
  unfolding read_challenge
  same_challenge =
      ap₂ (λ (f t : Bool). cond f (refused_challenge 3) (cond t (refused_challenge 11) (fields_of q))) s.frame challenge_size_lem
      ∙ ap (cond (bad_frame p) (refused_challenge 3)) (chosen (bad_challenge p) (refused_challenge 11) (fields_of q) (fields_of p) fields)
    where
      fields_of : List ℕ → ChallengeFields
      fields_of x = record { refusal = 0; id = octet 1 x; challenge = fixed 8 (part 5 8 x) }

      fields : bad_challenge p ≡ false → fields_of q ≡ fields_of p
      fields h =
          let t = or_false_both (not (eqb (octet 0 p) 1)) (ltb (length_of p) (5 + 8) || not (eqb (octet 4 p) 8)) h in
          let long = ltb-false (length_of p) 13 (or_false_both (ltb (length_of p) (5 + 8)) (not (eqb (octet 4 p) 8)) t.1).0 in
          asked_same refl same_id (ap (fixed 8) (s.parts 5 8 (omega (arith, long))))

  -- a reply
  pub same_reply_lem : (last : ℕ) → read_reply last q ≡ read_reply last p
  unfolding read_reply
  same_reply_lem last = rw (s.frame, same_code, same_id, same_data)

  -- a Response
  pub same_response_size : bad_response_size q ≡ bad_response_size p
  same_response_size =
      ap (λ (n : ℕ). ltb n 55 || (ltb 310 n || not (eqb (octet 4 q) 49))) same_length
      ∙ size_first (ltb (length_of p) 55) _ _
      (λ h. ap (λ (i : ℕ). ltb 310 (length_of p) || not (eqb i 49)) (s.octets 4 (omega (arith, ltb-false (length_of p) 55 h))))

  response_long : bad_response_size p ≡ false → 55 ≤ length_of p
  response_long h = ltb-false (length_of p) 55 (or_false_both (ltb (length_of p) 55) _ h).0

  response_flag : bad_response_size p ≡ false → bad_response_flag q ≡ bad_response_flag p
  response_flag h = ap (ltb 1) (s.octets 53 (omega (arith, response_long h)))

  pub same_response_refusal : response_refusal q ≡ response_refusal p
  unfolding response_refusal
  same_response_refusal =
      ap (λ (t : Bool). cond {A = ℕ} t 6 (cond (bad_response_flag q) 7 0)) same_response_size
      ∙ chosen {A = ℕ} (bad_response_size p) 6 _ _ (λ h. ap (λ (t : Bool). cond {A = ℕ} t 7 0) (response_flag h))

  pub same_response : bad_response_size p ≡ false → read_response q ≡ read_response p
  same_response h =
      let long = response_long h in
      response_same (ap (fixed 24) (s.parts 5 24 (omega (arith, long)))) (ap (fixed 24) (s.parts 29 24 (omega (arith, long)))) (s.octets 53 (omega (arith, long)))

  -- its name
  same_unfit : is_bad_response q ≡ is_bad_response p
  same_unfit =
      ap₂ (λ (f t : Bool). f || t) s.frame
      (ap₂ (λ (i : ℕ) (t : Bool). not (eqb i 2) || t) same_code
      (ap (λ (t : Bool). t || bad_response_flag q) same_response_size ∙ size_first (bad_response_size p) _ _ response_flag))

  fit_name : is_bad_response p ≡ false → read_name q ≡ read_name p
  fit_name h =
      let t = or_false_both (bad_frame p) _ h in
      let u = or_false_both (not (eqb (octet 0 p) 2)) _ t.1 in
      let long = response_long (or_false_both (bad_response_size p) _ u.1).0 in
      ap (λ (n : ℕ). part 54 (n - 54) q) same_length ∙ s.parts 54 (length_of p - 54) (omega (arith, long))

  -- whatever is made of the name and of Length, where the packet is fit
  by_name : {A : Type 0} (f : List ℕ → ℕ → A) (none : A) → cond (is_bad_response q) none (f (read_name q) (length_of q)) ≡ cond (is_bad_response p) none (f (read_name p) (length_of p))
  by_name {A} f none =
      ap (λ (t : Bool). cond {A = A} t none (f (read_name q) (length_of q))) same_unfit
      ∙ chosen (is_bad_response p) none _ _ (λ h. ap₂ f (fit_name h) same_length)

  pub same_domain : (home : List ℕ) → domain_of q home ≡ domain_of p home
  unfolding domain_of
  same_domain home = by_name (λ (n : List ℕ) (l : ℕ). cond (is_split n) (before_split n) home) []

  pub same_account : account_of q ≡ account_of p
  unfolding account_of
  same_account = by_name (λ (n : List ℕ) (l : ℕ). cond (is_split n) (after_split n) n) []

  pub same_domain_part : domain_part q ≡ domain_part p
  unfolding domain_part
  same_domain_part = by_name (λ (n : List ℕ) (l : ℕ). cond (is_split n) (Some (record { offset = 54; length = length (before_split n) })) None) None

  pub same_account_part : account_part q ≡ account_part p
  unfolding account_part
  same_account_part =
      by_name (λ (n : List ℕ) (l : ℕ). cond (is_split n) (Some (up_to (55 + length (before_split n)) l)) (Some (up_to 54 l))) None
    where
      up_to : ℕ → ℕ → Part
      up_to a l = record { offset = a; length = l - a }

  -- a change
  pub same_change_size : bad_change_size q ≡ bad_change_size p
  same_change_size = ap (λ (n : ℕ). not (eqb n 1118)) same_length

  change_long : bad_change_size p ≡ false → length_of p ≡ 1118
  change_long h = eqb-true (length_of p) 1118 (not-false (eqb (length_of p) 1118) h)

  pub same_change : bad_change_size p ≡ false → read_change q ≡ read_change p
  same_change h =
      let long = change_long h in
      let field : (a n : ℕ) → a + n ≤ 1118 → fixed n (part a n q) ≡ fixed n (part a n p) = λ a n k. ap (fixed n) (s.parts a n (omega (arith, long))) in
      change_same (field 4 516 (omega arith)) (field 520 16 (omega arith)) (field 536 516 (omega arith)) (field 1052 16 (omega arith))
      (field 1068 24 (omega arith)) (field 1092 24 (omega arith))
      (same_number 1116 (omega (arith, long)))

  pub same_change_refusal : change_refusal q ≡ change_refusal p
  unfolding change_refusal
  same_change_refusal =
      ap (λ (t : Bool). cond {A = ℕ} t 6 (cond (bad_change_flags q) 7 0)) same_change_size
      ∙ chosen {A = ℕ} (bad_change_size p) 6 _ _ (λ h. ap (λ (f : Change). cond {A = ℕ} (ltb 3 f.flags) 7 0) (same_change h))

  -- a version 1 change
  pub same_change_one_size : bad_change_one_size q ≡ bad_change_one_size p
  same_change_one_size = ap (λ (n : ℕ). not (eqb n 72)) same_length

  change_one_long : bad_change_one_size p ≡ false → length_of p ≡ 72
  change_one_long h = eqb-true (length_of p) 72 (not-false (eqb (length_of p) 72) h)

  pub same_change_one : bad_change_one_size p ≡ false → read_change_one q ≡ read_change_one p
  same_change_one h =
      let long = change_one_long h in
      let field : (a : ℕ) → a + 16 ≤ 72 → fixed 16 (part a 16 q) ≡ fixed 16 (part a 16 p) = λ a k. ap (fixed 16) (s.parts a 16 (omega (arith, long))) in
      change_one_same (field 4 (omega arith)) (field 20 (omega arith)) (field 36 (omega arith)) (field 52 (omega arith))
      (same_number 68 (omega (arith, long))) (same_number 70 (omega (arith, long)))

  pub same_change_one_refusal : change_one_refusal q ≡ change_one_refusal p
  unfolding change_one_refusal
  same_change_one_refusal =
      ap (λ (t : Bool). cond {A = ℕ} t 6 (cond (bad_change_one_flags q) 7 0)) same_change_one_size
      ∙ chosen {A = ℕ} (bad_change_one_size p) 6 _ _ (λ h. ap (λ (f : ChangeOne). cond {A = ℕ} (ltb 1 f.flags) 7 0) (same_change_one h))
