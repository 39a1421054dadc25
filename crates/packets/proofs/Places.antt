-- Where the two parts of a name stand: the packet cut there has the domain and the account, and
-- each lies within the packet.
-- Assumes nothing.
use mathlib.Core.Path.{◌≡◌, refl, sym, ap, ap₂, ◌∙◌}
use mathlib.Core.Bool.{Bool, true, false, cond, not, ◌||◌, false≢true}
use mathlib.Core.List.{List, []}
use Prim.Native.Nat.{ℕ, suc, ◌+◌, ◌-◌, ◌≤◌, ◌<◌}
use native.Mathlib.Omega.{arith}
use borrow.Author.Tests.{lt-ltb, le-ltb, ltb-true, ltb-false}
use lib.Dec.{eqb, ltb}
use lib.ListN.{length, take, drop, length-take, length-drop}
use lib.Seq.{take-take, drop-drop}
use Rattle.std.specs.Prelude.{Option, Some, None}
use Rattle.octets.specs.Parts.{part}
use Rattle.octets.proofs.Parts.{drop_take}
use Rattle.octets.proofs.Split.{place, held, take_place, drop_place}
use Rattle.packets.specs.Frame.{octet, length_of, bad_frame}
use Rattle.packets.specs.Response.{read_name, bad_response_flag}
use Rattle.packets.specs.Name.{is_split, before_split, after_split, is_bad_response, standing}
use Rattle.packets.specs.Name.{part_from, domain_part, account_part, domain_of, account_of}
use Rattle.packets.specs.declared.Part.{Part}
use Rattle.packets.proofs.Framing.{frame_bounds}

-- what stands at a part of the packet
abbrev pub cut : Part → List ℕ → List ℕ
cut a p = part a.offset a.length p

module _ (p : List ℕ) where
  -- ---- by the name

  pub part_unfit : is_bad_response p ≡ true → (None ≡ domain_part p) × (None ≡ account_part p)
  unfolding domain_part account_part
  part_unfit u = (simp u, simp u)

  module _ (u : is_bad_response p ≡ false) {k : ℕ} (e : k ≡ place 92 (read_name p)) where
    pub part_split : k < length (read_name p) → (Some (record { offset = 54; length = k }) ≡ domain_part p)
        × (Some (part_from (55 + k) p) ≡ account_part p)
    unfolding domain_part account_part
    part_split h =
        let n = read_name p in
        let s : is_split n ≡ true = held 92 n ∙ lt-ltb (place 92 n) (length n) (omega arith) in
        (simp (u, s, e), simp (u, s, e))

    pub part_whole : length (read_name p) ≤ k → (None ≡ domain_part p) × (Some (part_from 54 p) ≡ account_part p)
    unfolding domain_part account_part
    part_whole h =
        let s : is_split (read_name p) ≡ false = held 92 (read_name p) ∙ le-ltb (place 92 (read_name p)) (length (read_name p)) (omega arith) in
        (simp (u, s), simp (u, s))

  -- a backslash stands within the name
  inside : is_split (read_name p) ≡ true → place 92 (read_name p) < length (read_name p)
  inside s = ltb-true (place 92 (read_name p)) (length (read_name p)) (sym (held 92 (read_name p)) ∙ s)

  name_bounds : (length (read_name p) ≤ length_of p - 54) × (length (read_name p) ≤ length p - 54)
  name_bounds = omega (arith, length-take (length_of p - 54) (drop 54 p), length-drop 54 p)

  -- ---- the packet cut there

  -- the account, for every packet
  pub account_cut : cut (standing (account_part p)) p ≡ account_of p
  unfolding account_part account_of
  account_cut = by (is_bad_response p) (is_split (read_name p)) refl
    where
      n : List ℕ
      n = read_name p

      behind : is_split n ≡ true → cut (part_from (55 + place 92 n) p) p ≡ after_split n
      behind s =
          let k = place 92 n in
          let count : length_of p - (55 + k) ≡ length_of p - 54 - suc k = omega arith in
          let from : 55 + k ≡ 54 + suc k = omega arith in
          ap₂ (λ (i j : ℕ). take i (drop j p)) count from ∙ ap (take (length_of p - 54 - suc k)) (sym (drop-drop (suc k) 54 p))
          ∙ sym (drop_take (suc k) (length_of p - 54) (drop 54 p) (inside s)) ∙ drop_place 92 n

      by : (u s : Bool) → is_split n ≡ s
          → cut (standing (cond u None (cond s (Some (part_from (55 + place 92 n) p)) (Some (part_from 54 p))))) p ≡ cond u [] (cond s (after_split n) n)
      by true s e = refl
      by false true e = behind e
      by false false e = refl

  module _ (home : List ℕ) where
    -- the domain, where it is in the packet
    pub domain_cut : (domain_part p ≡ None → ⊥)
        → cut (standing (domain_part p)) p ≡ domain_of p home
    unfolding domain_part domain_of
    domain_cut = by (is_bad_response p) (is_split (read_name p)) refl
      where
        n : List ℕ
        n = read_name p

        at : Bool → Bool → Option Part
        at u s = cond u None (cond s (Some (record { offset = 54; length = place 92 n })) None)

        by : (u s : Bool) → is_split n ≡ s → (at u s ≡ None → ⊥)
            → cut (standing (at u s)) p ≡ cond u [] (cond s (before_split n) home)
        by true s e h = absurd (h refl)
        by false true e h =
            let i = inside e in
            let b = name_bounds in
            sym (take-take (place 92 n) (length_of p - 54) (drop 54 p) (omega arith)) ∙ take_place 92 n
        by false false e h = absurd (h refl)

    -- where C is told offset 0, and the packet is not refused, it is the home domain: no domain that
    -- is in the packet stands at 0
    pub domain_home : is_bad_response p ≡ false → (standing (domain_part p)).offset ≡ 0 → domain_of p home ≡ home
    unfolding domain_part domain_of
    domain_home u = by (is_split (read_name p)) refl
      where
        by : (s : Bool) → is_split (read_name p) ≡ s → (standing (domain_part p)).offset ≡ 0
            → domain_of p home ≡ home
        by true e h = absurd (omega (arith, simp (u, e) at h))
        by false e h = simp (u, e)

    pub domain_unfit : is_bad_response p ≡ true → domain_of p home ≡ []
    unfolding domain_of
    domain_unfit u = simp u

  -- ---- within the packet

  -- a packet that is not refused has a name, and ends within what was passed
  fit_bounds : is_bad_response p ≡ false → (55 ≤ length_of p) × (length_of p ≤ length p)
  fit_bounds = by (bad_frame p) (not (eqb (octet 0 p) 2)) (ltb (length_of p) 55) (ltb 310 (length_of p) || not (eqb (octet 4 p) 49)) (bad_response_flag p) refl refl
    where
      by : (a b c d e : Bool) → bad_frame p ≡ a → ltb (length_of p) 55 ≡ c → (a || (b || ((c || d) || e))) ≡ false → (55 ≤ length_of p) × (length_of p ≤ length p)
      by true b c d e f g h = absurd (false≢true (sym h))
      by false true c d e f g h = absurd (false≢true (sym h))
      by false false true d e f g h = absurd (false≢true (sym h))
      by false false false d e f g h = (ltb-false (length_of p) 55 g, (frame_bounds p f).most)

  -- the account of a packet that is not refused is in the packet, and ends at Length
  pub account_stands : is_bad_response p ≡ false → (54 ≤ (standing (account_part p)).offset) × ((standing (account_part p)).offset + (standing (account_part p)).length ≡ length_of p)
  unfolding account_part
  account_stands u = by (is_split (read_name p)) refl
    where
      by : (s : Bool) → is_split (read_name p) ≡ s → (54 ≤ (standing (account_part p)).offset) × ((standing (account_part p)).offset + (standing (account_part p)).length ≡ length_of p)
      by true e = let b = name_bounds in let i = inside e in simp (u, e) (omega arith)
      by false e = let b = fit_bounds u in simp (u, e) (omega arith)

  -- each part lies within what was passed, for every packet, so that a caller may read it there
  pub parts_within : ((standing (domain_part p)).offset + (standing (domain_part p)).length ≤ length p) × ((standing (account_part p)).offset + (standing (account_part p)).length ≤ length p)
  unfolding domain_part account_part
  parts_within = by (is_bad_response p) (is_split (read_name p)) refl refl
    where
      by : (u s : Bool) → is_bad_response p ≡ u → is_split (read_name p) ≡ s
          → ((standing (domain_part p)).offset + (standing (domain_part p)).length ≤ length p) × ((standing (account_part p)).offset + (standing (account_part p)).length ≤ length p)
      by true s e f = simp e (omega arith)
      by false true e f = let b = fit_bounds e in let n = name_bounds in let i = inside f in simp (e, f) (omega arith)
      by false false e f = let b = fit_bounds e in simp (e, f) (omega arith)
