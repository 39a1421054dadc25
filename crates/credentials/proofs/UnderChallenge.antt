-- A hash under a challenge, and back: decryption undoes encryption for every challenge and every
-- hash, and encryption undoes decryption. So whether a field agrees with a hash may be asked either
-- way.
-- Assumes nothing.
use mathlib.Core.Bool.{Bool, true, false}
use mathlib.Core.List.{List, [], ◌∷◌, ◌++◌, reverse, reverse-reverse}
use mathlib.Core.Path.{◌≡◌, refl, sym, ap, ap₂, ◌∙◌, subst}
use Prim.Native.Nat.{ℕ, zero, suc, ◌+◌, ◌<◌}
use native.Mathlib.Omega.{arith}
use lib.ListN.{length, take, drop, length-append, length-drop, take-append-drop}
use lib.Seq.{take_all, take_at, drop_at, get_or-drop}
use Rattle.octets.specs.Parts.{part, agrees}
use Rattle.octets.specs.Numbers.{from_be, to_be}
use Rattle.octets.proofs.Parts.{length_part, agrees_refl, agrees_equal}
use Rattle.octets.proofs.Numbers.{Octets, octets_append, octets-to_be}
use Rattle.des.specs.Des.{crypt, schedule_of, des_encrypt, des_decrypt}
use Rattle.des.proofs.RoundTrip.{undone_block, decrypt_encrypt}
use Rattle.des.proofs.Sizes.{length_encrypt}
use Rattle.credentials.specs.Credentials.{
  halves_under,
  challenge_key,
  hash_under_challenge,
  hash_from_challenge,
}

-- ---- a block

encrypt_decrypt : (key block : List ℕ) → length block ≡ 8 → Octets block
    → des_encrypt key (des_decrypt key block) ≡ block
unfolding des_encrypt des_decrypt
encrypt_decrypt key block n o =
    ap (λ (ks : List ℕ). to_be 8 (crypt ks (from_be (des_decrypt key block))))
    (sym (reverse-reverse (schedule_of key)))
    ∙ undone_block (reverse (schedule_of key)) block n o

-- ---- sixteen octets and their halves

octets_take : (n : ℕ) (l : List ℕ) → Octets l → Octets (take n l)
octets_take zero l o i = omega arith
octets_take (suc n) [] o i = omega arith
octets_take (suc n) (x ∷ l) o zero = o 0
octets_take (suc n) (x ∷ l) o (suc i) = octets_take n l (λ j. o (suc j)) i

octets_part : (a n : ℕ) (l : List ℕ) → Octets l → Octets (part a n l)
octets_part a n l o =
    octets_take n (drop a l) (λ i. subst (λ (x : ℕ). x < 256) (sym (get_or-drop a l i 0)) (o (a + i)))

-- a block cipher on each half
abbrev each : (List ℕ → List ℕ) → List ℕ → List ℕ
each f l = f (part 0 8 l) ++ f (part 8 8 l)

module _ (f g : List ℕ → List ℕ) (back : (x : List ℕ) → length x ≡ 8 → Octets x → g (f x) ≡ x)
    (eight : (x : List ℕ) → length (f x) ≡ 8) where
  -- and what undoes it
  halves_back : (l : List ℕ) → length l ≡ 16 → Octets l → each g (each f l) ≡ l
  halves_back l n o =
      let x = part 0 8 l in
      let y = part 8 8 l in
      let first = take_at (f x) (f y) 8 (eight x) in
      let second = ap (take 8) (drop_at (f x) (f y) 8 (eight x)) ∙ take_all 8 (f y) (omega
      (arith, eight y)) in
      ap₂ (λ (a b : List ℕ). g a ++ g b) first second
      ∙ ap₂ ◌++◌ (back x (length_part 0 8 l (omega arith)) (octets_part 0 8 l o))
      (back y (length_part 8 8 l (omega arith)) (octets_part 8 8 l o))
      ∙ ap (λ (b : List ℕ). take 8 l ++ b) (take_all 8 (drop 8 l) (omega (arith, length-drop 8 l)))
      ∙ take-append-drop 8 l

-- ---- a hash under a challenge

module _ (challenge : List ℕ) where
  abbrev key : List ℕ
  key = challenge_key challenge

  length_decrypt : (block : List ℕ) → length (des_decrypt key block) ≡ 8
  unfolding des_decrypt
  length_decrypt block = refl

  octets_decrypt : (block : List ℕ) → Octets (des_decrypt key block)
  unfolding des_decrypt
  octets_decrypt block = octets-to_be 8 _

  -- decryption undoes encryption for every challenge
  pub from_under : (hash : List ℕ) → length hash ≡ 16 → Octets hash
      → hash_from_challenge (hash_under_challenge hash challenge) challenge ≡ hash
  unfolding hash_from_challenge hash_under_challenge
  from_under hash n o = halves_back (des_encrypt key) (des_decrypt key) (decrypt_encrypt key)
      (length_encrypt key) hash n o

  -- and encryption undoes decryption
  pub under_from : (field : List ℕ) → length field ≡ 16 → Octets field
      → hash_under_challenge (hash_from_challenge field challenge) challenge ≡ field
  unfolding hash_from_challenge hash_under_challenge
  under_from field n o = halves_back (des_decrypt key) (des_encrypt key) (encrypt_decrypt key)
      length_decrypt field n o

  pub length_from : (field : List ℕ) → length (hash_from_challenge field challenge) ≡ 16
  unfolding hash_from_challenge
  length_from field =
      length-append (des_decrypt key (part 0 8 field)) (des_decrypt key (part 8 8 field))
      ∙ ap₂ (λ (m n : ℕ). m + n) (length_decrypt (part 0 8 field)) (length_decrypt (part 8 8 field))

  pub octets_from : (field : List ℕ) → Octets (hash_from_challenge field challenge)
  unfolding hash_from_challenge
  octets_from field =
      octets_append (des_decrypt key (part 0 8 field)) (des_decrypt key (part 8 8 field))
      (octets_decrypt (part 0 8 field)) (octets_decrypt (part 8 8 field))

  -- The hash that is kept, encrypted, is the field that was sent exactly where the field,
  -- decrypted, is the hash: a field may be compared either way.
  pub either_way : (field hash : List ℕ) → length field ≡ 16 → Octets field → length hash ≡ 16
      → Octets hash
      → agrees field (hash_under_challenge hash challenge)
      ≡ agrees hash (hash_from_challenge field challenge)
  either_way field hash n o m p =
      which (agrees field (hash_under_challenge hash challenge))
      (agrees hash (hash_from_challenge field challenge)) refl refl
    where
      which : (t u : Bool) → agrees field (hash_under_challenge hash challenge) ≡ t
          → agrees hash (hash_from_challenge field challenge) ≡ u → t ≡ u
      which true true e f = refl
      which false false e f = refl
      which true false e f =
          let same = agrees_equal field (hash_under_challenge hash challenge) e in
          sym (agrees_refl hash)
          ∙ ap (agrees hash) (sym (from_under hash m p)
          ∙ ap (λ (x : List ℕ). hash_from_challenge x challenge) (sym same)) ∙ f
      which false true e f =
          let same = agrees_equal hash (hash_from_challenge field challenge) f in
          sym e
          ∙ ap (agrees field) (ap (λ (x : List ℕ). hash_under_challenge x challenge) same
          ∙ under_from field n o) ∙ agrees_refl field

-- Only the first seven octets of the challenge matter.
pub seven_decide : (c d hash : List ℕ) → challenge_key c ≡ challenge_key d
    → hash_under_challenge hash c ≡ hash_under_challenge hash d
unfolding hash_under_challenge
seven_decide c d hash e = ap (λ (k : List ℕ). halves_under k k hash) e
