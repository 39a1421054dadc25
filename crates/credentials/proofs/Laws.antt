-- The laws of hashes, responses and sealed passwords for other crates to cite: lengths, and that
-- opening what was sealed gives the password back.
-- Assumes nothing.
use mathlib.Core.Path.{◌≡◌, refl, sym, ap, ap₂, ◌∙◌, subst}
use mathlib.Core.Bool.{Bool, true, false, cond, ◌&&◌, ◌||◌, true≢false}
use mathlib.Core.List.{List, ◌++◌, map}
use mathlib.Core.Option.{none, some}
use Prim.Native.Nat.{ℕ, ◌+◌, ◌-◌, ◌%◌, ◌≤◌}
use native.Mathlib.Nat.{mod-eq_of_lt}
use native.Mathlib.Omega.{arith}
use borrow.Author.Tests.{le-leb, le-ltb, ne_eqb, ltb-false, eqb-false}
use lib.Dec.{eqb, ltb}
use lib.ListN.{length, take, drop, replicate, length-append}
use lib.Seq.{take_all, drop_at, take_at}
use Rattle.std.specs.Prelude.{Result, Ok, Err, IsOk}
use Rattle.refusals.specs.declared.Refusal.{Refusal}
use Rattle.refusals.specs.declared.Refusal.TheVariants.{Input, Filler}
use Rattle.refusals.specs.Refusal.{told}
use Rattle.refusals.proofs.Numbers.{number_some}
use Rattle.octets.specs.Parts.{part, fixed}
use Rattle.octets.specs.Numbers.{from_le, to_le}
use Rattle.octets.proofs.Parts.{over_fills, length_fixed}
use Rattle.octets.proofs.Numbers.{Octets, length-to_le, from_le-to_le}
use Rattle.md4.proofs.Laws.{length_md4, octets_md4}
use Rattle.des.specs.Des.{des_encrypt}
use Rattle.des.proofs.Sizes.{length_encrypt, length_three}
use Rattle.des.proofs.Stored.{length_schedules, three_under_lem, length_three_under, under_tells}
use Rattle.rc4.specs.Rc4.{key_answer, crypted}
use Rattle.rc4.proofs.Laws.{crypted_twice, length_crypted}
use Rattle.credentials.specs.declared.Content.TheVariants.{Over, Odd, Password}
use Rattle.credentials.specs.declared.Unsealed.{Unsealed}
use Rattle.credentials.specs.Credentials.{nt_hash_of, hash_answer, nt_hashed, bad_nt_password}
use Rattle.credentials.specs.Credentials.{lm_keys, upper, response_of, schedules_of, response_under}
use Rattle.credentials.specs.Credentials.{old_under_new, hash_under_challenge, plain_block}
use Rattle.credentials.specs.Credentials.{sealed_block, bad_filler, sealed_as, length_in}
use Rattle.credentials.specs.Credentials.{content_for, length_told, password_length, ValidLength}
use Rattle.credentials.specs.Credentials.{unsealed_as, password_in}
use Rattle.credentials.specs.Credentials.{length_under}
use Rattle.credentials.proofs.Plain.{front, front_length, body_length, plain_parts, length_plain}

-- ---- lengths

pub length_nt : (password : List ℕ) → length (nt_hash_of password) ≡ 16
unfolding nt_hash_of
length_nt password = length_md4 password

pub octets_nt : (password : List ℕ) → Octets (nt_hash_of password)
unfolding nt_hash_of
octets_nt password = octets_md4 password

pub length_keys : (password : List ℕ) → length (lm_keys password) ≡ 14
unfolding lm_keys
length_keys password = length_fixed 14 (map upper password)

-- two blocks side by side
two_blocks : (key₁ block₁ key₂ block₂ : List ℕ) → length (des_encrypt key₁ block₁ ++ des_encrypt key₂ block₂) ≡ 16
two_blocks key₁ block₁ key₂ block₂ =
    length-append (des_encrypt key₁ block₁) (des_encrypt key₂ block₂) ∙ ap₂ (λ (m n : ℕ). m + n) (length_encrypt key₁ block₁) (length_encrypt key₂ block₂)

pub length_response : (hash challenge : List ℕ) → length (response_of hash challenge) ≡ 24
unfolding response_of
length_response hash challenge = length_three (fixed 21 hash) challenge

pub length_schedules_of : (hash : List ℕ) → length (schedules_of hash) ≡ 48
unfolding schedules_of
length_schedules_of hash = length_schedules (fixed 21 hash)

pub length_response_under : (ks challenge : List ℕ) → length (response_under ks challenge) ≡ 24
unfolding response_under
length_response_under ks challenge = length_three_under ks challenge

-- the response under a hash's own round keys is the hash's response
pub response_under_lem : (hash challenge : List ℕ) → response_under (schedules_of hash) challenge ≡ response_of hash challenge
unfolding response_under schedules_of response_of
response_under_lem hash challenge = three_under_lem (fixed 21 hash) challenge

-- round keys answer no two challenges alike, whatever they are: the first block of the response
-- tells the challenge
pub response_under_tells : (ks c d : List ℕ) → length c ≡ 8 → Octets c → length d ≡ 8 → Octets d
    → response_under ks c ≡ response_under ks d → c ≡ d
unfolding response_under
response_under_tells ks c d n o m p e = under_tells ks c d n o m p e

-- and so does a hash
pub response_tells : (hash c d : List ℕ) → length c ≡ 8 → Octets c → length d ≡ 8 → Octets d → response_of hash c ≡ response_of hash d → c ≡ d
response_tells hash c d n o m p e =
    response_under_tells (schedules_of hash) c d n o m p
    (response_under_lem hash c ∙ e ∙ sym (response_under_lem hash d))

pub length_old_under_new : (old new : List ℕ) → length (old_under_new old new) ≡ 16
unfolding old_under_new
length_old_under_new old new = two_blocks _ _ _ _

pub length_under_challenge : (hash challenge : List ℕ) → length (hash_under_challenge hash challenge) ≡ 16
unfolding hash_under_challenge
length_under_challenge hash challenge = two_blocks _ _ _ _

module _ (filler password : List ℕ) (room : length filler ≡ 512) (fits : length password ≤ 512) where
  -- ---- opening what was sealed

  length_read : length_in (plain_block filler password) ≡ length password
  length_read =
      let n : ℕ = length password in
      ap (λ (x : List ℕ). from_le (take 4 (drop 512 x))) (plain_parts filler password room fits)
      ∙ ap (λ (x : List ℕ). from_le (take 4 x)) (drop_at (front filler password ++ password) (to_le 4 n) 512 (body_length filler password room fits))
      ∙ ap from_le (take_all 4 (to_le 4 n) (omega (arith, length-to_le 4 n)))
      ∙ from_le-to_le 4 n ∙ mod-eq_of_lt (omega arith)

  body_read_lem : fixed 512 (plain_block filler password) ≡ front filler password ++ password
  body_read_lem =
      over_fills (plain_block filler password) (replicate 512 0) (omega (arith, length_plain filler password room fits))
      ∙ ap (take 512) (plain_parts filler password room fits) ∙ take_at (front filler password ++ password) (to_le 4 (length password)) 512 (body_length filler password room fits)

  unsealed_plain : (old : List ℕ) → crypted old (sealed_block old filler password) ≡ plain_block filler password
  unfolding sealed_block
  unsealed_plain old = crypted_twice old (plain_block filler password)

  -- the length that it gives
  pub length_under_lem : (old : List ℕ)
      → length_under old (sealed_block old filler password) ≡ length password
  length_under_lem old = ap length_in (unsealed_plain old) ∙ length_read

  pub length_sealed : (old : List ℕ) → length (sealed_block old filler password) ≡ 516
  length_sealed old = sym (length_crypted old (sealed_block old filler password)) ∙ ap length (unsealed_plain old) ∙ length_plain filler password room fits

  pub unseal_sealed : (old : List ℕ) → unsealed_as old (sealed_block old filler password) ≡ record { content = content_for (length password); octets = front filler password ++ password }
  unfolding unsealed_as
  unseal_sealed old =
      ap (λ (x : List ℕ). record { content = content_for (length_in x); octets = fixed 512 x }) (unsealed_plain old)
      ∙ ap₂ (λ (n : ℕ) (x : List ℕ). record { content = content_for n; octets = x }) length_read body_read_lem

  -- the password, for every old hash
  pub password_sealed : (old : List ℕ) → password_in (unsealed_as old (sealed_block old filler password)) (length password) ≡ password
  unfolding password_in
  password_sealed old =
      ap (λ (x : Unsealed). part (512 - length password) (length password) x.octets) (unseal_sealed old)
      ∙ ap (take (length password)) (drop_at (front filler password) password (512 - length password) (front_length filler password room fits))
      ∙ take_all (length password) password (omega arith)

-- ---- what a length says

pub content_password : (n : ℕ) → n ≤ 512 → n % 2 ≡ 0 → content_for n ≡ Password n
unfolding content_for
content_password n h e = simp (le-ltb 512 n h, ne_eqb (n % 2) 1 (λ o. omega (arith, o, e)))

pub length_told_lem : (n : ℕ) → length_told (content_for n) ≡ password_length n
unfolding content_for password_length
length_told_lem n = which (ltb 512 n) (eqb (n % 2) 1)
  where
    which : (a b : Bool) → length_told (cond a Over (cond b Odd (Password n))) ≡ cond (a || b) none (some n)
    which true b = refl
    which false true = refl
    which false false = refl

sound_for : (n : ℕ) → ValidLength (content_for n)
unfolding content_for
sound_for n = which (ltb 512 n) (eqb (n % 2) 1) refl refl
  where
    which : (a b : Bool) → ltb 512 n ≡ a → eqb (n % 2) 1 ≡ b → ValidLength (cond a Over (cond b Odd (Password n)))
    which true b p q = tt
    which false true p q = tt
    which false false p q =
        let even : n % 2 ≡ 1 → ⊥ = eqb-false (n % 2) 1 q in
        (ltb-false 512 n p, omega arith)

pub sound_unsealed : (old block : List ℕ) → ValidLength (unsealed_as old block).content
unfolding unsealed_as
sound_unsealed old block = sound_for (length_in (crypted old block))

-- a password that is not refused has such a length
pub good_password : (password : List ℕ) → bad_nt_password password ≡ false → (length password ≤ 512) × (length password % 2 ≡ 0)
good_password password e = which (ltb 512 (length password)) refl e
  where
    which : (b : Bool) → ltb 512 (length password) ≡ b → (b || eqb (length password % 2) 1) ≡ false → (length password ≤ 512) × (length password % 2 ≡ 0)
    which true p q = absurd (true≢false q)
    which false p q =
        let even : length password % 2 ≡ 1 → ⊥ = eqb-false (length password % 2) 1 q in
        (ltb-false 512 (length password) p, omega arith)

-- and one of such a length is not refused
pub small_even : (password : List ℕ) → length password ≤ 512 → length password % 2 ≡ 0 → bad_nt_password password ≡ false
small_even password h e = simp (le-ltb 512 (length password) h, ne_eqb (length password % 2) 1 (λ o. omega (arith, o, e)))

-- ---- what hashing and sealing answer

pub hash_good : (password : List ℕ) → bad_nt_password password ≡ false → nt_hashed password ≡ Ok (nt_hash_of password)
hash_good password e = ap (λ (b : Bool). hash_answer b (nt_hash_of password)) e

pub sealed_good : (old password filler : List ℕ) → bad_nt_password password ≡ false → bad_filler filler ≡ false
    → sealed_as old password filler ≡ Ok (sealed_block old filler password)
unfolding sealed_as
sealed_good old password filler e f =
    ap₂ (λ (a b : Bool). cond a (Err Input) (cond b (Err Filler) (Ok (sealed_block old filler password)))) e f

-- what is known where neither is refused
pub seal_fits : (old password filler : List ℕ) → told (sealed_as old password filler) ≡ 0
    → (bad_nt_password password ≡ false) × (bad_filler filler ≡ false)
unfolding sealed_as
seal_fits old password filler = which (bad_nt_password password) (bad_filler filler)
  where
    which : (a b : Bool) → told (cond a (Err Input) (cond b (Err Filler) (Ok (sealed_block old filler password)))) ≡ 0
        → (a ≡ false) × (b ≡ false)
    which true b e = absurd (number_some Input e)
    which false true e = absurd (number_some Filler e)
    which false false e = (refl, refl)

-- what a hash and a seal give where they are not refused
pub hash_is_ok : (password : List ℕ) {r : Result (List ℕ) Refusal} → bad_nt_password password ≡ false → r ≡ nt_hashed password → IsOk r
hash_is_ok password good e = subst IsOk (sym (e ∙ hash_good password good)) refl

pub hash_given : (password : List ℕ) {r : Result (List ℕ) Refusal} {hash : List ℕ} → bad_nt_password password ≡ false → r ≡ nt_hashed password
    → r ≡ Ok hash → hash ≡ nt_hash_of password
hash_given password good e f = let same = hash_good password good in cc

pub block_is_ok : (old new filler : List ℕ) {r : Result (List ℕ) Refusal} → bad_nt_password new ≡ false → bad_filler filler ≡ false
    → r ≡ sealed_as old new filler → IsOk r
block_is_ok old new filler p q e = subst IsOk (sym (e ∙ sealed_good old new filler p q)) refl

pub block_given : (old new filler : List ℕ) {r : Result (List ℕ) Refusal} {block : List ℕ} → bad_nt_password new ≡ false → bad_filler filler ≡ false
    → r ≡ sealed_as old new filler → r ≡ Ok block → block ≡ sealed_block old filler new
block_given old new filler p q e f = let same = sealed_good old new filler p q in cc

-- a hash is a key that RC4 takes
pub hash_taken : (hash : List ℕ) → length hash ≡ 16 → key_answer hash ≡ Ok tt
hash_taken hash n =
    ap₂ (λ (a b : Bool). cond (a && b) (Ok tt) (Err Input)) (le-leb 1 (length hash) (omega arith)) (le-leb (length hash) 256 (omega arith))
