-- Hashes, responses and the sealed password (RFC 2433, appendix A), over lists of octets.
-- Assumes nothing: these are definitions.
use Rattle.std.specs.Prelude.{Bool, cond, not, ◌||◌, List, [], ◌∷◌, ◌++◌, map, ◌≡◌, ℕ, ◌+◌, ◌-◌}
use Rattle.std.specs.Prelude.{◌*◌, ◌%◌, ◌≤◌, eqb, ltb, length, take, Result, Ok, Err}
use Rattle.std.proofs.Math.Option.{Option, none, some}
use Rattle.octets.specs.Parts.{part, fixed}
use Rattle.octets.specs.Numbers.{from_le, to_le}
use Rattle.octets.specs.Digits.{between}
use Rattle.md4.specs.Md4.{md4_of}
use Rattle.des.specs.Des.{des_encrypt, des_decrypt, des_three}
use Rattle.des.specs.Stored.{three_schedules, three_under}
use Rattle.rc4.specs.Rc4.{crypted}
use Rattle.refusals.specs.declared.Refusal.{Refusal}
use Rattle.refusals.specs.declared.Refusal.TheVariants.{Input, Filler}
use Rattle.credentials.specs.declared.Content.{Content}
use Rattle.credentials.specs.declared.Content.TheVariants.{Over, Odd, Password}
use Rattle.credentials.specs.declared.Unsealed.{Unsealed}

-- ---- sizes, in octets

-- a hash, and the longest password for NT and for LM
abbrev pub hash_size : ℕ
hash_size = 16

abbrev pub longest_nt : ℕ
longest_nt = 512

abbrev pub longest_lm : ℕ
longest_lm = 14

-- a response's keys: three DES keys of 7 octets
abbrev pub keys_size : ℕ
keys_size = 3 * 7

-- the stored round keys of a hash: three schedules of 16, in numbers of 64 bits
abbrev pub schedules_size : ℕ
schedules_size = 3 * 16

-- a password's block: room for the longest one, and its length
abbrev pub block_size : ℕ
block_size = longest_nt + 4

-- ---- hashes

-- A.6, NtPasswordHash(): MD4 of the password as 16-bit characters, the least significant octet
-- first, with no terminator
unfoldable pub nt_hash_of : List ℕ → List ℕ
nt_hash_of password = md4_of password

-- the length of no NT password: odd or over 512 octets
abbrev pub bad_length : ℕ → Bool
bad_length n = ltb longest_nt n || eqb (n % 2) 1

-- refusal 8
abbrev pub bad_nt_password : List ℕ → Bool
bad_nt_password password = bad_length (length password)

-- A.2, LmPasswordHash(): a to z become A to Z, other octets stay
abbrev pub upper : ℕ → ℕ
upper c = cond (between 97 122 c) (c - 32) c

-- A.2: the password zero-padded to 14 octets
unfoldable pub lm_keys : List ℕ → List ℕ
lm_keys password = fixed longest_lm (map upper password)

-- A.3, DesHash(): the string KGS!@#$% under each half
abbrev pub std_text : List ℕ
std_text = 75 ∷ 71 ∷ 83 ∷ 33 ∷ 64 ∷ 35 ∷ 36 ∷ 37 ∷ []

unfoldable pub lm_hash_of : List ℕ → List ℕ
lm_hash_of password = des_encrypt (part 0 7 (lm_keys password)) std_text
    ++ des_encrypt (part 7 7 (lm_keys password)) std_text

-- refusal 8: an LM password is over 14 octets
abbrev pub bad_lm_password : List ℕ → Bool
bad_lm_password password = ltb longest_lm (length password)

-- what the public functions answer: the hash, or a refusal
abbrev pub hash_answer : Bool → List ℕ → Result (List ℕ) Refusal
hash_answer bad hash = cond bad (Err Input) (Ok hash)

abbrev pub nt_hashed : List ℕ → Result (List ℕ) Refusal
nt_hashed password = hash_answer (bad_nt_password password) (nt_hash_of password)

abbrev pub lm_hashed : List ℕ → Result (List ℕ) Refusal
lm_hashed password = hash_answer (bad_lm_password password) (lm_hash_of password)

-- ---- responses

-- A.7, ChallengeResponse(): the hash zero-padded to 21 octets, three keys, each encrypting the
-- challenge
unfoldable pub response_of : List ℕ → List ℕ → List ℕ
response_of hash challenge = des_three (fixed keys_size hash) challenge

-- "Keep the three schedules beside each hash" (document 02, request 2026-10): the stored round keys
-- of the three keys that A.7 makes of the hash zero-padded to 21 octets
unfoldable pub schedules_of : List ℕ → List ℕ
schedules_of hash = three_schedules (fixed keys_size hash)

-- stored round keys in octets: each number in eight, the least significant first
unfoldable pub encode_keys : List ℕ → List ℕ
encode_keys [] = []
encode_keys (k ∷ ks) = to_le 8 k ++ encode_keys ks

-- A.7 under stored round keys, whatever hash they are of
unfoldable pub response_under : List ℕ → List ℕ → List ℕ
response_under ks challenge = three_under ks challenge

-- ---- a hash under a block

-- A.9 and A.17: each half of a hash, of eight octets, under a key of its own
abbrev pub halves_under : List ℕ → List ℕ → List ℕ → List ℕ
halves_under first second hash = des_encrypt first (part 0 8 hash)
    ++ des_encrypt second (part 8 8 hash)

-- A.17, NtPasswordHashEncryptedWithBlock(): the first half under the new hash's octets 0 to 6, the
-- second under 7 to 13
unfoldable pub old_under_new : List ℕ → List ℕ → List ℕ
old_under_new old new = halves_under (part 0 7 new) (part 7 7 new) old

-- the octets of a challenge that are a key: "1st 7-octets Block"
abbrev pub challenge_key : List ℕ → List ℕ
challenge_key challenge = part 0 7 challenge

-- A.9, PasswordHashEncryptedWithBlock(), by which A.8 has an LM hash and A.10 an NT hash under the
-- challenge: both halves under its first seven octets
unfoldable pub hash_under_challenge : List ℕ → List ℕ → List ℕ
hash_under_challenge hash challenge =
    halves_under (challenge_key challenge) (challenge_key challenge) hash

-- what undoes it
unfoldable pub hash_from_challenge : List ℕ → List ℕ → List ℕ
hash_from_challenge field challenge = des_decrypt (challenge_key challenge) (part 0 8 field)
    ++ des_decrypt (challenge_key challenge) (part 8 8 field)

-- ---- the sealed password

-- A.11, PWBLOCK: 512 octets, the password at their end and before it the first octets of the
-- filler, and then the password's length in octets
unfoldable pub plain_block : List ℕ → List ℕ → List ℕ
plain_block filler password = take (longest_nt - length password) filler
    ++ (password ++ to_le 4 (length password))

-- A.12, EncryptPwBlockWithPasswordHash(): one RC4 run over all 516, keyed by the old hash
unfoldable pub sealed_block : List ℕ → List ℕ → List ℕ → List ℕ
sealed_block old filler password = crypted old (plain_block filler password)

-- refusal 12: not 512 octets
abbrev pub bad_filler : List ℕ → Bool
bad_filler filler = not (eqb (length filler) longest_nt)

-- refusals 8, then 12
unfoldable pub sealed_as : List ℕ → List ℕ → List ℕ → Result (List ℕ) Refusal
sealed_as old password filler =
    cond (bad_nt_password password) (Err Input)
    (cond (bad_filler filler) (Err Filler) (Ok (sealed_block old filler password)))

-- the length that an opened block gives
abbrev pub length_in : List ℕ → ℕ
length_in plain = from_le (part longest_nt 4 plain)

-- of a sealed one, opened under the old hash
abbrev pub length_under : List ℕ → List ℕ → ℕ
length_under old block = length_in (crypted old block)

-- what a block with the length n holds: over 512, odd, or a password of that length
unfoldable pub content_for : ℕ → Content
content_for n = cond (ltb longest_nt n) Over (cond (eqb (n % 2) 1) Odd (Password n))

-- the password's length that it tells, or none
abbrev pub length_told : Content → Option ℕ
length_told Over = none
length_told Odd = none
length_told (Password n) = some n

-- the length of a password, or none
unfoldable pub password_length : ℕ → Option ℕ
password_length n = cond (bad_length n) none (some n)

-- a password's length as an opened block gives it
abbrev pub ValidLength : Content → Type 0
ValidLength Over = Unit {0}
ValidLength Odd = Unit {0}
ValidLength (Password n) = (n ≤ longest_nt) × (n % 2 ≡ 0)

-- opening a block: what it holds, and its 512 octets, of which a password is the last
unfoldable pub unsealed_as : List ℕ → List ℕ → Unsealed
unsealed_as old block = record {
  content = content_for (length_under old block);
  octets = fixed longest_nt (crypted old block);
}

-- the password of n octets in an opened block
unfoldable pub password_in : Unsealed → ℕ → List ℕ
password_in opened n = part (longest_nt - n) n opened.octets
