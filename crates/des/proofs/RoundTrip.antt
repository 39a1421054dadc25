-- Decryption undoes encryption: for every list of round keys, and so for every key and every block
-- of eight octets.
-- Assumes nothing.
use mathlib.Core.Path.{◌≡◌, ap, ap₂, ◌∙◌, subst}
use mathlib.Core.List.{List, [], ◌∷◌, reverse, reverse_aux}
use Prim.Native.Nat.{ℕ, ◌*◌, ◌/◌, ◌%◌, ◌^◌, ◌<◌}
use native.Mathlib.Nat.{mod-eq_of_lt}
use native.Mathlib.Omega.{arith}
use lib.ListN.{length}
use lib.Pow.{split, high, low}
use lib.Bits.{bit_xor, xor_lt}
use Rattle.octets.specs.Numbers.{from_be, to_be}
use Rattle.octets.proofs.Numbers.{Octets, from_be-lt, from_be-to_be, to_be-from_be}
use Rattle.octets.proofs.Xor.{xor_undo}
use Rattle.des.specs.Tables.{ip, fp, permutation}
use Rattle.des.specs.Des.{permute, cipher_f, rounds, crypt, schedule_of, des_encrypt, des_decrypt}
use Rattle.des.proofs.Linear.{agree, lin_id, lin_after}
use Rattle.des.proofs.Permute.{lin_permute, permute_lt}

-- ---- blocks of 64 bits

ip_fp : (n : ℕ) → n < 2 ^ 64 → permute 64 ip (permute 64 fp n) ≡ n
unfolding ip fp
ip_fp = agree (λ n. permute 64 ip (permute 64 fp n)) (λ n. n) (lin_after (lin_permute 64 ip) (lin_permute 64 fp)) lin_id 64 tt

fp_ip : (n : ℕ) → n < 2 ^ 64 → permute 64 fp (permute 64 ip n) ≡ n
unfolding ip fp
fp_ip = agree (λ n. permute 64 fp (permute 64 ip n)) (λ n. n) (lin_after (lin_permute 64 fp) (lin_permute 64 ip)) lin_id 64 tt

ip_lt : (n : ℕ) → permute 64 ip n < 2 ^ 64
unfolding ip
ip_lt n = permute_lt 64 n ip

pub f_lt : (r k : ℕ) → cipher_f r k < 2 ^ 32
unfolding cipher_f permutation
f_lt r k = permute_lt 32 _ permutation

rounds_lt : (ks : List ℕ) (l r : ℕ) → l < 2 ^ 32 → r < 2 ^ 32 → rounds ks l r < 2 ^ 64
rounds_lt [] l r hl hr = omega arith
rounds_lt (k ∷ ks) l r hl hr = rounds_lt ks r (bit_xor l (cipher_f r k)) hr (xor_lt 32 l (cipher_f r k) hl (f_lt r k))

-- the rounds under ks, undone, go on with js from where ks began, L and R exchanged
back : (ks js : List ℕ) (l r : ℕ) → l < 2 ^ 32 → r < 2 ^ 32
    → rounds (reverse_aux ks js) (rounds ks l r / 2 ^ 32) (rounds ks l r % 2 ^ 32) ≡ rounds js r l
back [] js l r hl hr = ap₂ (rounds js) (high r 32 hl) (low r 32 hl)
back (k ∷ ks) js l r hl hr =
    back ks (k ∷ js) r (bit_xor l (cipher_f r k)) hr (xor_lt 32 l (cipher_f r k) hl (f_lt r k))
    ∙ ap (rounds js r) (xor_undo l (cipher_f r k))

pub crypt_lt : (ks : List ℕ) (n : ℕ) → crypt ks n < 2 ^ 64
unfolding crypt fp
crypt_lt ks n = permute_lt 64 _ fp

pub undone : (ks : List ℕ) (n : ℕ) → n < 2 ^ 64 → crypt (reverse ks) (crypt ks n) ≡ n
unfolding crypt
undone ks n h =
    let m = permute 64 ip n in
    let small = ip_lt n in
    let hl : m / 2 ^ 32 < 2 ^ 32 = omega arith in
    let hr : m % 2 ^ 32 < 2 ^ 32 = omega arith in
    ap (λ (z : ℕ). permute 64 fp (rounds (reverse ks) (z / 2 ^ 32) (z % 2 ^ 32))) (ip_fp (rounds ks (m / 2 ^ 32) (m % 2 ^ 32)) (rounds_lt ks _ _ hl hr))
    ∙ ap (permute 64 fp) (back ks [] (m / 2 ^ 32) (m % 2 ^ 32) hl hr ∙ split m 32)
    ∙ fp_ip n h

-- ---- blocks of eight octets

-- under any round keys, and then under the same in the opposite order
pub undone_block : (ks block : List ℕ) → length block ≡ 8 → Octets block
    → to_be 8 (crypt (reverse ks) (from_be (to_be 8 (crypt ks (from_be block))))) ≡ block
undone_block ks block n o =
    ap (λ (m : ℕ). to_be 8 (crypt (reverse ks) m)) (from_be-to_be 8 (crypt ks (from_be block)) ∙ mod-eq_of_lt (crypt_lt ks (from_be block)))
    ∙ ap (to_be 8) (undone ks (from_be block) (subst (λ (k : ℕ). from_be block < 2 ^ (8 * k)) n (from_be-lt block o)))
    ∙ subst (λ (k : ℕ). to_be k (from_be block) ≡ block) n (to_be-from_be block o)

pub decrypt_encrypt : (key block : List ℕ) → length block ≡ 8 → Octets block → des_decrypt key (des_encrypt key block) ≡ block
unfolding des_decrypt des_encrypt
decrypt_encrypt key block n o = undone_block (schedule_of key) block n o
