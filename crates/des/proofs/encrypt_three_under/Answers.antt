-- `des::encrypt_three_under` meets its contract.
-- Assumes nothing.
use mathlib.Core.Bool.{Bool, cond}
use mathlib.Core.List.{List, ◌++◌, map}
use mathlib.Core.Path.{◌≡◌, sym, ap, ◌∙◌}
use Prim.Native.Nat.{ℕ}
use borrow.Author.Tests.{eq-eqb, ne_eqb}
use lib.ListN.{length, replicate}
use Rattle.octets.specs.Numbers.{from_be, to_be}
use Rattle.octets.specs.Parts.{part}
use Rattle.des.specs.Des.{crypt}
use Rattle.des.specs.Stored.{stored_size, unpack_key, des_under, three_under, decode_keys, keys_in}
use Rattle.des.proofs.StoredOctets.{decoded_zeros, kept_parts}
use Rattle.des.proofs.encrypt_three_under.Goals.{then-keys-eq-STORED_SIZE, else-keys-eq-STORED_SIZE}
use Rattle.des.proofs.encrypt_three_under.Goals as goal

-- the round keys, by whether there are as many octets as they take
abbrev chosen : List ℕ → Bool → List ℕ
chosen octets t = cond t (decode_keys 48 octets) (replicate 48 0)

-- a block under each of three lists of round keys, as octets
abbrev blocks : ℕ → List ℕ → List ℕ → List ℕ → List ℕ
blocks x a b c = to_be 8 (crypt a x) ++ (to_be 8 (crypt b x) ++ to_be 8 (crypt c x))

under : {a b c octets ks : List ℕ} {x : ℕ} (block : List ℕ)
    → (a ≡ map unpack_key (part 0 16 octets)) × (b ≡ map unpack_key (part 16 16 octets)) × (c ≡ map unpack_key (part 32 16 octets))
    → octets ≡ ks → x ≡ from_be block → blocks x a b c ≡ three_under ks block
unfolding three_under des_under
under block e eo ex = cc

pub returns : goal.returns
returns c =
    let s = c.if-keys-eq-STORED_SIZE.schedules.now in
    let keys = c.args.keys.now in
    let same : (decode_keys 48 s ≡ keys_in keys) × (length s ≡ 384) =
    elim c.if-keys-eq-STORED_SIZE.branch [
      | then-keys-eq-STORED_SIZE w ↦ (
        ap (λ u. decode_keys 48 u.now) w.schedules-is ∙ ap (chosen keys) (sym (eq-eqb _ stored_size w.if-keys-eq-STORED_SIZE.true)),
        ap (λ u. length u.now) w.schedules-is ∙ w.if-keys-eq-STORED_SIZE.true,
      )
      | else-keys-eq-STORED_SIZE w ↦ (
        ap (λ u. decode_keys 48 u.now) w.schedules-is ∙ decoded_zeros ∙ ap (chosen keys) (sym (ne_eqb _ stored_size w.if-keys-eq-STORED_SIZE.false)),
        ap (λ u. length u.now) w.schedules-is,
      )
    ] in
    let a = c.split_at.ensures in
    let b = c.split_at-2.ensures in
    c.crypt_three.ensures
    ∙ under c.args.block (kept_parts s _ _ _ _ a.front a.back b.front b.back same.1) same.0 c.u64_from_be.ensures
