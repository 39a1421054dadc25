-- The stored round keys of a hash fit in 64 bits each, and so they are decoded as they were
-- encoded.
-- Assumes nothing.
use mathlib.Core.Bool.{Bool, true, false, cond}
use mathlib.Core.List.{List, [], ◌∷◌, ◌++◌, map}
use mathlib.Core.Path.{◌≡◌, ap, ◌∙◌}
use Prim.Native.Nat.{ℕ, zero, suc, ◌/◌, ◌^◌, ◌<◌}
use native.Mathlib.Nat.{mod-lt}
use native.Mathlib.Omega.{arith}
use lib.Dec.{lit<}
use lib.ListN.{length, replicate, length-replicate}
use Rattle.octets.specs.Parts.{part, fixed}
use Rattle.octets.proofs.Numbers.{Below, digits_below}
use Rattle.des.specs.Des.{schedule_of}
use Rattle.des.specs.Stored.{six, pack_key, stored_schedule, three_schedules}
use Rattle.credentials.specs.Credentials.{keys_size, schedules_size, schedules_of, encode_keys}
use Rattle.credentials.proofs.Laws.{length_schedules_of}
use Rattle.credentials.proofs.KeyOctets.{keys_in_back}
use Rattle.accounts.specs.Account.{no_schedules, stored_in, schedules_for}
use Rattle.accounts.specs.declared.Hash.{Hash}
use Rattle.accounts.specs.declared.Schedules.{Schedules}
use Rattle.layouts.specs.Keys as layout
use Rattle.layouts.specs.Keys.{keys_at}

-- ---- lists of small numbers

below_none : (m : ℕ) → 0 < m → Below m []
below_none m h i = h

below_more : (m x : ℕ) (l : List ℕ) → x < m → Below m l → Below m (x ∷ l)
below_more m x l h g zero = h
below_more m x l h g (suc i) = g i

below_join : (m : ℕ) (xs ys : List ℕ) → Below m xs → Below m ys → Below m (xs ++ ys)
below_join m [] ys h g = g
below_join m (x ∷ xs) ys h g =
    below_more m x (xs ++ ys) (h 0) (below_join m xs ys (λ i. h (suc i)) g)

below_map : (m : ℕ) (f : ℕ → ℕ) → 0 < m → ((k : ℕ) → f k < m) → (l : List ℕ) → Below m (map f l)
below_map m f z h [] = below_none m z
below_map m f z h (k ∷ l) = below_more m (f k) (map f l) (h k) (below_map m f z h l)

below_zeros : (m n : ℕ) → 0 < m → Below m (replicate n 0)
below_zeros m zero z = below_none m z
below_zeros m (suc n) z = below_more m 0 (replicate n 0) z (below_zeros m n z)

-- ---- stored round keys

abbrev Fit : List ℕ → Type 0
Fit l = Below (2 ^ 64) l

six_small : (s k : ℕ) → six s k < 256
six_small s k = omega (arith, mod-lt (k / 2 ^ s) (lit< {m = 0} {n = 64} tt))

packed_fits : (k : ℕ) → pack_key k < 2 ^ 64
unfolding pack_key
packed_fits k =
    let places : List ℕ = 42 ∷ 30 ∷ 18 ∷ 6 ∷ 36 ∷ 24 ∷ 12 ∷ 0 ∷ [] in
    digits_below 8 (map (λ (s : ℕ). six s k) places)
    (below_map 256 (λ (s : ℕ). six s k) (lit< tt) (λ s. six_small s k) places)

schedule_fits : (key : List ℕ) → Fit (stored_schedule key)
unfolding stored_schedule
schedule_fits key = below_map (2 ^ 64) pack_key (lit< tt) packed_fits (schedule_of key)

of_fits : (hash : List ℕ) → Fit (schedules_of hash)
unfolding schedules_of three_schedules
of_fits hash =
    let keys = fixed keys_size hash in
    let one = part 0 7 keys in
    let two = part 7 7 keys in
    let three = part 14 7 keys in
    below_join (2 ^ 64) (stored_schedule one) (stored_schedule two ++ stored_schedule three)
    (schedule_fits one)
    (below_join (2 ^ 64) (stored_schedule two) (stored_schedule three) (schedule_fits two)
    (schedule_fits three))

for_fits : (h : Hash) → Fit (schedules_for h).keys
for_fits h = which h.present
  where
    which : (p : Bool) → Fit (cond {A = Schedules} p (record { keys = schedules_of h.octets })
        no_schedules).keys
    which true = of_fits h.octets
    which false = below_zeros (2 ^ 64) schedules_size (lit< tt)

pub for_length : (h : Hash) → length (schedules_for h).keys ≡ schedules_size
for_length h = which h.present
  where
    which : (p : Bool) → length (cond {A = Schedules} p
        (record { keys = schedules_of h.octets }) no_schedules).keys ≡ schedules_size
    which true = length_schedules_of h.octets
    which false = length-replicate {A = ℕ} schedules_size 0

-- ---- decoded as they were encoded

-- round keys that are decoded from bytes that are theirs
pub keys_found : (at : ℕ) (bytes : List ℕ) (h : Hash)
    → part at layout.keys_size bytes ≡ encode_keys (schedules_for h).keys → keys_at at bytes ≡ schedules_for h
keys_found at bytes h e =
    ap stored_in e
    ∙ ap (λ (l : List ℕ). let s : Schedules = record { keys = l } in s)
    (keys_in_back (schedules_for h).keys (for_length h) (for_fits h))
