-- One turn of each loop of the code: the identity, the key schedule, the data. The last two share
-- the look-ahead.
-- Assumes nothing.
use Rattle.std.proofs.Common.{◌≡◌, ℕ, zero, suc, ◌∷◌, map, zero-add, ◌+◌, ◌%◌, ◌<◌, ◌≤◌, cond, eqb}
use Rattle.std.proofs.Common.{List, [], ◌++◌, length, get_or, take, drop, set, sym, refl, ap, ◌∙◌}
use Rattle.std.proofs.Common.{ap₂, append-nil, mod-lt, zero-lt-suc, add-one, arith, length-set}
use Rattle.std.proofs.Common.{drop_of_length-le, take_all, drop-cons, take-suc-set, drop-set-lt}
use native.Mathlib.Nat.{mod-add-mod}
use lib.Bits.{bit_xor}
use Rattle.std.specs.List.{range_with_len}
use Rattle.std.proofs.lemmas.List.FromFn.{map-range_with_len_more}
use lib.Seq.{append_snoc}
use Rattle.rc4.specs.declared.State.{State}
use Rattle.rc4.specs.Rc4.{swapped, upto, mix_j, mix, mixed, next_i, next_j, next_state}
use Rattle.rc4.specs.Rc4.{output_octet, keystream, later_state, xors, ciphered}
use Rattle.rc4.proofs.Exchange.{ahead, sum_swapped, length_swapped}

-- ---- the identity

pub upto_range : (n : ℕ) → map (λ (k : ℕ). k) (range_with_len 0 n) ≡ upto n
unfolding upto
upto_range zero = refl
upto_range (suc n) =
    ap (λ (m : ℕ). map (λ (k : ℕ). k) (range_with_len 0 m)) (sym (add-one n))
    ∙ map-range_with_len_more (λ (k : ℕ). k) 0 n n (zero-add n) ∙ ap (λ (l : List ℕ). l ++ n ∷ []) (upto_range n)

-- one entry more
pub upto_turn : (s : List ℕ) (i : ℕ) → i < length s → take i s ≡ upto i → take (i + 1) (set s i i) ≡ upto (i + 1)
unfolding upto
upto_turn s i h e = rw (add-one, take-suc-set s i, e)

-- ---- the look-ahead of both loops

-- a is the entry at i, the place that a turn begins with
pub record Ready (s : List ℕ) (i a : ℕ) : Type 0 where
  pub long : length s ≡ 256
  pub first : a ≡ get_or s i 0

pub ready_at : {s : List ℕ} {i i' a : ℕ} → Ready s i a → i' ≡ i → Ready s i' a
ready_at {s} r e = record { long = r.long; first = r.first ∙ ap (λ (x : ℕ). get_or s x 0) (sym e) }

-- after the exchange of i and j: k is the place after i, read before the exchange, and a' what the
-- choice makes of it
pub ready_turn : {s s' : List ℕ} {i j k a a' : ℕ} → Ready s i a → i < 256 → j < 256 → s' ≡ swapped s i j → k ≡ (i + 1) % 256
    → a' ≡ cond (eqb k j) a (get_or s k 0) → Ready s' ((i + 1) % 256) a'
ready_turn {s} {s'} {i} {j} {k} {a} {a'} r hi hj es ek ea = record {
  long = ap length es ∙ length_swapped s i j ∙ r.long;
  first =
      ea ∙ ap (λ (x : ℕ). cond (eqb k j) x (get_or s k 0)) r.first ∙ ahead s i j (omega (arith, r.long)) k (λ q. omega (arith, q, ek))
      ∙ ap₂ (λ (l : List ℕ) (x : ℕ). get_or l x 0) (sym es) ek;
}

-- ---- the key schedule

pub mixed_turn : (key : List ℕ) {s s' : List ℕ} {n j a b j' : ℕ} → ◌≡◌ {A = State} (record { s = s; i = n; j = j }) (mixed key n) → Ready s n a
    → b ≡ (j + a) % 256 → j' ≡ (b + get_or key (n % length key) 0) % 256 → s' ≡ swapped s n j'
    → ◌≡◌ {A = State} (record { s = s'; i = n + 1; j = j' }) (mixed key (n + 1))
unfolding mixed mix mix_j
mixed_turn key {s} {s'} {n} {j} {a} {b} {j'} e r eb ej es =
    let k : j' ≡ (j + get_or s n 0 + get_or key (n % length key) 0) % 256 = ej ∙ rw (eb, mod-add-mod, r.first) refl in
    rw (add-one, ← e, es, k, add-one)

-- ---- the data

-- a step by what the look-ahead read: the state that it reaches, and the octet that this state
-- gives
pub step_turn : (w : State) {s' : List ℕ} {a i' j' b x : ℕ} → i' ≡ (w.i + 1) % 256 → Ready w.s i' a → j' ≡ (w.j + a) % 256
    → s' ≡ swapped w.s i' j' → b ≡ get_or w.s j' 0 → x ≡ (a + b) % 256
    → (◌≡◌ {A = State} (record { s = s'; i = i'; j = j' }) (next_state w)) × (get_or s' x 0 ≡ output_octet (next_state w))
unfolding output_octet next_state next_i next_j
step_turn w {s'} {a} {i'} {j'} {b} {x} ei r ej es eb ex = (reached, ap (λ (y : ℕ). get_or s' y 0) (ex ∙ total) ∙ ap output_octet reached)
  where
    stepped : j' ≡ (w.j + get_or w.s ((w.i + 1) % 256) 0) % 256
    stepped = ej ∙ ap (λ (y : ℕ). (w.j + y) % 256) (r.first ∙ ap (λ (y : ℕ). get_or w.s y 0) ei)

    reached : ◌≡◌ {A = State} (record { s = s'; i = i'; j = j' }) (next_state w)
    reached = cc

    below : (y : ℕ) → y % 256 < length w.s
    below y = rw r.long (mod-lt y (zero-lt-suc 255))

    total : (a + b) % 256 ≡ (get_or s' i' 0 + get_or s' j' 0) % 256
    total =
        ap₂ (λ (y z : ℕ). (y + z) % 256) r.first eb
        ∙ ap (λ (y : ℕ). y % 256) (sym (sum_swapped w.s i' j' (rw ej (below (w.j + a))) (rw ei (below (w.i + 1)))))
        ∙ ap (λ (l : List ℕ). (get_or l i' 0 + get_or l j' 0) % 256) (sym es)

-- n octets are done, and doing the rest from here gives what was asked of the state w₀ and the data
-- d₀
pub record Done (w₀ : State) (d₀ : List ℕ) (w : State) (d : List ℕ) (n : ℕ) : Type 0 where
  pub within : n ≤ length d
  pub long : length d ≡ length d₀
  pub text : take n d ++ ciphered w (drop n d) ≡ ciphered w₀ d₀
  pub state : later_state (length (drop n d)) w ≡ later_state (length d₀) w₀

pub none_done : (w : State) (d : List ℕ) → Done w d w d 0
none_done w d = record { within = omega arith; long = refl; text = refl; state = refl }

module _ {w₀ : State} {d₀ : List ℕ} {w : State} {d : List ℕ} {n : ℕ} (h : Done w₀ d₀ w d n) where
  pub one_done : {w' : State} {o : ℕ} → n < length d → (w' ≡ next_state w) × (o ≡ output_octet (next_state w))
      → Done w₀ d₀ w' (set d n (bit_xor (get_or d n 0) o)) (n + 1)
  unfolding ciphered keystream xors later_state
  one_done {w'} {o} l e =
      let t : n < suc n = omega arith in rw (e.0, e.1) (record {
        within = simp length-set (omega arith);
        long = simp length-set h.long;
        text =
            rw (add-one, take-suc-set d n, drop-set-lt (suc n) d n)
            (append_snoc (take n d) (bit_xor (get_or d n 0) (output_octet (next_state w))) (ciphered (next_state w) (drop (suc n) d)) ∙ rw (drop-cons d n 0) at h.text);
        state = rw (add-one, drop-set-lt (suc n) d n) (rw (drop-cons d n 0) at h.state);
      })

  pub all_done : length d ≤ n → (w ≡ later_state (length d₀) w₀) × (d ≡ ciphered w₀ d₀)
  unfolding later_state ciphered keystream xors
  all_done l =
      let e : drop n d ≡ [] = drop_of_length-le d l in
      let t : take n d ≡ d = take_all n d l in
      (rw e at h.state, sym (append-nil d) ∙ rw (t, e) at h.text)
