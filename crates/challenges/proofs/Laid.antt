-- A challenge and those that follow it by the 23 rule, laid one behind the other.
-- Assumes nothing.
use Rattle.std.proofs.Common.{◌≡◌, ℕ, zero, suc, ◌+◌, ◌-◌, ◌<◌, List, ◌∷◌, ◌++◌, length, take, sym}
use Rattle.std.proofs.Common.{refl, ap, ◌∙◌, ap₂, append_assoc, append-nil, arith, take_all}
use Rattle.std.proofs.Common.{add-one, take-suc-set, []}
use mathlib.Core.List.{flatten}
use lib.ListN.{set}
use Rattle.std.specs.List.{flat_map}
use Rattle.challenges.specs.Challenges.{incremented, challenges_from}

challenges_from_next : (n : ℕ) (c : List ℕ) → 0 < n → challenges_from n c ≡ c ∷ challenges_from (n - 1) (incremented c)
unfolding challenges_from
challenges_from_next zero c h = absurd (omega arith)
challenges_from_next (suc k) c h = let e : k ≡ suc k - 1 = omega arith in ap (λ (m : ℕ). c ∷ challenges_from m (incremented c)) e

pub length_challenges_from : (n : ℕ) (c : List ℕ) → length (challenges_from n c) ≡ n
unfolding challenges_from
length_challenges_from zero c = refl
length_challenges_from (suc n) c = ap suc (length_challenges_from n (incremented c))

-- one turn of the loop: i challenges lie in run, and the rest follow from c
pub laid_next : (run : List (List ℕ)) (c : List ℕ) (all : List (List ℕ)) (i : ℕ) {next : List ℕ} → i < 8 → length run ≡ 8 → next ≡ incremented c
    → take i run ++ challenges_from (8 - i) c ≡ all → take (i + 1) (set run i c) ++ challenges_from (8 - (i + 1)) next ≡ all
laid_next run c all i {next} h long f inv =
    let less : 8 - (i + 1) ≡ 8 - i - 1 = omega arith in
    ap₂ (λ (x y : List (List ℕ)). x ++ y) (ap (λ (n : ℕ). take n (set run i c)) (add-one i) ∙ take-suc-set run i c (omega arith)) (ap₂ challenges_from less f)
    ∙ append_assoc (take i run) (c ∷ []) (challenges_from (8 - i - 1) (incremented c))
    ∙ ap (λ (x : List (List ℕ)). take i run ++ x) (sym (challenges_from_next (8 - i) c (omega arith)))
    ∙ inv

pub laid_all : (run : List (List ℕ)) (c : List ℕ) (all : List (List ℕ)) (i : ℕ) → i ≡ 8 → length run ≡ 8 → take i run ++ challenges_from (8 - i) c ≡ all → run ≡ all
unfolding challenges_from
laid_all run c all i e long inv =
    sym (ap (λ (k : ℕ). take k run ++ challenges_from (8 - k) c) e ∙ append-nil (take 8 run) ∙ take_all 8 run (omega arith)) ∙ inv

pub flat_flatten : (l : List (List ℕ)) → flat_map (λ x. x) l ≡ flatten l
unfolding flatten
flat_flatten [] = refl
flat_flatten (x ∷ l) = ap (λ (m : List ℕ). x ++ m) (flat_flatten l)
