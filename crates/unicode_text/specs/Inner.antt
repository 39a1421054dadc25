-- What the code's parts answer. Only contracts of private functions cite this, and `Coded` the law.
-- Assumes nothing: these are definitions, and a law of `Coded`, which is proved where it is stated.
use Rattle.std.specs.Prelude.{cond, Option, Some, None, eqb, List, ℕ, ◌≡◌, ◌≤◌, length, take}
use Rattle.std.proofs.Common.{ap, ◌∙◌, subst, sym, length-take-le}
use Rattle.octets.specs.Parts.{fixed}
use Rattle.octets.proofs.Parts.{length_fixed}
use Rattle.unicode_text.specs.declared.encoding.Char.{Char}

-- a character, or none where the octets are malformed
abbrev pub found : Char → Option Char
found c = cond (eqb c.width 0) None (Some c)

-- how many octets there are, from a room that is blank behind them
pub size_back : (n size : ℕ) (octets : List ℕ) → (size ≤ n) × (octets ≡ fixed n (take size octets))
    → length (take size octets) ≡ size
size_back n size octets h =
    let room = ap length h.1 ∙ length_fixed n (take size octets) in
    length-take-le size octets (subst (λ (k : ℕ). size ≤ k) (sym room) h.0)
