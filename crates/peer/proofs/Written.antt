-- What the peer's writers answer: a password or a filler that is refused, or what the packet's
-- writer answers.
-- Assumes nothing.
use mathlib.Core.Path.{◌≡◌, refl, ap, ◌∙◌}
use mathlib.Core.Bool.{Bool, true, false, cond}
use mathlib.Core.List.{List}
use Prim.Native.Nat.{ℕ}
use Rattle.std.specs.Prelude.{Result, Ok, Err}
use Rattle.refusals.specs.Refusal.{number}
use Rattle.refusals.specs.declared.Refusal.{Refusal}
use Rattle.packets.specs.Frame.{written_as, answer_by, out_by}
use Rattle.packets.proofs.Writing.{nothing_written}
use Rattle.peer.specs.Write.{Wrote, wrote_by}

-- a test that refuses, and the value where it does not
module _ {A : Type 0} (r : Refusal) (x : A) where
  pub refused_there : (b : Bool) {e : Refusal} → cond {A = Result A Refusal} b (Err r) (Ok x) ≡ Err e
      → (b ≡ true) × (e ≡ r)
  refused_there true h = (refl, cc)
  refused_there false h = absurd (cc)

  pub passed_there : (b : Bool) {y : A} → cond {A = Result A Refusal} b (Err r) (Ok x) ≡ Ok y
      → (b ≡ false) × (y ≡ x)
  passed_there true h = absurd (cc)
  passed_there false h = (refl, cc)

-- what is answered and left in the buffer
abbrev pub Left : Wrote → Result ℕ Refusal → List ℕ → Type 0
Left w answer after = (written_as answer ≡ w.answer) × (after ≡ w.out)

pub refused_whole : (packet out : List ℕ) (n : ℕ) (r : Refusal) {answer : Result ℕ Refusal}
    → answer ≡ Err r → number r ≡ n → Left (wrote_by n packet out) answer out
refused_whole packet out n r e h =
    let done = nothing_written packet out n r h in
    (ap written_as e ∙ done.0, done.1)

-- the packet's writer goes by its own refusal, which is the whole one
pub written_whole : (packet out : List ℕ) {m n : ℕ} (answer : Result ℕ Refusal) {after : List ℕ}
    → m ≡ n → written_as answer ≡ answer_by m packet → after ≡ out_by m packet out
    → Left (wrote_by n packet out) answer after
written_whole packet out answer e f g =
    (f ∙ ap (λ (k : ℕ). answer_by k packet) e, g ∙ ap (λ (k : ℕ). out_by k packet out) e)
