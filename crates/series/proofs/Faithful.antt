-- What holds of our box from the opening on, whatever steps come: it keeps of its last answer what
-- is seen of it, and it awaits no packet with the identifier that it answered last.
-- Assumes nothing.
use mathlib.Core.Bool.{Bool, cond}
use mathlib.Core.Path.{◌≡◌, ap}
use Prim.Native.Nat.{ℕ}
use Rattle.authenticator.specs.Opening.{Opening, opened}
use Rattle.authenticator.specs.Steps.{StepInput, step_on, BoxState, unanswered, next_after, judged}
use Rattle.authenticator.specs.Steps.{next_state, NotJudged}
use Rattle.authenticator.specs.declared.Conversation.{Conversation}
use Rattle.authenticator.proofs.Fresh.{Fresh, fresh_first, fresh_next}
use Rattle.authenticator.proofs.Openings.{opened_first}
use Rattle.authenticator.proofs.Repeats.{twice_not_judged}
use Rattle.authenticator.proofs.Seen.{
  Tracks,
  tracks_next,
  unanswered_tracks,
  not_judged_lem,
  step_claim,
}

pub record Faithful (p : BoxState) : Type 0 where
  pub tracks : Tracks p
  pub fresh : Fresh p.conversation

pub opened_faithful : (o : Opening) → (opened o).refusal ≡ 0
    → Faithful (unanswered (opened o).conversation)
opened_faithful o ok =
    let c = (opened o).conversation in
    let none = ap (λ (x : Conversation). x.last) (opened_first o ok) in
    record { tracks = unanswered_tracks c none; fresh = fresh_first c none }

pub faithful_next : (p : BoxState) (s : StepInput) → Faithful p → Faithful (next_state step_on p s)
faithful_next p s i =
    record {
      tracks = tracks_next p s i.tracks;
      fresh = fresh_next p.conversation s
          i.fresh;
    }

-- ---- a step that is not judged

module _ (p : BoxState) (s : StepInput) (i : Faithful p) (h : NotJudged step_on p s) where
  pub unjudged_none : judged step_on p s ≡ 0
  unjudged_none = ap (λ (t : Bool). cond {A = ℕ} t 1 0) (not_judged_lem p s i.tracks h)

  pub unjudged_same : next_after step_on p.conversation s ≡ p.conversation
  unjudged_same = ((step_claim p s i.tracks).leaves unjudged_none).0

-- ---- a packet given twice

pub twice_none : (p : BoxState) (s t : StepInput) → Faithful p
    → t.packet ≡ s.packet → t.buffer ≡ s.buffer
    → judged step_on (next_state step_on p s) t ≡ 0
twice_none p s t i e b =
    ap (λ (x : Bool). cond {A = ℕ} x 1 0) (twice_not_judged p s t i.tracks e b)
