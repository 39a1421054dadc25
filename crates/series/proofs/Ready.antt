-- A place that is ready for the packets that are due: box and peer agree on identifier and
-- challenge, the conversation's phase, retries and kept record are fit for those packets, and so is
-- the record last handed out. It is so after an opening, and after each packet that draws what it
-- should.
-- Assumes nothing.
use mathlib.Core.Bool.{Bool, true, false, cond}
use mathlib.Core.List.{List, [], ◌∷◌}
use mathlib.Core.Path.{◌≡◌, refl, sym, ap, ◌∙◌, subst}
use Prim.Native.Nat.{ℕ, zero, suc, ◌+◌, ◌-◌, ◌≤◌, ◌<◌}
use native.Mathlib.Omega.{arith}
use lib.ListN.{length}
use Rattle.packets.specs.Reply.{ChallengeFields}
use Rattle.std.specs.Prelude.{None, Ok}
use Rattle.message.specs.Message.{called_for}
use Rattle.message.specs.declared.Verdict.TheVariants.{Success}
use Rattle.message.specs.Reasons.{password_expired}
use Rattle.challenges.specs.Challenges.{next_id, incremented}
use Rattle.accounts.specs.Account.{blank_entry, entry_of, with_failures}
use Rattle.authenticator.specs.Conversation.{ended, retried, awaiting_change}
use Rattle.authenticator.specs.Opening.{Opening, opened}
use Rattle.authenticator.specs.Judge.{Judgement}
use Rattle.accounts.specs.declared.Account.{Account}
use Rattle.accounts.specs.declared.Entry.{Entry}
use Rattle.accounts.specs.declared.Lookup.{Lookup}
use Rattle.authenticator.specs.Encode.{version}
use Rattle.verify.specs.declared.ChangeVersion.{ChangeVersion}
use Rattle.verify.specs.declared.ChangeVersion.TheVariants.{One, Two}
use Rattle.verify.specs.declared.Terms.{Terms}
use Rattle.verify.specs.Lockout.{one_more}
use Rattle.verify.proofs.Counting.{at_most_one_more}
use Rattle.authenticator.specs.Judge.{reason_of}
use Rattle.authenticator.proofs.Judged.{try_again, expired_for, accepted}
use Rattle.authenticator.proofs.Replies.{reading_for}
use Rattle.authenticator.specs.declared.Conversation.{Conversation}
use Rattle.authenticator.specs.declared.Phase.{Phase}
use Rattle.authenticator.specs.declared.Phase.TheVariants.{Response, Change, Ended}
use Rattle.authenticator.proofs.Openings.{opened_first}
use Rattle.peer.specs.Turn.{change_turn, turn_for, next_turn}
use Rattle.peer.specs.declared.Turn.{Turn}
use Rattle.series.specs.Series.{PacketKind, Invalid, Right, PasswordChange, plan, start}
use Rattle.series.proofs.RoundTrips.{challenge_read_lem}
use Rattle.series.proofs.Taken.{InStep}
use Rattle.series.proofs.Exchanged.{sent_by}

-- ---- the conversation is fit for the packets that are due

-- the record that is kept is the one that was handed out: it counts no failures
abbrev pub kept_for : Account → Entry
kept_for a = cond a.expired (entry_of (with_failures 0 a)) blank_entry

-- the change that is due is the one that the terms name, v
abbrev pub Fit : Account → ChangeVersion → List PacketKind → Phase → ℕ → Entry → Type 0
Fit a v [] ph r kept = ph ≡ Ended
Fit a v (Invalid ∷ ks) ph r kept = (ph ≡ Response) × (0 < r) × Fit a v ks ph (r - 1) kept
Fit a v (Right ∷ ks) ph r kept =
    (ph ≡ Response) × Fit a v ks (cond a.expired Change Ended) r (kept_for a)
Fit a v (PasswordChange u ∷ ks) ph r kept =
    (ph ≡ Change) × (kept ≡ entry_of (with_failures 0 a)) × Fit a v ks Ended r blank_entry × (v ≡ u)

abbrev pub FitIn : Account → Terms → List PacketKind → Conversation → Type 0
FitIn a t due c = Fit a t.change due c.phase c.retries c.kept

fit_last : (x : Bool) (a : Account) (v : ChangeVersion) (r : ℕ)
    → Fit a v (cond x (PasswordChange v ∷ []) []) (cond x Change Ended) r
    (cond x (entry_of (with_failures 0 a)) blank_entry)
fit_last true a v r = (refl, refl, refl, refl)
fit_last false a v r = refl

pub fit_plan : (k : ℕ) (a : Account) (v : ChangeVersion) (r : ℕ) (kept : Entry) → k ≤ r
    → Fit a v (plan k v a.expired) Response r kept
fit_plan zero a v r kept h = (refl, fit_last a.expired a v r)
fit_plan (suc k) a v r kept h = (refl, omega arith, fit_plan k a v (r - 1) kept (omega arith))

-- an ended conversation is fit for no packet
none_due : (a : Account) (v : ChangeVersion) (ks : List PacketKind) (r : ℕ) (kept : Entry)
    → Fit a v ks Ended r kept → ks ≡ []
none_due a v [] r kept f = refl
none_due a v (Invalid ∷ ks) r kept f = absurd (let e = f.0 in let z : ◌≡◌ {A = ℕ} 0 1 = cc in omega arith)
none_due a v (Right ∷ ks) r kept f = absurd (let e = f.0 in let z : ◌≡◌ {A = ℕ} 0 1 = cc in omega arith)
none_due a v (PasswordChange u ∷ ks) r kept f = absurd (let e = f.0 in let z : ◌≡◌ {A = ℕ} 0 1 = cc in omega arith)

-- ---- the record is fit for them: the first one but for its count, which is below the limit even
-- after the invalid tries that are due

abbrev invalids : List PacketKind → ℕ
invalids [] = 0
invalids (Invalid ∷ ks) = suc (invalids ks)
invalids (Right ∷ ks) = invalids ks
invalids (PasswordChange v ∷ ks) = invalids ks

pub record Counts (a : Account) (limit : ℕ) (due : List PacketKind) (b : Account) : Type 0 where
  pub same : b ≡ with_failures b.failures a
  pub below : b.failures + invalids due < limit

-- where nothing is due, any record will do
abbrev pub FitRecord : Account → ℕ → List PacketKind → Account → Type 0
FitRecord a limit [] b = Unit {0}
FitRecord a limit (k ∷ ks) b = Counts a limit (k ∷ ks) b

fit_counts : (a : Account) (limit : ℕ) (due : List PacketKind) (b : Account) → Counts a limit due b → FitRecord a limit due b
fit_counts a limit [] b h = tt
fit_counts a limit (k ∷ ks) b h = h

pub fit_first : (a : Account) (limit k : ℕ) (v : ChangeVersion) → a.failures + k < limit
    → FitRecord a limit (plan k v a.expired) a
fit_first a limit k v h =
    fit_counts a limit (plan k v a.expired) a
    (record { same = refl; below = omega (arith, h, many k a.expired) })
  where
    last : (x : Bool) → invalids (cond x (PasswordChange v ∷ []) []) ≡ 0
    last true = refl
    last false = refl

    many : (k : ℕ) (x : Bool) → invalids (plan k v x) ≡ k
    many zero x = last x
    many (suc k) x = ap suc (many k x)

-- after an invalid try that was passed another record or none, or this one
pub fit_another : (a : Account) (limit : ℕ) (due : List PacketKind) (b : Account) → Counts a limit (Invalid ∷ due) b → FitRecord a limit due b
fit_another a limit due b h = fit_counts a limit due b (record { same = h.same; below = omega (arith, h.below) })

pub fit_counted : (a : Account) (limit : ℕ) (due : List PacketKind) (b d : Account) → Counts a limit (Invalid ∷ due) b
    → d ≡ with_failures (one_more b.failures) b → FitRecord a limit due d
fit_counted a limit due b d h e =
    let n = ap (λ (x : Account). x.failures) e in
    fit_counts a limit due d (record {
      same = e ∙ ap (with_failures (one_more b.failures)) h.same ∙ ap (λ (k : ℕ). with_failures k a) (sym n);
      below = omega (arith, n, h.below, at_most_one_more b.failures);
    })

-- after the right password
pub fit_cleared : (a : Account) (limit : ℕ) (due : List PacketKind) (b d : Account) → Counts a limit (Right ∷ due) b
    → d ≡ with_failures 0 a → FitRecord a limit due d
fit_cleared a limit due b d h e =
    let n = ap (λ (x : Account). x.failures) e in
    fit_counts a limit due d (record {
      same = e ∙ ap (λ (k : ℕ). with_failures k a) (sym n);
      below = omega (arith, n, h.below);
    })

-- after the change
pub fit_changed : (a : Account) (v : ChangeVersion) (limit : ℕ) (due : List PacketKind) (r : ℕ)
    (kept : Entry) (d : Account) → Fit a v due Ended r kept → FitRecord a limit due d
fit_changed a v limit due r kept d f =
    subst (λ (ks : List PacketKind). FitRecord a limit ks d) (sym (none_due a v due r kept f)) tt

-- ---- box and peer are in step

module _ (o : Opening) (ok : (opened o).refusal ≡ 0) (eight : length o.challenge ≡ 8) (behind : List ℕ) where
  pub opened_in_step : (a : Account) → InStep (opened o).conversation (start o behind a).peer.turn
  opened_in_step a =
      let c = opened_first o ok in
      let q = challenge_read_lem o ok eight behind in
      record {
        id = ap (λ (x : Conversation). x.id) c ∙ sym (ap (λ (x : ChallengeFields). x.id) q);
        challenge = ap (λ (x : Conversation). x.challenge) c ∙ sym (ap (λ (x : ChallengeFields). x.challenge) q);
      }

-- the right password, by whether the record is expired: what it draws
abbrev pub drawn_right : Bool → Conversation → Account → Judgement
drawn_right x c a = cond x (expired_for c (with_failures 0 a)) (accepted c (with_failures 0 a))

pub right_small : (x : Bool) (c : Conversation) (a : Account)
    → reason_of (drawn_right x c a).reply < 1000
right_small true c a = omega arith
right_small false c a = omega arith

module _ (c : Conversation) (t : Turn) (h : InStep c t) where
  -- after 691, R=1
  pub retried_in_step : (u : Lookup)
      → InStep (retried c) (next_turn (sent_by t) (reading_for c.terms (try_again c u).reply))
  unfolding next_turn called_for
  retried_in_step u = record { id = ap next_id h.id; challenge = ap incremented h.challenge }

  -- after 648, whichever change V calls for
  kept_in_step : (a : Account)
      → InStep (awaiting_change c (entry_of a))
      (next_turn (sent_by t) (reading_for c.terms (expired_for c a).reply))
  unfolding next_turn called_for
  kept_in_step a =
      subst (InStep (awaiting_change c (entry_of a))) (sym (called c.terms.change))
      (record { id = ap next_id h.id; challenge = h.challenge })
    where
      called : (v : ChangeVersion)
          → turn_for (called_for password_expired 0 (version v)) (sent_by t).sent None
          ≡ change_turn (sent_by t).sent
      called One = refl
      called Two = refl

  pub ended_in_step : InStep (ended c) (next_turn (sent_by t) (Ok Success))
  unfolding next_turn
  ended_in_step = record { id = h.id; challenge = h.challenge }

  pub right_in_step : (x : Bool) (a : Account)
      → InStep (drawn_right x c a).next
      (next_turn (sent_by t) (reading_for c.terms (drawn_right x c a).reply))
  right_in_step true a = kept_in_step (with_failures 0 a)
  right_in_step false a = ended_in_step

pub right_fit : (x : Bool) (c : Conversation) (a b : Account) (t : Terms) (due : List PacketKind)
    → Fit b t.change due (cond x Change Ended) c.retries
    (cond x (entry_of (with_failures 0 a)) blank_entry)
    → FitIn b t due (drawn_right x c a).next
right_fit true c a b t due f = f
right_fit false c a b t due f = f
