-- "Octets after Length are padding and ignored" (document 01), for whole steps: a packet with a
-- good frame, cut at its Length with any octets behind, makes the same step, refused, repeated or
-- judged, in any conversation.
-- Assumes nothing.
use mathlib.Core.Bool.{Bool, true, false, cond}
use mathlib.Core.List.{List, ◌++◌}
use mathlib.Core.Path.{◌≡◌, refl, sym, ap, ◌∙◌}
use Prim.Native.Nat.{ℕ}
use native.Mathlib.Omega.{arith}
use lib.ListN.{take}
use Rattle.packets.specs.Frame.{length_of, bad_frame}
use Rattle.packets.specs.Response.{bad_response_size, bad_response_flag, response_refusal}
use Rattle.packets.specs.Change.{bad_change_size, bad_change_flags, change_refusal}
use Rattle.packets.specs.ChangeOne.{bad_change_one_size, bad_change_one_flags, change_one_refusal}
use Rattle.packets.proofs.Padding.{
  SamePacket,
  cut_at_length,
  same_code,
  same_id,
  same_response_refusal,
  same_response,
  same_change_refusal,
  same_change,
  same_change_one_refusal,
  same_change_one,
}
use Rattle.verify.specs.declared.ChangeVersion.{ChangeVersion}
use Rattle.verify.specs.declared.ChangeVersion.TheVariants.{One, Two}
use Rattle.verify.specs.Change.{checked_change}
use Rattle.verify.specs.ChangeOne.{checked_change_one}
use Rattle.authenticator.specs.Judge.{judge_change, judge_response, judge_in, judge}
use Rattle.authenticator.specs.Judge.{change_judgement, checked_for}
use Rattle.authenticator.specs.Admit.{is_repeat, change_refusal_of, body_refusal}
use Rattle.authenticator.specs.Admit.{refusal_for, step_refusal}
use Rattle.authenticator.specs.Judge.{Judgement}
use Rattle.authenticator.specs.Step.{judged_as, refused_as, step}
use Rattle.accounts.specs.declared.Lookup.{Lookup}
use Rattle.authenticator.proofs.Steps.{Case, refused, repeated, judged, case_of, judged_step}
use Rattle.authenticator.proofs.Steps.{repeated_step, refused_step}
use Rattle.authenticator.proofs.Admitted.{passes, passed}
use Rattle.authenticator.specs.declared.LastAnswer.{LastAnswer}
use Rattle.authenticator.specs.declared.Conversation.{Conversation}
use Rattle.authenticator.specs.declared.Phase.{Phase}
use Rattle.authenticator.specs.declared.Phase.TheVariants.{Response, Change, Ended}

-- neither 6 nor 7: the size is good
size_good : (t u : Bool) → ◌≡◌ {A = ℕ} (cond t 6 (cond u 7 0)) 0 → t ≡ false
size_good true u e = absurd (omega arith)
size_good false u e = refl

module _ (p q : List ℕ) (s : SamePacket p q) where
  same_body : (v : ChangeVersion) (ph : Phase) → body_refusal v ph q ≡ body_refusal v ph p
  same_body v Response = same_response_refusal p q s
  same_body One Change = same_change_one_refusal p q s
  same_body Two Change = same_change_refusal p q s
  same_body v Ended = refl

  same_repeat : (last : LastAnswer) → is_repeat last q ≡ is_repeat last p
  same_repeat last = simp (same_code p q s, same_id p q s)

  same_refusal : (c : Conversation) (b : List ℕ) → step_refusal c q b ≡ step_refusal c p b
  unfolding refusal_for
  same_refusal c b = simp (
    s.frame,
    same_code p q s,
    same_id p q s,
    same_body c.terms.change
        c.phase,
  )

  -- where neither 6 nor 7 is due, the fields are the same
  same_checked : (v : ChangeVersion) (c : Conversation) → change_refusal_of v p ≡ 0
      → checked_for v c q ≡ checked_for v c p
  unfolding change_refusal change_one_refusal
  same_checked One c e =
      ap (checked_change_one c.terms c.kept c.challenge)
      (same_change_one p q s (size_good (bad_change_one_size p) (bad_change_one_flags p) e))
  same_checked Two c e =
      ap (checked_change c.kept c.challenge)
      (same_change p q s (size_good (bad_change_size p) (bad_change_flags p) e))

  same_judged : (ph : Phase) (c : Conversation) (l : Lookup)
      → body_refusal c.terms.change ph p ≡ 0
      → judge_in ph c q l ≡ judge_in ph c p l
  unfolding response_refusal judge_change
  same_judged Response c l e =
      ap (judge_response c l) (same_response p q s (size_good (bad_response_size p)
      (bad_response_flag p) e))
  same_judged Change c l e =
      ap (change_judgement c) (same_checked c.terms.change c e)
  same_judged Ended c l e = refl

  same_step : (c : Conversation) (l : Lookup) (b : List ℕ) → step c q l b ≡ step c p l b
  unfolding judge
  same_step c l b = which (case_of c p l b)
    where
      which : Case c p l b → step c q l b ≡ step c p l b
      which (refused n e) =
          refused_step c q l b (λ z. n (sym (same_refusal c b) ∙ z))
          ∙ ap (λ (n : ℕ). refused_as n c b) (same_refusal c b) ∙ sym e
      which (repeated z r e) =
          repeated_step c q l b (same_refusal c b ∙ z) (same_repeat c.last ∙ r) ∙ sym e
      which (judged h e) =
          judged_step c q l b
          (passed c q b (same_refusal c b ∙ passes c p b h) (same_repeat c.last ∙ h.fresh))
          ∙ ap (λ (j : Judgement). judged_as c j b) (same_judged c.phase c l h.body) ∙ sym e

pub padding_ignored : (p behind : List ℕ) → bad_frame p ≡ false
    → (c : Conversation) (l : Lookup) (b : List ℕ)
    → step c (take (length_of p) p ++ behind) l b ≡ step c p l b
padding_ignored p behind good = same_step p (take (length_of p) p ++ behind)
    (cut_at_length p behind good)
