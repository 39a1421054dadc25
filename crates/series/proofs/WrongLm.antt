-- Of the eight ways to take silence, yes and no for LM allowed or not, the claim about LM leaves
-- ours: an opener that takes silence for yes, allows LM against the opening's word or does not
-- allow it where it was asked for is shut out. So is one that refuses to open where nothing is
-- said, and one whose conversation has a Success to repeat from the start. The sample of a peer
-- that knows its LM hash alone shows that the premises can be met.
-- Assumes nothing.
use Rattle.std.specs.Prelude.{Option, Some, None}
use mathlib.Core.Bool.{Bool, true, false, not, ◌&&◌, false≢true, true≢false}
use mathlib.Core.List.{List, [], ◌∷◌, ◌++◌}
use mathlib.Core.Logic.{◌≢◌, inl, inr}
use mathlib.Core.Path.{◌≡◌, refl, sym, ap, ap₂, ◌∙◌, subst}
use Prim.Native.Nat.{ℕ}
use native.Mathlib.Omega.{arith}
use borrow.Author.Tests.{eq-eqb}
use lib.Dec.{eqb}
use lib.ListN.{replicate}
use Rattle.issued.specs.Issued.{empty_list}
use Rattle.credentials.specs.Credentials.{lm_hash_of, response_of}
use Rattle.credentials.proofs.Laws as laws
use Rattle.packets.specs.Frame.{octet}
use Rattle.packets.specs.Response.{response_packet}
use Rattle.packets.specs.declared.Response as fields
use Rattle.packets.proofs.ReadBack.{ResponseBack, response_back}
use Rattle.accounts.specs.Account.{no_hash, found, hash_of, account_with}
use Rattle.accounts.specs.declared.Account.{Account}
use Rattle.accounts.proofs.Agreeing.{made_agrees}
use Rattle.authenticator.specs.Admit.{is_repeat, step_refusal}
use Rattle.authenticator.specs.Conversation.{answer_with, with_last}
use Rattle.authenticator.specs.Opening.{Opening, lm_allowed, first_conversation}
use Rattle.authenticator.specs.Step.{Outcome}
use Rattle.authenticator.specs.Steps.{StepInput, step_on, reply_of, unanswered, is_judged}
use Rattle.authenticator.specs.declared.Conversation.{Conversation}
use Rattle.authenticator.specs.declared.Reply.TheVariants.{Success}
use Rattle.authenticator.proofs.Admitted.{Passes, passes, repeat_passes}
use Rattle.authenticator.proofs.Fresh.{fresh_first}
use Rattle.authenticator.proofs.Seen.{judged_exactly, unanswered_tracks}
use Rattle.authenticator.proofs.Steps.{number_step, repeated_step, drew_exactly, repeated_reply}
use Rattle.series.specs.Boxes.{with_lm}
use Rattle.series.specs.Openers.{refuses_silent, takes_lm, opens_answered}
use Rattle.verify.specs.declared.ChangeVersion.{ChangeVersion}
use Rattle.verify.specs.declared.ChangeVersion.TheVariants.{Two}
use Rattle.series.specs.LmOptIn.{is_by_lm, IsAuthenticationFailure, LmPeer, LmOptIn}
use Rattle.series.proofs.LmOptIn.{not_by_lm, turned_away, peer_passes, peer_in}
use Rattle.series.proofs.OneList.{opens_where_it_may}
use Rattle.series.proofs.Sample.{user}
use Rattle.series.proofs.Sent.{seen_new}
use Rattle.series.proofs.Shared.{opening_with, challenge, openable}
use Rattle.series.proofs.Taken.{response_passes}
use Rattle.series.proofs.Wrong.{success_code_lem, failure_code_lem}

-- ---- a peer that knows its LM hash alone

abbrev sample : Option Bool → Opening
sample l = opening_with l (empty_list 8 6) None challenge

-- an account with the LM hash of "MyPw" alone
abbrev lm_only : Account
lm_only = account_with no_hash (hash_of (lm_hash_of (0x4D ∷ 0x79 ∷ 0x50 ∷ 0x77 ∷ []))) false false false
    false

-- its response to the challenge, no NT response, and the flag 0
abbrev by_lm : fields.Response
by_lm = record {
  lm = response_of lm_only.lm.octets challenge;
  nt = replicate 24 0;
  flag = 0;
}

abbrev sent : StepInput
sent = record {
  packet = response_packet 7 by_lm user ++ [];
  account = found lm_only;
  buffer = replicate 17 0;
}

there : ResponseBack 7 by_lm user sent.packet
there = response_back 7 by_lm user [] (laws.length_response lm_only.lm.octets challenge) refl
    (omega arith) (omega arith)

by_lm_lem : is_by_lm sent ≡ true
by_lm_lem = ap (λ (f : fields.Response). not (eqb f.flag 1 && false)) there.fields

pub lm_peer : (l : Option Bool) → LmPeer (sample l) lm_only sent
lm_peer l =
    record {
      account = refl;
      hash = refl;
      agree = made_agrees _;
      permitted = record { enabled = refl; hours = refl; dialin = refl };
      unlocked = omega arith;
      by_lm = by_lm_lem;
      response = ap (λ (f : fields.Response). f.lm) there.fields;
      admitted = let c = first_conversation (sample l) in
          passes c sent.packet sent.buffer
          (response_passes c (fresh_first c refl) refl (omega arith) there refl (omega arith));
    }

-- ---- its reply: Success, or 691

abbrev code : Conversation → ℕ
code c = octet 0 (reply_of (step_on c sent))

pub failed : (v : ChangeVersion) (id : ℕ) (reply : List ℕ) → IsAuthenticationFailure v id reply
    → octet 0 reply ≡ 4
failed v id reply (inl e) = ap (octet 0) e ∙ failure_code_lem id _
failed v id reply (inr e) = ap (octet 0) e ∙ failure_code_lem id _

module _ (l : Option Bool) where
  abbrev first : Bool → Conversation
  first allowed = with_lm allowed (first_conversation (sample l))

  sent_passes : (allowed : Bool) → Passes (first allowed) sent.packet sent.buffer
  sent_passes = peer_passes (sample l) lm_only sent (lm_peer l)

  let_in : code (first true) ≡ 3
  let_in = ap (octet 0) (peer_in (sample l) lm_only sent (lm_peer l)) ∙ success_code_lem 7

  turned : code (first false) ≡ 4
  turned = failed Two 7 (reply_of (step_on (first false) sent))
      (turned_away (first false) sent (not_by_lm (first false) sent refl by_lm_lem) refl
      (sent_passes false))

  -- it is judged, as it is seen
  sent_judged : (allowed : Bool) → is_judged step_on (unanswered (first allowed)) sent ≡ true
  sent_judged allowed =
      let c = first allowed in
      judged_exactly (unanswered c) sent (unanswered_tracks c refl)
      ∙ rw (passes c sent.packet sent.buffer (sent_passes allowed))

  -- the conversation of an opener that takes the choices so
  conversation_taking : (takes : Option Bool → Bool) {t : Bool} → takes l ≡ t
      → ((takes_lm takes).answer (sample l)).conversation ≡ first t
  conversation_taking takes e = ap₂ with_lm e (opens_where_it_may (sample l) (openable l)).1

-- ---- one way to take the choices

module _ (takes : Option Bool → Bool) (claim : LmOptIn (takes_lm takes)) where
  not_yes : (l : Option Bool) → l ≢ Some true → takes l ≡ false
  not_yes l h = which (takes l) refl
    where
      which : (t : Bool) → takes l ≡ t → takes l ≡ false
      which false e = e
      which true e =
          let same = conversation_taking l takes e in
          let judged = subst (λ (c : Conversation). is_judged step_on (unanswered c) sent ≡ true)
          (sym same) (sent_judged l true) in
          let out = failed Two _ _ (claim.off (sample l) h [] sent
          there.code by_lm_lem judged).0 in
          absurd (omega (arith, let_in l, ap code same, out))

  yes : takes (Some true) ≡ true
  yes = which (takes (Some true)) refl
    where
      which : (t : Bool) → takes (Some true) ≡ t → takes (Some true) ≡ true
      which true e = e
      which false e =
          let success = ap (octet 0) (claim.on (sample (Some true)) refl (openable (Some true)) lm_only sent
          (lm_peer (Some true))) ∙ success_code_lem 7 in
          absurd (omega (
            arith,
            success,
            ap code (conversation_taking (Some true) takes e),
            turned (Some true),
          ))

  pub one_reading : (l : Option Bool) → takes l ≡ lm_allowed l
  one_reading None = not_yes None (λ e. false≢true (ap lm_allowed e))
  one_reading (Some true) = yes
  one_reading (Some false) = not_yes (Some false) (λ e. false≢true (ap lm_allowed e))

-- ---- refuses to open where nothing is said

pub not_refusing_silent : (n : ℕ) → LmOptIn (refuses_silent n) → ⊥
not_refusing_silent n claim = true≢false (claim.opens (sample None) (openable None))

-- ---- has a Success to repeat from the start

abbrev already_answered : Conversation → Conversation
already_answered c = with_last (answer_with c Success) c

-- the first packet is taken for a repeat, and draws Success; nothing was seen that it repeats
module _ (claim : LmOptIn opens_answered) where
  abbrev c : Conversation
  c = already_answered (first_conversation (sample None))

  repeats : is_repeat c.last sent.packet ≡ true
  repeats = ap₂ (λ (t u : Bool). t && u) (eq-eqb (octet 0 sent.packet) 2 there.code)
      (eq-eqb (octet 1 sent.packet) 7 there.id)

  not_refused : step_refusal c sent.packet sent.buffer ≡ 0
  not_refused = repeat_passes c sent.packet sent.buffer
      (record { room = omega arith; frame = there.frame }) repeats

  success : code c ≡ 3
  success =
      ap (λ (o : Outcome). octet 0 (reply_of o))
      (repeated_step c sent.packet (found lm_only) sent.buffer not_refused repeats)
      ∙ ap (octet 0) (repeated_reply c sent.buffer (omega arith)) ∙ success_code_lem 7

  seen_judged : is_judged step_on (unanswered c) sent ≡ true
  seen_judged =
      ap₂ (λ (t u : Bool). t && not u)
      (sym (drew_exactly c sent)
      ∙ ap (λ (n : ℕ). eqb n 0)
      (number_step c sent.packet (found lm_only) sent.buffer ∙ not_refused))
      (seen_new (unanswered c) sent refl)

  pub not_opening_answered : ⊥
  not_opening_answered =
      let same = ap already_answered (opens_where_it_may (sample None) (openable None)).1 in
      let judged = subst (λ (x : Conversation). is_judged step_on (unanswered x) sent ≡ true)
      (sym same) seen_judged in
      let out = failed Two _ _ (claim.off (sample None) (λ e. false≢true
      (ap lm_allowed e)) [] sent
      there.code by_lm_lem judged).0 in
      omega (arith, success, ap code same, out)
