-- LM is off unless the opening asked for it, from the opening to the end; and where it did, a peer
-- that knows its LM hash alone gets in.
-- Assumes nothing.
use Rattle.std.specs.Prelude.{Some}
use mathlib.Core.Bool.{Bool, true, false, cond, not, ◌&&◌, and-false, true≢false}
use mathlib.Core.List.{List}
use mathlib.Core.Logic.{◌≢◌, inl, inr}
use mathlib.Core.Path.{◌≡◌, refl, sym, ap, ap₂, ◌∙◌, subst}
use Prim.Native.Nat.{ℕ, ◌<◌}
use native.Mathlib.Omega.{arith}
use borrow.Author.Tests.{not-true}
use lib.Dec.{eqb}
use Rattle.message.specs.Reasons.{authentication_failure, password_expired}
use Rattle.message.specs.Message.{text_of}
use Rattle.packets.specs.Codes.{response_code}
use Rattle.packets.specs.Frame.{octet}
use Rattle.packets.specs.Response.{read_response}
use Rattle.packets.specs.Reply.{success_packet, failure_packet}
use Rattle.accounts.specs.Account.{not_found, with_failures}
use Rattle.accounts.specs.declared.Account.{Account}
use Rattle.accounts.specs.declared.Lookup.{Lookup}
use Rattle.verify.specs.Lockout.{is_locked}
use Rattle.verify.specs.Response.{answers, valid, found_valid, first_reason, response_reason}
use Rattle.verify.specs.Response.{valid_by_hash}
use Rattle.verify.proofs.Carried.{by_hash}
use Rattle.verify.specs.declared.ChangeVersion.{ChangeVersion}
use Rattle.verify.specs.declared.Terms.{Terms}
use Rattle.verify.proofs.Counting.{judged_below}
use Rattle.verify.proofs.Reasons.{answers_right}
use Rattle.authenticator.specs.Admit.{refusal_for}
use Rattle.authenticator.specs.Conversation.{is_ended, no_answer}
use Rattle.authenticator.specs.Encode.{version, reply_packet}
use Rattle.authenticator.specs.Judge.{may_retry, valid_in, judge_response, judge_in, judge}
use Rattle.authenticator.specs.Opening.{Opening, lm_allowed, change_of, first_conversation, opened}
use Rattle.authenticator.specs.Step.{without_record}
use Rattle.authenticator.specs.Steps.{StepInput, step_on, reply_of, BoxState, unanswered}
use Rattle.authenticator.specs.Steps.{is_judged, next_state}
use Rattle.authenticator.specs.declared.Conversation.{Conversation}
use Rattle.authenticator.specs.declared.Phase.{Phase}
use Rattle.authenticator.specs.declared.Phase.TheVariants.{Response}
use Rattle.authenticator.specs.declared.Reply.TheVariants.{Failure}
use Rattle.authenticator.proofs.Admitted.{Passes, passed}
use Rattle.authenticator.proofs.Judged.{expired_for, accepted, valid_law, same_invalid}
use Rattle.authenticator.proofs.Openings.{opened_either}
use Rattle.authenticator.proofs.Seen.{Seen, unjudged, judged_now, seen, Tracks, tracks_next}
use Rattle.authenticator.proofs.Seen.{unanswered_tracks, response_phase}
use Rattle.authenticator.proofs.Steps.{judged_step, reply_of_lem}
use Rattle.authenticator.proofs.Bound.{left_in, judged_less}
use Rattle.authenticator.proofs.Terms.{opened_off, step_keeps_terms}
use Rattle.series.specs.Boxes.{with_lm}
use Rattle.series.specs.Openers.{our_opener}
use Rattle.series.specs.LmOptIn.{
  is_by_lm,
  with_no_record,
  IsAuthenticationFailure,
  LmPeer,
  place_after,
  LmOptIn,
}
use Rattle.series.proofs.Invariant.{end_keeps}
use Rattle.series.proofs.OneList.{opens_where_it_may}

-- ---- off

-- where LM is not allowed, a Response by LM is invalid
pub not_by_lm : (c : Conversation) (s : StepInput) → c.terms.lm ≡ false → is_by_lm s ≡ true
    → found_valid c.terms c.challenge s.account (read_response s.packet) ≡ false
unfolding valid
not_by_lm c s off by =
    let a = s.account.account in
    let f = read_response s.packet in
    let no = not-true (eqb f.flag 1 && a.nt.present) by in
    ap (λ (t : Bool). s.account.found && (not (is_locked c.terms a) && t))
    (ap₂ (λ (t u : Bool). cond t (answers a.nt a.nt_keys c.challenge f.nt)
    (u && answers a.lm a.lm_keys c.challenge f.lm)) no off)
    ∙ ap (λ (t : Bool). s.account.found && t) (and-false (not (is_locked c.terms a)))
    ∙ and-false s.account.found

-- what is judged invalid is answered as if there were no record, but that its record is handed out
pub as_unknown : (c : Conversation) (s : StepInput)
    → found_valid c.terms c.challenge s.account (read_response s.packet) ≡ false
    → without_record (step_on c s) ≡ without_record (step_on c (with_no_record s))
as_unknown c s v = same_invalid c s.packet s.buffer s.account not_found v refl

-- and that is 691
unknown_reply : (c : Conversation) (p : List ℕ)
    → (judge_in Response c p not_found).reply
    ≡ Failure authentication_failure (may_retry c authentication_failure)
unfolding judge_response response_reason first_reason
unknown_reply c p = refl

pub failure_either : (t : Terms) (id : ℕ) (retry : Bool)
    → IsAuthenticationFailure t.change id
    (reply_packet t id (Failure authentication_failure retry))
failure_either t id true = inl refl
failure_either t id false = inr refl

pub turned_away : (c : Conversation) (s : StepInput)
    → found_valid c.terms c.challenge s.account (read_response s.packet) ≡ false
    → c.phase ≡ Response → Passes c s.packet s.buffer
    → IsAuthenticationFailure c.terms.change c.id (reply_of (step_on c s))
unfolding judge
turned_away c s v ph ok =
    let reply = ap reply_of (as_unknown c s v)
    ∙ ap reply_of (judged_step c s.packet not_found s.buffer ok)
    ∙ reply_of_lem c (judge c s.packet not_found) s.buffer ok.readable.room
    ∙ ap (λ (x : Phase). reply_packet c.terms c.id (judge_in x c s.packet not_found).reply)
    ph
    ∙ ap (reply_packet c.terms c.id) (unknown_reply c s.packet) in
    subst (IsAuthenticationFailure c.terms.change c.id) (sym reply)
    (failure_either c.terms c.id (may_retry c authentication_failure))

-- what holds of our box at any place of a conversation that was opened without asking for LM and
-- for a version's change: LM is off, that change is the terms' while a packet may be judged, and
-- the box keeps of its last answer what is seen of it
pub record OffAt (v : ChangeVersion) (p : BoxState) : Type 0 where
  pub off : p.conversation.terms.lm ≡ false
  pub change : 0 < left_in p.conversation → p.conversation.terms.change ≡ v
  pub tracks : Tracks p

off_next : (v : ChangeVersion) (p : BoxState) (s : StepInput) → OffAt v p
    → OffAt v (next_state step_on p s)
off_next v p s i =
    record {
      off = ap (λ (t : Terms). t.lm) (step_keeps_terms p.conversation s) ∙ i.off;
      change = λ some. ap (λ (t : Terms). t.change) (step_keeps_terms p.conversation s)
          ∙ i.change (omega (arith, judged_less p s i.tracks, some));
      tracks = tracks_next p s i.tracks;
    }

off_after : (o : Opening) → o.lm ≢ Some true → (ss : List StepInput)
    → OffAt (change_of o.change) (place_after our_opener o ss)
off_after o h ss =
    end_keeps (next_state step_on) (OffAt v) (off_next v) (unanswered (opened o).conversation)
    (record {
      off = opened_off o h;
      change = opened_either o (λ (c : Conversation). 0 < left_in c → c.terms.change ≡ v)
          (λ some. refl) (λ some. absurd (omega (arith, some)));
      tracks = unanswered_tracks (opened o).conversation
          (opened_either o (λ (c : Conversation). c.last ≡ no_answer) refl refl);
    })
    ss
  where
    v : ChangeVersion
    v = change_of o.change

off_here : (v : ChangeVersion) (p : BoxState) (s : StepInput) → OffAt v p
    → octet 0 s.packet ≡ response_code → is_by_lm s ≡ true → is_judged step_on p s ≡ true
    → IsAuthenticationFailure v (octet 1 s.packet) (reply_of (step_on p.conversation s))
    × (without_record (step_on p.conversation s)
    ≡ without_record (step_on p.conversation (with_no_record s)))
off_here v p s i code by now = which (seen p s i.tracks)
  where
    some : 0 < left_in p.conversation
    some = omega (arith, judged_less p s i.tracks, ap (λ (t : Bool). cond {A = ℕ} t 1 0) now)

    which : Seen p s
        → IsAuthenticationFailure v (octet 1 s.packet) (reply_of (step_on p.conversation s))
        × (without_record (step_on p.conversation s)
        ≡ without_record (step_on p.conversation (with_no_record s)))
    which (unjudged z e u) = absurd (true≢false (sym now ∙ z))
    which (judged_now y ok e) = (
      subst (λ (id : ℕ). IsAuthenticationFailure v id (reply_of (step_on p.conversation s)))
          (sym ok.id)
          (subst (λ (u : ChangeVersion). IsAuthenticationFailure u p.conversation.id
          (reply_of (step_on p.conversation s))) (i.change some)
          (turned_away p.conversation s (not_by_lm p.conversation s i.off by)
          (response_phase p.conversation.terms.change p.conversation.phase
          (sym ok.code ∙ code)) ok)),
      as_unknown p.conversation s (not_by_lm p.conversation s i.off by),
    )

-- ---- on

-- such a peer's first Response, in the first conversation with LM allowed or not
module _ (o : Opening) (a : Account) (s : StepInput) (peer : LmPeer o a s) where
  abbrev first : Bool → Conversation
  first allowed = with_lm allowed (first_conversation o)

  -- no choice about LM is in the way of the other checks
  pub peer_passes : (allowed : Bool) → Passes (first allowed) s.packet s.buffer
  unfolding refusal_for
  peer_passes allowed = passed (first allowed) s.packet s.buffer peer.admitted refl

  lm_valid : valid_in (first true) a (read_response s.packet) ≡ true
  unfolding valid_by_hash
  lm_valid =
      let f = read_response s.packet in
      let c = first true in
      let by = ap (λ (l : Lookup). eqb f.flag 1 && l.account.nt.present)
      (sym peer.account)
      ∙ not-true (eqb f.flag 1 && s.account.account.nt.present) peer.by_lm in
      by_hash c.terms c.challenge a f peer.agree
      ∙ rw (by, answers_right a.lm o.challenge f.lm peer.hash peer.response)

  answered : (expired : Bool)
      → reply_packet (first true).terms o.id (cond expired (expired_for (first true)
      (with_failures 0 a))
      (accepted (first true) (with_failures 0 a))
      ).reply
      ≡ cond expired
      (failure_packet o.id (text_of password_expired 0 (version (change_of o.change))))
      (success_packet o.id)
  answered true = refl
  answered false = refl

  pub peer_in : reply_of (step_on (first true) s)
      ≡ cond a.expired
      (failure_packet o.id (text_of password_expired 0 (version (change_of o.change))))
      (success_packet o.id)
  peer_in =
      let ok = peer_passes true in
      let c = first true in
      ap (λ (l : Lookup). reply_of (step_on c
      (record { packet = s.packet; account = l; buffer = s.buffer }))) peer.account
      ∙ ap reply_of (valid_law c s.packet s.buffer ok a refl peer.permitted
      (judged_below c.terms c.challenge a (read_response s.packet) peer.unlocked
      ∙ lm_valid))
      ∙ reply_of_lem c (cond a.expired (expired_for c (with_failures 0 a))
      (accepted c (with_failures 0 a))) s.buffer
      ok.readable.room
      ∙ answered a.expired

-- ---- the claim

pub lm_opt_in : LmOptIn our_opener
lm_opt_in =
    record {
      off = λ o h ss s.
          off_here (change_of o.change) (place_after our_opener o ss) s (off_after o h ss);
      on = λ o asked may a s peer.
          ap (λ (c : Conversation). reply_of (step_on c s)) (opens_where_it_may o may).1
          ∙ ap (λ (t : Bool). reply_of (step_on (with_lm t (first_conversation o)) s))
          (ap lm_allowed asked)
          ∙ peer_in o a s peer;
      opens = λ o may.
          ap (λ (c : Conversation). is_ended c.phase) (opens_where_it_may o may).1;
    }
