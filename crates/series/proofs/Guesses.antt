-- Our box stops guessing across conversations: along any run of them, once `limit` guesses were
-- turned away since the last reset, the account is locked and stays so.
-- Assumes nothing.
use mathlib.Core.Bool.{Bool, true, false, cond, ◌&&◌, true≢false, false≢true}
use mathlib.Core.List.{List, [], ◌∷◌}
use mathlib.Core.Logic.{◌⊎◌, inl, inr}
use mathlib.Core.Path.{◌≡◌, refl, sym, ap, ap₂, ◌∙◌, subst}
use Prim.Native.Nat.{ℕ, ◌+◌, ◌≤◌, ◌<◌}
use native.Mathlib.Omega.{arith}
use borrow.Author.Tests.{eqb-true, eq-eqb, ne_eqb, ltb-true, ltb-false}
use lib.Dec.{eqb, ltb}
use Rattle.message.specs.Reasons.{authentication_failure, changing_password}
use Rattle.packets.specs.Codes.{response_code}
use Rattle.packets.specs.Frame.{octet}
use Rattle.packets.specs.Response.{read_response}
use Rattle.accounts.specs.Account.{found}
use Rattle.accounts.specs.declared.Account.{Account}
use Rattle.accounts.specs.declared.Lookup.{Lookup}
use Rattle.verify.specs.Lockout.{most_failures, one_more}
use Rattle.verify.specs.Response.{found_valid, counted, response_reason}
use Rattle.verify.specs.Faults.{is_faultless}
use Rattle.verify.specs.declared.ChangeVersion.{ChangeVersion}
use Rattle.verify.specs.declared.ChangeVersion.TheVariants.{One, Two}
use Rattle.verify.specs.Change.{CheckedChange}
use Rattle.verify.specs.declared.Terms.{Terms}
use Rattle.verify.proofs.Counting.{one_more_lem, never_falls, counted_failed, judged_at_limit}
use Rattle.verify.proofs.Reasons.{three_digits, response_not_changing}
use Rattle.authenticator.specs.Conversation.{change_code_of, awaited_code, is_ended, no_answer}
use Rattle.authenticator.specs.Conversation.{closed}
use Rattle.authenticator.specs.Judge.{reason_of, reply_for, judge_response, checked_for}
use Rattle.authenticator.specs.Judge.{judge_change}
use Rattle.authenticator.specs.Judge.{verdict_of, judge_in, judge}
use Rattle.authenticator.specs.Encode.{reply_packet}
use Rattle.authenticator.specs.Opening.{Opening, opened}
use Rattle.authenticator.specs.Step.{Outcome, judged_as}
use Rattle.authenticator.specs.Steps.{StepInput, step_on, reply_of, BoxState, unanswered}
use Rattle.authenticator.specs.Steps.{next_after}
use Rattle.authenticator.specs.Steps.{is_judged, next_state}
use Rattle.authenticator.specs.declared.Conversation.{Conversation}
use Rattle.authenticator.specs.declared.Phase.{Phase}
use Rattle.authenticator.specs.declared.Phase.TheVariants.{Response, Change, Ended}
use Rattle.authenticator.specs.declared.Reply.{Reply}
use Rattle.authenticator.specs.declared.Reply.TheVariants.{Failure}
use Rattle.authenticator.specs.declared.Verdict.{Verdict}
use Rattle.authenticator.proofs.Admitted.{Passes}
use Rattle.authenticator.proofs.Judgements.{chosen}
use Rattle.authenticator.proofs.Openings.{opened_either}
use Rattle.authenticator.proofs.Repeats.{all_three}
use Rattle.authenticator.proofs.Replies.{reason_of_reply, judge_fitting, reply_tells}
use Rattle.authenticator.proofs.Seen.{Tracks, Seen, unjudged, judged_now, seen, tracks_next}
use Rattle.authenticator.proofs.Seen.{unanswered_tracks, step_claim, response_phase}
use Rattle.authenticator.proofs.Steps.{reply_of_lem}
use Rattle.authenticator.proofs.Terms.{step_keeps_terms}
use Rattle.series.specs.Course.{end, Along, total}
use Rattle.series.specs.Series.{Passed, own, another, passed_with, stored_after}
use Rattle.series.specs.Boxes.{our_box}
use Rattle.series.specs.LmOptIn.{IsAuthenticationFailure}
use Rattle.series.specs.Guesses.{
  LinePacket,
  Event,
  opens,
  sends,
  stores,
  RunState,
  first_state,
  input_of,
  is_own,
  TurnsAway,
  IsTurnedAway,
  IsFailure691,
  run_next,
  is_guess,
  guesses,
  OfLimit,
  NotReset,
  LockedOut,
  GuessLimit,
}
use Rattle.series.proofs.Invariant.{end_behind, along_before, along_behind}
use Rattle.series.proofs.LmOptIn.{as_unknown, turned_away}

-- no change has a Response's code
no_response : (v : ChangeVersion) → change_code_of v ≡ response_code → ⊥
no_response One e = omega (arith, e)
no_response Two e = omega (arith, e)

-- terms that name a change
abbrev naming : ChangeVersion → Terms
naming v = record { lm = false; limit = 0; change = v }

-- a Failure with 691 by either
either_691 : (v : ChangeVersion) (id : ℕ) (reply : List ℕ) → IsAuthenticationFailure v id reply
    → IsFailure691 id reply
either_691 One id reply h = inl h
either_691 Two id reply h = inr h

-- ---- a packet that is judged

module _ (c : Conversation) (s : StepInput) (ok : Passes c s.packet s.buffer)
    (took : step_on c s ≡ judged_as c (judge c s.packet s.account) s.buffer) where
  abbrev drawn : Reply
  drawn = (judge c s.packet s.account).reply

  reply_drawn : reply_of (step_on c s) ≡ reply_packet c.terms c.id drawn
  reply_drawn = ap reply_of took
      ∙ reply_of_lem c (judge c s.packet s.account) s.buffer ok.readable.room

  -- its reply tells the reason
  told : (t : Terms) (r : Reply) → reason_of r < 1000
      → reply_of (step_on c s) ≡ reply_packet t (octet 1 s.packet) r → reason_of drawn ≡ reason_of r
  told t r few h =
      reply_tells c.terms t c.id drawn r
      (three_digits (judge_fitting c s.packet s.account).0) few
      (sym reply_drawn ∙ h ∙ ap (λ (i : ℕ). reply_packet t i r) ok.id)

  -- whatever change V names
  reason_away : (v : ChangeVersion) → TurnsAway v (octet 1 s.packet) (reply_of (step_on c s))
      → (reason_of drawn ≡ authentication_failure) ⊎ (reason_of drawn ≡ changing_password)
  reason_away v (inl (inl h)) =
      inl (told (naming v) (Failure authentication_failure true) (omega arith) h)
  reason_away v (inl (inr h)) =
      inl (told (naming v) (Failure authentication_failure false) (omega arith) h)
  reason_away v (inr h) = inr (told (naming v) (Failure changing_password false) (omega arith) h)

  reason_told : IsTurnedAway (octet 1 s.packet) (reply_of (step_on c s))
      → (reason_of drawn ≡ authentication_failure) ⊎ (reason_of drawn ≡ changing_password)
  reason_told (inl h) = reason_away One h
  reason_told (inr h) = reason_away Two h

  -- a Response
  module _ (ph : c.phase ≡ Response) where
    abbrev reason : ℕ
    reason = response_reason c.terms c.challenge s.account (read_response s.packet)

    reply_for_lem : drawn ≡ reply_for c reason
    unfolding judge judge_response
    reply_for_lem = ap (λ (x : Phase). (judge_in x c s.packet s.account).reply) ph

    -- that is turned away draws 691
    failed : IsTurnedAway (octet 1 s.packet) (reply_of (step_on c s))
        → reason ≡ authentication_failure
    failed h = which (reason_told h)
      where
        same : reason_of drawn ≡ reason
        same = ap reason_of reply_for_lem ∙ reason_of_reply c reason

        which : (reason_of drawn ≡ authentication_failure) ⊎ (reason_of drawn ≡ changing_password)
            → reason ≡ authentication_failure
        which (inl e) = sym same ∙ e
        which (inr e) = absurd (response_not_changing c.terms c.challenge
            (read_response s.packet) s.account (sym same ∙ e))

  -- a change that is turned away hands out no record
  unchanged : c.phase ≡ Change → IsTurnedAway (octet 1 s.packet) (reply_of (step_on c s))
      → (step_on c s).answer.updated.found ≡ false
  unfolding judge judge_change
  unchanged ph h = ap (λ (o : Outcome). o.answer.updated.found) took ∙ which (reason_told h)
    where
      v : CheckedChange
      v = checked_for c.terms.change c s.packet

      accepted : Bool → Verdict
      accepted t = chosen c v t

      judged_so : verdict_of (judge c s.packet s.account) ≡ accepted (is_faultless v.fault)
      judged_so = ap (λ (x : Phase). verdict_of (judge_in x c s.packet s.account)) ph

      by : (t : Bool) → is_faultless v.fault ≡ t
          → (reason_of (accepted t).reply ≡ authentication_failure)
          ⊎ (reason_of (accepted t).reply ≡ changing_password)
          → (accepted t).updated.found ≡ false
      by true e (inl z) = absurd (omega (arith, z))
      by true e (inr z) = absurd (omega (arith, z))
      by false e z = refl

      which : (reason_of drawn ≡ authentication_failure) ⊎ (reason_of drawn ≡ changing_password)
          → (judge c s.packet s.account).updated.found ≡ false
      which z =
          ap (λ (j : Verdict). j.updated.found) judged_so
          ∙ by (is_faultless v.fault) refl
          (subst (λ (j : Verdict). (reason_of j.reply ≡ authentication_failure)
          ⊎ (reason_of j.reply ≡ changing_password)) judged_so z)

-- ---- the lines

module _ (limit : ℕ) (few : limit ≤ most_failures) where
  -- our box keeps what is seen of it, and while a packet is awaited its limit is this one
  record LineOk (b : BoxState) : Type 0 where
    pub tracks : Tracks b
    pub limited : is_ended b.conversation.phase ≡ false → b.conversation.terms.limit ≡ limit

  abbrev RunOk : RunState → Type 0
  RunOk p = (i : ℕ) → LineOk (p.lines i)

  ok_first : (a : Account) → RunOk (first_state a)
  ok_first a i = record {
    tracks = unanswered_tracks closed refl;
    limited = λ live. absurd (true≢false live);
  }

  ok_opened : (o : Opening) → o.limit ≡ limit → LineOk (unanswered (opened o).conversation)
  ok_opened o e =
      record {
        tracks = unanswered_tracks (opened o).conversation
            (opened_either o (λ (c : Conversation). c.last ≡ no_answer) refl refl);
        limited = opened_either o (λ (c : Conversation). is_ended c.phase ≡ false
            → c.terms.limit ≡ limit) (λ live. e) (λ live. absurd (true≢false live));
      }

  -- no step opens an ended conversation again
  was_live : (b : BoxState) (s : StepInput) → Tracks b
      → is_ended (next_after step_on b.conversation s).phase ≡ false
      → is_ended b.conversation.phase ≡ false
  was_live b s t live = which (seen b s t)
    where
      which : Seen b s → is_ended b.conversation.phase ≡ false
      which (unjudged z e u) = ap (λ (c : Conversation). is_ended c.phase) (sym e) ∙ live
      which (judged_now y h e) = h.live

  ok_stepped : (b : BoxState) (s : StepInput) → LineOk b → LineOk (next_state step_on b s)
  ok_stepped b s h =
      record {
        tracks = tracks_next b s h.tracks;
        limited = λ live. ap (λ (t : Terms). t.limit) (step_keeps_terms b.conversation s)
            ∙ h.limited (was_live b s h.tracks live);
      }

  on_line : (t : Bool) (x y : BoxState) → LineOk x → LineOk y → LineOk (cond t x y)
  on_line true x y h k = h
  on_line false x y h k = k

  ok_next : (p : RunState) (e : Event) → OfLimit step_on limit p e → RunOk p
      → RunOk (run_next step_on p e)
  ok_next p (opens i o) l h j = on_line (eqb j i) _ _ (ok_opened o l) (h j)
  ok_next p (sends s) l h j =
      on_line (eqb j s.line) _ _ (ok_stepped (p.lines s.line) (input_of p s) (h s.line))
      (h j)
  ok_next p (stores a) l h j = h j

  ok_end : (p : RunState) (es : List Event) → Along (run_next step_on) (OfLimit step_on limit) p es
      → RunOk p → RunOk (end (run_next step_on) p es)
  ok_end p [] l h = h
  ok_end p (e ∷ es) l h = ok_end (run_next step_on p e) es l.1 (ok_next p e l.0 h)

  -- ---- the count

  -- as many guesses are counted, or the account is locked
  abbrev Counted : ℕ → Account → Type 0
  Counted n a = (n ≤ a.failures) ⊎ (limit ≤ a.failures)

  none_more : (n g : ℕ) (a b : Account) → g ≡ 0 → b ≡ a → Counted n a → Counted (n + g) b
  none_more n g a b z e (inl h) = inl (omega (arith, z, ap (λ (x : Account). x.failures) e))
  none_more n g a b z e (inr h) = inr (omega (arith, ap (λ (x : Account). x.failures) e))

  one_counted : (n g : ℕ) (a b : Account) → g ≡ 1
      → (b.failures ≡ one_more a.failures)
      ⊎ ((limit ≤ a.failures) × (a.failures ≤ b.failures))
      → Counted n a → Counted (n + g) b
  one_counted n g a b z (inl e) (inl h) = which (ltb a.failures most_failures) refl
    where
      which : (t : Bool) → ltb a.failures most_failures ≡ t → Counted (n + g) b
      which true l = inl (omega (
        arith,
        z,
        e,
        one_more_lem a.failures (ltb-true a.failures most_failures l),
      ))
      which false l = inr (omega (
        arith,
        e,
        never_falls a.failures,
        ltb-false a.failures most_failures l,
      ))
  one_counted n g a b z (inl e) (inr h) = inr (omega (arith, e, never_falls a.failures))
  one_counted n g a b z (inr (l, k)) h = inr (omega (arith, l, k))

  -- a packet under the account's name
  module _ (b : BoxState) (h : LineOk b) (packet buffer : List ℕ) (a : Account) where
    abbrev input : StepInput
    input = record { packet = packet; account = found a; buffer = buffer }

    abbrev guess : ℕ
    guess = cond (is_judged step_on b input && (eqb (octet 0 packet) response_code && true)) 1 0

    abbrev stored : Account
    stored = stored_after a own (step_on b.conversation input)

    not_stored : (step_on b.conversation input).answer.updated.found ≡ false → stored ≡ a
    not_stored u =
        ap (λ (t : Bool). cond t (step_on b.conversation input).answer.updated.account a) u

    own_counted : (n : ℕ)
        → (is_judged step_on b input ≡ true
        → IsTurnedAway (octet 1 packet) (reply_of (step_on b.conversation input)))
        → Counted n a → Counted (n + guess) stored
    own_counted n away k = which (seen b input h.tracks)
      where
        c : Conversation
        c = b.conversation

        phase_of_lem : (ph : Phase) → c.phase ≡ ph → is_judged step_on b input ≡ true
            → Passes c packet buffer
            → step_on c input ≡ judged_as c (judge c packet (found a)) buffer
            → Counted (n + guess) stored
        phase_of_lem Response ph y ok e =
            let code = ok.code ∙ ap (awaited_code c.terms.change) ph in
            let f = read_response packet in
            let one : guess ≡ 1 =
            ap₂ (λ (t u : Bool). cond {A = ℕ} (t && (u && true)) 1 0) y
            (eq-eqb (octet 0 packet) response_code code) in
            let lim : c.terms.limit ≡ limit = h.limited ok.live in
            let handed : stored ≡ counted c.terms c.challenge a f =
            ap (λ (u : Lookup). cond u.found u.account a)
            (((step_claim b input h.tracks).hands_out y code).0 refl) in
            one_counted n guess a stored one
            (subst (λ (d : Account). (d.failures ≡ one_more a.failures)
            ⊎ ((limit ≤ a.failures) × (a.failures ≤ d.failures))) (sym handed)
            (subst (λ (l : ℕ). ((counted c.terms c.challenge a f).failures
            ≡ one_more a.failures)
            ⊎ ((l ≤ a.failures) × (a.failures
            ≤ (counted c.terms c.challenge a f).failures))) lim
            (counted_failed c.terms c.challenge a f (failed c input ok e ph (away y))))) k
        phase_of_lem Change ph y ok e =
            let code = ok.code ∙ ap (awaited_code c.terms.change) ph in
            let none : guess ≡ 0 =
            ap₂ (λ (t u : Bool). cond {A = ℕ} (t && (u && true)) 1 0) y
            (ne_eqb (octet 0 packet) response_code
            (λ z. no_response c.terms.change (sym code ∙ z))) in
            none_more n guess a stored none (not_stored (unchanged c input ok e ph (away y))) k
        phase_of_lem Ended ph y ok e = absurd (true≢false (sym (ap is_ended ph) ∙ ok.live))

        which : Seen b input → Counted (n + guess) stored
        which (unjudged z e u) =
            none_more n guess a stored
            (ap (λ (t : Bool). cond {A = ℕ} (t && (eqb (octet 0 packet) response_code && true)) 1 0)
            z) (not_stored u) k
        which (judged_now y ok e) = phase_of_lem c.phase refl y ok e

  -- under whatever name
  abbrev input_with : List ℕ → List ℕ → Account → Passed → StepInput
  input_with packet buffer a q =
      record { packet = packet; account = passed_with a q; buffer = buffer }

  sent_counted : (b : BoxState) → LineOk b → (packet buffer : List ℕ) (a : Account) (q : Passed)
      (n : ℕ)
      → let s = input_with packet buffer a q in
      (is_own q ≡ true → is_judged step_on b s ≡ true
      → IsTurnedAway (octet 1 packet) (reply_of (step_on b.conversation s)))
      → Counted n a
      → Counted
      (n + cond (is_judged step_on b s && (eqb (octet 0 packet) response_code && is_own q)) 1 0)
      (stored_after a q (step_on b.conversation s))
  sent_counted b h packet buffer a own n away k =
      own_counted b h packet buffer a n (away refl) k
  sent_counted b h packet buffer a (another l) n away k =
      none_more n (cond (judges && (asks && false)) 1 0) a a (no_guess judges asks) refl k
    where
      judges : Bool
      judges = is_judged step_on b (input_with packet buffer a (another l))

      asks : Bool
      asks = eqb (octet 0 packet) response_code

      no_guess : (t u : Bool) → ◌≡◌ {A = ℕ} (cond (t && (u && false)) 1 0) 0
      no_guess true true = refl
      no_guess true false = refl
      no_guess false u = refl

  counted_next : (p : RunState) (e : Event) (n : ℕ) → RunOk p → NotReset step_on p e
      → Counted n p.account
      → Counted (n + guesses step_on p e) (run_next step_on p e).account
  counted_next p (opens i o) n h r k = none_more n 0 p.account p.account refl refl k
  counted_next p (sends s) n h r k =
      sent_counted (p.lines s.line) (h s.line) s.packet s.buffer p.account
      s.account n r k
  counted_next p (stores a) n h r k = higher k
    where
      higher : Counted n p.account → Counted (n + 0) a
      higher (inl x) = inl (omega (arith, x, r))
      higher (inr x) = inr (omega (arith, x, r))

  counted_end : (p : RunState) (es : List Event) (n : ℕ) → RunOk p
      → Along (run_next step_on) (OfLimit step_on limit) p es
      → Along (run_next step_on) (NotReset step_on) p es → Counted n p.account
      → Counted (n + total (run_next step_on) (guesses step_on) p es)
      (end (run_next step_on) p es).account
  counted_end p [] n h l r k = none_more n 0 p.account p.account refl refl k
  counted_end p (e ∷ es) n h l r k =
      sum (end (run_next step_on) (run_next step_on p e) es).account
      (counted_end (run_next step_on p e) es (n + guesses step_on p e) (ok_next p e l.0 h)
      l.1 r.1 (counted_next p e n h r.0 k))
    where
      g : ℕ
      g = guesses step_on p e

      t : ℕ
      t = total (run_next step_on) (guesses step_on) (run_next step_on p e) es

      sum : (a : Account) → Counted (n + g + t) a → Counted (n + (g + t)) a
      sum a (inl x) = inl (omega (arith, x))
      sum a (inr x) = inr x

  -- ---- a locked account

  own_is : (q : Passed) → is_own q ≡ true → q ≡ own
  own_is own e = refl
  own_is (another l) e = absurd (false≢true e)

  locked_out : (p : RunState) → RunOk p → limit ≤ p.account.failures → (s : LinePacket)
      → is_guess step_on p s ≡ true → LockedOut step_on p s
  locked_out p h full s g =
      let b = p.lines s.line in
      let facts = all_three (is_judged step_on b (input_of p s))
      (eqb (octet 0 s.packet) response_code) (is_own s.account) g in
      which facts.0 (eqb-true (octet 0 s.packet) response_code facts.1)
      (ap (passed_with p.account) (own_is s.account facts.2))
      (seen b (input_of p s) (h s.line).tracks)
    where
      which : is_judged step_on (p.lines s.line) (input_of p s) ≡ true
          → octet 0 s.packet ≡ response_code
          → passed_with p.account s.account ≡ found p.account
          → Seen (p.lines s.line) (input_of p s) → LockedOut step_on p s
      which y code mine (unjudged z e u) = absurd (true≢false (sym y ∙ z))
      which y code mine (judged_now _ k e) =
          let c = (p.lines s.line).conversation in
          let invalid = ap (λ (l : Lookup). found_valid c.terms c.challenge l
          (read_response s.packet)) mine
          ∙ judged_at_limit c.terms c.challenge p.account (read_response s.packet)
          (omega (arith, (h s.line).limited k.live, full)) in (
            subst (λ (id : ℕ). IsFailure691 id (reply_of (step_on c (input_of p s))))
                (sym k.id)
                (either_691 c.terms.change c.id (reply_of (step_on c (input_of p s)))
                (turned_away c (input_of p s) invalid
                (response_phase c.terms.change c.phase (sym k.code ∙ code)) k)),
            as_unknown c (input_of p s) invalid,
          )

-- ---- the claim

pub guess_limit : GuessLimit our_box
guess_limit limit few a before since all quiet many s g =
    let p = end (run_next step_on) (first_state a) before in
    let ok = ok_end limit few (first_state a) before
    (along_before (run_next step_on) (OfLimit step_on limit) (first_state a) before since all)
    (ok_first limit few a) in
    let rest = along_behind (run_next step_on) (OfLimit step_on limit) (first_state a) before since all
    in
    let last = ok_end limit few p since rest ok in
    let count = full (total (run_next step_on) (guesses step_on) p since)
    (end (run_next step_on) p since).account
    (counted_end limit few p since 0 ok rest quiet (inl (omega arith))) many in
    subst (λ (q : RunState). is_guess step_on q s ≡ true → LockedOut step_on q s)
    (sym (end_behind (run_next step_on) (first_state a) before since))
    (locked_out limit few (end (run_next step_on) p since) last count s) g
  where
    full : (n : ℕ) (b : Account) → Counted limit few (0 + n) b → limit ≤ n → limit ≤ b.failures
    full n b (inl h) m = omega (arith, h, m)
    full n b (inr h) m = h
