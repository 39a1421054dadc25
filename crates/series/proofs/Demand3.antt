-- Demand 3: the rightful user always gets in.
-- Assumes nothing.
use mathlib.Core.Bool.{Bool, true, false, cond}
use mathlib.Core.List.{List, [], ◌∷◌, ◌++◌}
use mathlib.Core.Path.{◌≡◌, refl, sym, ap, ap₂, ◌∙◌, subst}
use Prim.Native.Nat.{ℕ, ◌+◌, ◌%◌, ◌≤◌, ◌<◌}
use native.Mathlib.Omega.{arith}
use borrow.Author.Tests.{eqb-true, not-false}
use lib.Dec.{eqb}
use lib.ListN.{length, replicate, length-append, length-replicate}
use Rattle.credentials.specs.Credentials.{nt_hash_of}
use Rattle.credentials.proofs.Laws.{good_password}
use Rattle.message.specs.Reasons.{authentication_failure, password_expired}
use Rattle.packets.specs.Response.{read_response}
use Rattle.packets.specs.declared.Response.{Response}
use Rattle.verify.specs.Response.{found_valid, counted, counted_lookup}
use Rattle.verify.specs.declared.ChangeVersion.{ChangeVersion}
use Rattle.verify.specs.declared.ChangeVersion.TheVariants.{One, Two}
use Rattle.verify.specs.declared.Terms.{Terms}
use Rattle.verify.proofs.Counting.{judged_below, counted_invalid}
use Rattle.packets.specs.Reply.{success_packet}
use Rattle.authenticator.specs.Encode.{reply_packet}
use Rattle.accounts.specs.Account.{
  no_hash,
  hash_of,
  blank_entry,
  found,
  entry_of,
  changed,
  with_failures,
  Rightful,
  Agree,
}
use Rattle.accounts.proofs.Agreeing.{changed_agrees, counted_agrees}
use Rattle.authenticator.specs.Opening.{Opening, retries_of, change_of, first_conversation, opened}
use Rattle.authenticator.specs.Step.{Outcome, judged_as, step}
use Rattle.authenticator.specs.Steps.{StepInput, step_on, BoxState, unanswered, next_after, judged}
use Rattle.authenticator.specs.Steps.{next_state, NotJudged, StepClaim}
use Rattle.authenticator.specs.Conversation.{answer_with, with_last}
use Rattle.authenticator.specs.Judge.{Judgement}
use Rattle.accounts.specs.declared.Account.{Account}
use Rattle.accounts.specs.declared.Entry.{Entry}
use Rattle.accounts.specs.declared.Lookup.{Lookup}
use Rattle.authenticator.proofs.Seen.{step_claim}
use Rattle.authenticator.proofs.Replies.{reading_for}
use Rattle.authenticator.proofs.Judged.{try_again, changed_to, changed_rightful}
use Rattle.authenticator.specs.declared.Conversation.{Conversation}
use Rattle.authenticator.specs.declared.Phase.TheVariants as phases
use Rattle.authenticator.proofs.Openings.{opened_first, opened_limited}
use Rattle.authenticator.proofs.Bound.{left_in, left_first, judged_less}
use Rattle.peer.specs.Peer.{after_reply}
use Rattle.peer.specs.Turn.{next_turn}
use Rattle.peer.specs.Write.{Wrote, response_for, write_response}
use Rattle.peer.specs.declared.Turn.{Turn}
use Rattle.peer.proofs.Left.{
  response_written_lem,
  name_fits,
  response_left,
  left,
  change_written_lem,
  change_left,
  change_one_written_lem,
  change_one_left,
}
use Rattle.series.specs.Course.{collect, end, Along}
use Rattle.series.specs.Series.{
  invalid,
  right,
  password_change,
  Passed,
  own,
  another,
  ExchangeInput,
  Step,
  ours,
  other,
  PacketKind,
  Invalid,
  Right,
  PasswordChange,
  packet_kinds,
  plan,
  SeriesState,
  passed_with,
  stored_after,
  start,
  reaching,
  Exchange,
  carried,
  exchange,
  later,
  next,
  judged_at,
  TryWithin,
  bad_filler_of,
  ChangeWithin,
  Allowed,
  Draws,
  DrawsFailure,
  DrawsSuccess,
  LetsIn,
  Answered,
  Claimed,
  Demand3,
}
use Rattle.series.specs.Boxes.{our_box}
use Rattle.series.specs.Writers.{our_change, our_writer}
use Rattle.series.proofs.RoundTrips.{challenge_read_lem}
use Rattle.series.proofs.Invariant.{Invariant, whole, within, along_any, end_keeps}
use Rattle.series.proofs.Faithful.{
  Faithful,
  faithful_next,
  opened_faithful,
  unjudged_same,
  unjudged_none,
}
use Rattle.series.proofs.Exchanged.{sent_by, Exchanged, exchanged}
use Rattle.series.proofs.Taken.{InStep, Full, change_as, invalid_taken, right_taken}
use Rattle.series.proofs.Taken.{change_taken}
use Rattle.series.proofs.Ready.{
  FitIn,
  fit_plan,
  Counts,
  FitRecord,
  fit_first,
  fit_another,
  fit_counted,
  fit_cleared,
  fit_changed,
  opened_in_step,
  retried_in_step,
  ended_in_step,
  drawn_right,
  right_small,
  right_in_step,
  right_fit,
}

-- ---- our peer's change of either version, within the limits

filler_good : (v : ChangeVersion) (filler : List ℕ) → bad_filler_of v filler ≡ false → Full v filler
filler_good One filler e = tt
filler_good Two filler e =
    eqb-true (length filler) 512 (not-false (eqb (length filler) 512) e)

pub our_change_written : (v : ChangeVersion) (turn : Turn) (old new filler : List ℕ)
    (l : ExchangeInput) → ChangeWithin v old new filler l
    → (our_change v turn old new filler l.out).answer.refusal ≡ 0
our_change_written One turn old new filler l kept =
    change_one_written_lem turn old new l.out kept.old_not_8 kept.new_not_8 kept.not9
our_change_written Two turn old new filler l kept =
    change_written_lem turn old new filler l.out kept.old_not_8 kept.new_not_8 kept.not12
    kept.not9

our_change_left : (v : ChangeVersion) (turn : Turn) (old new filler : List ℕ)
    (l : ExchangeInput) (kept : ChangeWithin v old new filler l)
    → left (our_change v turn old new filler l.out) ≡ change_as v turn old new filler
our_change_left One turn old new filler l kept =
    change_one_left turn old new l.out (our_change_written One turn old new filler l kept)
our_change_left Two turn old new filler l kept =
    change_left turn old new filler l.out (our_change_written Two turn old new filler l kept)

-- ---- our peer's packets, within the limits

module _ (p : SeriesState) (i : Faithful p.box) (h : InStep p.box.conversation
    p.peer.turn) where
  abbrev turn : Turn
  turn = p.peer.turn

  -- a try
  module _ (password name : List ℕ) (l : ExchangeInput) (kept : TryWithin password name l)
      (ph : p.box.conversation.phase ≡ phases.Response) where
    abbrev wrote : Wrote
    wrote = write_response turn password name l.out

    try_written : wrote.answer.refusal ≡ 0
    try_written = response_written_lem turn password name l.out kept.not8 kept.not10
        kept.not9

    try_left : (reaching p.account wrote l).packet
        ≡ response_for turn password name ++ l.packet_padding
    try_left = ap (λ (x : List ℕ). x ++ l.packet_padding)
        (response_left turn password name l.out try_written)

    try_name : (1 ≤ length name) × (length name ≤ 256)
    try_name = name_fits turn password name l.out try_written

    -- the record that is passed, and as it is counted
    abbrev passed : Lookup
    passed = passed_with p.account l.account

    abbrev counted_in : List ℕ → Lookup
    counted_in x =
        counted_lookup p.box.conversation.terms p.box.conversation.challenge passed
        (read_response x)

    invalid_exchanged : found_valid p.box.conversation.terms p.box.conversation.challenge
        passed (read_response (reaching p.account wrote l).packet) ≡ false
        → 0 < p.box.conversation.retries
        → Exchanged p wrote l (try_again p.box.conversation
        (counted_in (reaching p.account wrote l).packet))
    invalid_exchanged v pos =
        let c = p.box.conversation in
        let x = (reaching p.account wrote l).packet in
        exchanged p wrote l (try_again c (counted_in x)) i.tracks h.id try_written
        kept.not2 (omega arith)
        (ap (λ (y : List ℕ). step c y passed l.buffer) try_left
        ∙ invalid_taken c turn h i.fresh ph password name l.packet_padding
        l.buffer kept.not2 try_name passed
        (ap (λ (y : List ℕ). found_valid c.terms c.challenge passed (read_response y))
        (sym try_left) ∙ v) pos
        ∙ ap (λ (y : List ℕ). judged_as c (try_again c (counted_in y)) l.buffer) (sym try_left))

    right_exchanged : (a : Account) → Rightful a → Agree a
        → a.failures < p.box.conversation.terms.limit → nt_hash_of password ≡ a.nt.octets
        → passed ≡ found a
        → Exchanged p wrote l (drawn_right a.expired p.box.conversation a)
    right_exchanged a g agree below hash input =
        exchanged p wrote l (drawn_right a.expired p.box.conversation a) i.tracks
        h.id try_written kept.not2
        (right_small a.expired p.box.conversation a)
        (ap₂ (λ (x : List ℕ) (y : Lookup). step p.box.conversation x y l.buffer) try_left
        input
        ∙ right_taken p.box.conversation turn h i.fresh ph password name l.packet_padding
        l.buffer kept.not2 try_name a g agree below hash)

  -- the change
  module _ (v : ChangeVersion) (old new filler : List ℕ) (l : ExchangeInput)
      (kept : ChangeWithin v old new filler l)
      (ph : p.box.conversation.phase ≡ phases.Change) where
    abbrev change_wrote : Wrote
    change_wrote = our_change v turn old new filler l.out

    change_is_written : change_wrote.answer.refusal ≡ 0
    change_is_written = our_change_written v turn old new filler l kept

    new_good : (length new ≤ 512) × (length new % 2 ≡ 0)
    new_good = good_password new kept.new_not_8

    module _ (same : p.box.conversation.terms.change ≡ v)
        (there : p.box.conversation.kept.nt.present ≡ true)
        (hash : nt_hash_of old ≡ p.box.conversation.kept.nt.octets) where
      -- the new NT hash, and no LM hash
      abbrev changes : Judgement
      changes = changed_to p.box.conversation (hash_of (nt_hash_of new)) no_hash

      change_outcome : step_on p.box.conversation (reaching p.account change_wrote l)
          ≡ judged_as p.box.conversation changes l.buffer
      change_outcome =
          ap (λ (x : List ℕ). step p.box.conversation (x ++ l.packet_padding)
          (passed_with p.account l.account) l.buffer)
          (our_change_left v turn old new filler l kept)
          ∙ change_taken p.box.conversation turn h i.fresh ph old new filler
          l.packet_padding l.buffer kept.not2 new_good there hash v same
          (filler_good v filler kept.not12) (passed_with p.account l.account)

      change_exchanged : Exchanged p change_wrote l changes
      change_exchanged =
          exchanged p change_wrote l changes i.tracks h.id change_is_written kept.not2
          (omega arith) change_outcome

-- ---- a later conversation

-- steps that are not judged leave the conversation as it was
through : (p : BoxState) → Faithful p → (ss : List StepInput)
    → Along (next_state step_on) (NotJudged step_on) p ss
    → (end (next_state step_on) p ss).conversation ≡ p.conversation
through p i [] h = refl
through p i (s ∷ ss) h =
    through (next_state step_on p s) (faithful_next p s i) ss h.1
    ∙ unjudged_same p s i h.0

-- a record that counts no failures is below every limit
pub lets_in : (a : Account) (password : List ℕ) → Rightful a → Agree a → a.expired ≡ false
    → a.failures ≡ 0 → nt_hash_of password ≡ a.nt.octets → LetsIn step_on our_writer a password
lets_in a password g agree fresh none hash o behind name ss l ok eight quiet input kept =
    let first = unanswered (opened o).conversation in
    let faithful = opened_faithful o ok in
    let back = through first faithful ss quiet in
    let p = later step_on our_writer o behind a ss in
    let f = end_keeps (next_state step_on) Faithful faithful_next first faithful ss in
    let i : InStep p.box.conversation p.peer.turn = subst
    (λ (c : Conversation). InStep c (start o behind a).peer.turn) (sym back)
    (opened_in_step o ok eight behind a) in
    let ph : p.box.conversation.phase ≡ phases.Response = ap (λ (c : Conversation). c.phase)
    (back ∙ opened_first o ok) in
    let limit = ap (λ (c : Conversation). c.terms.limit) (back ∙ opened_first o ok) in
    let below : a.failures < p.box.conversation.terms.limit =
    omega (arith, none, limit, opened_limited o ok) in
    let d = (right_exchanged p f i password name l kept ph a g agree below hash
    (ap (passed_with a) input)).draws in
    let id : p.box.conversation.id ≡ o.id = ap (λ (c : Conversation). c.id)
    (back ∙ opened_first o ok) in
    let reply = ap (λ (x : Bool). (drawn_right x p.box.conversation a).reply) fresh in (
      d.0 ∙ ap (reply_packet p.box.conversation.terms p.box.conversation.id) reply
          ∙ ap success_packet id,
      d.1
          ∙ ap (reading_for p.box.conversation.terms) reply,
    )

-- ---- each step

abbrev pub ReadyAt : Account → Terms → List PacketKind → Conversation → Turn → Type 0
ReadyAt a terms due c t = FitIn a terms due c × InStep c t × (c.terms ≡ terms)

abbrev pub Ready : Account → Terms → List PacketKind → SeriesState → Type 0
Ready a terms due p = ReadyAt a terms due p.box.conversation p.peer.turn
    × Faithful p.box × FitRecord a terms.limit due p.account

-- after an exchange
ready_next : (a : Account) (terms : Terms) (due : List PacketKind) (p : SeriesState) (w : Wrote)
    (l : ExchangeInput) (d : Judgement)
    → Exchanged p w l d → Faithful p.box
    → ReadyAt a terms due d.next
    (next_turn (sent_by p.peer.turn) (reading_for p.box.conversation.terms d.reply))
    → FitRecord a terms.limit due
    (stored_after p.account l.account (carried step_on p w l).outcome)
    → ReadyAt a terms due (next_after step_on p.box.conversation (reaching p.account w l))
    (after_reply (carried step_on p w l).peer (carried step_on p w l).reply).turn
    × Faithful (next_state step_on p.box (reaching p.account w l))
    × FitRecord a terms.limit due
    (stored_after p.account l.account (carried step_on p w l).outcome)
ready_next a terms due p w l d x i r stored =
    let moved : ReadyAt a terms due
    (with_last (answer_with p.box.conversation d.reply) d.next)
    (next_turn (sent_by p.peer.turn) (reading_for p.box.conversation.terms d.reply)) =
    (r.0, record { id = r.1.id; challenge = r.1.challenge }, r.2) in (
      subst (λ (c : Conversation). ReadyAt a terms due c (after_reply (carried step_on p w l).peer
          (carried step_on p w l).reply).turn) (sym x.conversation)
          (subst (ReadyAt a terms due
          (with_last (answer_with p.box.conversation d.reply) d.next))
          (sym x.turn) moved),
      faithful_next p.box (reaching p.account w l) i,
      stored,
    )

-- the record after an exchange, where it was passed: the one that was handed out
stored_handed : (b : Account) (o : Outcome) (d : Account) → o.answer.updated ≡ found d
    → stored_after b own o ≡ d
stored_handed b o d e =
    ap (λ (u : Lookup). cond u.found u.account b) e

-- after an invalid try it is as it was, or counts one more
stored_invalid : (a : Account) (limit : ℕ) (due : List PacketKind) (b : Account) (q : Passed)
    (o : Outcome) (c : Conversation) (f : Response)
    → c.terms.limit ≡ limit → Counts a limit (Invalid ∷ due) b
    → found_valid c.terms c.challenge (passed_with b q) f ≡ false
    → o.answer.updated ≡ counted_lookup c.terms c.challenge (passed_with b q) f
    → FitRecord a limit due (stored_after b q o)
stored_invalid a limit due b own o c f lim h v e =
    let below : b.failures < c.terms.limit = omega (arith, lim, h.below) in
    fit_counted a limit due b (stored_after b own o) h
    (stored_handed b o (counted c.terms c.challenge b f) e
    ∙ counted_invalid c.terms c.challenge b f
    (sym (judged_below c.terms c.challenge b f below) ∙ v))
stored_invalid a limit due b (another l) o c f lim h v e = fit_another a limit due b h

-- what the right password hands out
right_handed : (x : Bool) (c : Conversation) (a : Account)
    → (drawn_right x c a).updated ≡ found (with_failures 0 a)
right_handed true c a = refl
right_handed false c a = refl

right_terms : (x : Bool) (c : Conversation) (a : Account) → (drawn_right x c a).next.terms ≡ c.terms
right_terms true c a = refl
right_terms false c a = refl

right_answered : (x : Bool) (e : Exchange) (c : Conversation) (a : Account)
    → Draws e (reply_packet c.terms c.id (drawn_right x c a).reply)
    (reading_for c.terms (drawn_right x c a).reply)
    → cond x (DrawsFailure e c.terms.change c.id password_expired 0) (DrawsSuccess e c.id)
right_answered true e c a h = h
right_answered false e c a h = h

module _ (a : Account) (g : Rightful a) (agree : Agree a) (terms : Terms) where
  -- the record last handed out is the first one but for its count
  abbrev now : SeriesState → Account
  now p = with_failures p.account.failures a

  rightful_now : (p : SeriesState) → Rightful (now p)
  rightful_now p =
      record { nt = g.nt; enabled = g.enabled; hours = g.hours; dialin = g.dialin }

  -- what was kept
  module _ (p : SeriesState)
      (same : p.box.conversation.kept ≡ entry_of (with_failures 0 a)) where
    kept_there : p.box.conversation.kept.nt.present ≡ true
    kept_there = ap (λ (b : Entry). b.nt.present) same ∙ g.nt

    kept_hash : (old : List ℕ) → nt_hash_of old ≡ a.nt.octets
        → nt_hash_of old ≡ p.box.conversation.kept.nt.octets
    kept_hash old h = h ∙ sym (ap (λ (b : Entry). b.nt.octets) same)

  pub law : (due : List PacketKind) (p : SeriesState) (m : Step)
      → Ready a terms (packet_kinds m ++ due) p
      → Allowed step_on our_writer a p m
      → Claimed step_on our_writer a terms.change p m
      × (judged_at step_on our_writer p m ≡ length (packet_kinds m))
      × Ready a terms due (next step_on our_writer p m)
  law due p (other s) (r, t, n) h = (
    tt,
    unjudged_none p.box s t h,
    (
      subst (λ (c : Conversation). ReadyAt a terms due c p.peer.turn)
          (sym (unjudged_same p.box s t h)) r,
      faithful_next p.box s t,
      n,
    ),
  )
  law due p (ours (invalid password name) l) ((f, i, lim), t, n) h =
      let x = invalid_exchanged p t i password name l h.0 f.0 h.1 f.1 in (
        (
          subst (λ (n : ℕ). DrawsFailure (exchange step_on our_writer p (invalid password name) l)
              terms.change n authentication_failure 1) i.id
              (subst (λ (v : ChangeVersion). DrawsFailure (exchange step_on our_writer p
              (invalid password name) l) v p.box.conversation.id authentication_failure 1)
              (ap (λ (t : Terms). t.change) lim) x.draws),
          try_written p t i password name l h.0 f.0,
        ),
        x.judges,
        ready_next a terms due p _ l _ x t (
          f.2,
          retried_in_step p.box.conversation p.peer.turn i
              (counted_in p t i password name l h.0 f.0
              (exchange step_on our_writer p (invalid password name) l).input.packet),
          lim,
        )
            (stored_invalid a terms.limit due p.account l.account
            (exchange step_on our_writer p (invalid password name) l).outcome p.box.conversation
            (read_response (exchange step_on our_writer p (invalid password name) l).input.packet)
            (ap (λ (t : Terms). t.limit) lim) n h.1 x.handed),
      )
  law due p (ours (right password name) l) ((f, i, lim), t, n) h =
      let b = now p in
      let below : b.failures < p.box.conversation.terms.limit =
      omega (arith, ap (λ (t : Terms). t.limit) lim, n.below) in
      let passed : passed_with p.account l.account ≡ found b =
      ap (passed_with p.account) h.1.1 ∙ ap found n.same in
      let x = right_exchanged p t i password name l h.0 f.0 b (rightful_now p)
      (counted_agrees p.account.failures a agree) below
      h.1.0 passed in
      let answered = right_answered a.expired (exchange step_on our_writer p
      (right password name) l) p.box.conversation b x.draws in
      let o = (exchange step_on our_writer p (right password name) l).outcome in
      let stored = ap (λ (q : Passed). stored_after p.account q o) h.1.1
      ∙ stored_handed p.account o (with_failures 0 a)
      (x.handed ∙ right_handed a.expired p.box.conversation b) in (
        (
          subst (λ (n : ℕ). Answered step_on our_writer a terms.change n (right password name)
              (exchange step_on our_writer p (right password name) l)) i.id
              (subst (λ (v : ChangeVersion). Answered step_on our_writer a v
              p.box.conversation.id (right password name)
              (exchange step_on our_writer p (right password name) l))
              (ap (λ (t : Terms). t.change) lim) answered),
          try_written p t i password name l h.0 f.0,
        ),
        x.judges,
        ready_next a terms due p _ l _ x t (
          right_fit a.expired p.box.conversation b a terms due f.1,
          right_in_step p.box.conversation p.peer.turn i a.expired b,
          right_terms a.expired p.box.conversation b ∙ lim,
        )
            (fit_cleared a terms.limit due p.account (stored_after p.account
            l.account o) n stored),
      )
  law due p (ours (password_change v old new filler) l) ((f, i, lim), t, n) h =
      let there = kept_there p f.1 in
      let hash = kept_hash p f.1 old h.1 in
      let same = ap (λ (t : Terms). t.change) lim ∙ f.3 in
      let x = change_exchanged p t i v old new filler l h.0 f.0 same there hash in
      let kept = with_failures 0 a in
      let changes = changed_rightful kept (nt_hash_of new) no_hash
      (record { nt = g.nt; enabled = g.enabled; hours = g.hours; dialin = g.dialin }) in
      let handed = x.handed ∙ ap (λ (e : Entry). found (changed e (hash_of (nt_hash_of new)) no_hash))
      f.1 in (
        (
          (
            subst (λ (n : ℕ). DrawsSuccess (exchange step_on our_writer p
                (password_change v old new filler) l) n) i.id x.draws,
            ap (λ (b : Lookup). b.found) x.handed,
            subst (λ (b : Lookup). LetsIn step_on our_writer b.account new) (sym handed)
                (lets_in (changed (entry_of kept) (hash_of (nt_hash_of new)) no_hash) new changes.0
                (changed_agrees (entry_of kept) (hash_of (nt_hash_of new)) no_hash)
                changes.1 refl (sym changes.2)),
          ),
          change_is_written p t i v old new filler l h.0 f.0,
        ),
        x.judges,
        ready_next a terms due p _ l _ x t (
          f.2,
          ended_in_step p.box.conversation p.peer.turn i,
          lim,
        )
            (fit_changed a terms.change terms.limit due p.box.conversation.retries
            blank_entry _ f.2),
      )

  -- the record that the change hands out
  pub change_updated : (due : List PacketKind) (p : SeriesState) (v : ChangeVersion)
      (old new filler : List ℕ) (l : ExchangeInput)
      → Ready a terms (PasswordChange v ∷ due) p
      → Allowed step_on our_writer a p (ours (password_change v old new filler) l)
      → (exchange step_on our_writer p (password_change v old new filler) l).outcome.answer.updated
      ≡ found (changed (entry_of a) (hash_of (nt_hash_of new)) no_hash)
  change_updated due p v old new filler l ((f, i, lim), t, n) h =
      (change_exchanged p t i v old new filler l h.0 f.0
      (ap (λ (t : Terms). t.change) lim ∙ f.3) (kept_there p f.1)
      (kept_hash p f.1 old h.1)).handed
      ∙ ap (λ (b : Entry). found (changed b (hash_of (nt_hash_of new)) no_hash)) f.1

  invariant : Invariant (next step_on our_writer) packet_kinds (judged_at step_on our_writer)
      (Allowed step_on our_writer a) (Claimed step_on our_writer a terms.change)
  invariant = record { Ready = Ready a terms; law = law }

-- what an opening fixes
abbrev pub terms_of : Opening → Terms
terms_of o = (first_conversation o).terms

-- a series begins ready
pub ready_first : (o : Opening) → (opened o).refusal ≡ 0 → length o.challenge ≡ 8 → (k : ℕ)
    (behind : List ℕ) (ms : List Step) (a : Account)
    → k ≤ retries_of o.retries → a.failures + k < o.limit
    → collect packet_kinds ms ≡ plan k (change_of o.change) a.expired
    → Ready a (terms_of o) (collect packet_kinds ms) (start o behind a)
ready_first o ok eight k behind ms a few below due =
    let first = opened_first o ok in
    let v = change_of o.change in
    let fit = subst (FitIn a (terms_of o) (plan k v a.expired)) (sym first)
    (fit_plan k a v (retries_of o.retries) blank_entry few) in
    subst (λ (ks : List PacketKind). Ready a (terms_of o) ks (start o behind a)) (sym due) (
      (fit, opened_in_step o ok eight behind a, ap (λ (c : Conversation). c.terms) first),
      opened_faithful o ok,
      fit_first a o.limit k v below,
    )

-- ---- the whole

count : (k : ℕ) (v : ChangeVersion) (x : Bool) → length (plan k v x) ≡ k + cond x 2 1
count k v x =
    length-append (replicate k Invalid) (Right ∷ cond x (PasswordChange v ∷ []) [])
    ∙ ap₂ (λ (m n : ℕ). m + n) (length-replicate k Invalid) (last x)
  where
    last : (x : Bool) → length (Right ∷ cond x (PasswordChange v ∷ []) []) ≡ cond x 2 1
    last true = refl
    last false = refl

pub demand3 : Demand3 our_box our_writer
unfolding invariant
demand3 o ok eight = (
  (λ behind. challenge_read_lem o ok eight behind),
  (λ a k behind ms g agree few below due h.
      let all = whole (invariant a g agree (terms_of o)) (start o behind a) ms
      (ready_first o ok eight k behind ms a few below due) h in (
        all.0,
        all.1 ∙ ap length due ∙ count k (change_of o.change) a.expired,
        all.2.0.0,
      )),
  (λ ss.
      let first = unanswered (opened o).conversation in
      let faithful = opened_faithful o ok in
      let most = within (next_state step_on) (judged step_on)
      (λ p. left_in p.conversation) Faithful faithful_next
      (λ p s i. judged_less p s i.tracks) first faithful ss in (
        omega (arith, ap left_in (opened_first o ok) ∙ left_first o),
        along_any (next_state step_on) (StepClaim step_on) Faithful faithful_next
            (λ p s i. step_claim p s i.tracks) first faithful ss,
      )),
)
