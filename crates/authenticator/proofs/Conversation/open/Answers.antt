-- `authenticator::Conversation::open` meets its contract: refused by its arguments, refused by the
-- list, or opened.
-- Assumes nothing.
use mathlib.Core.Bool.{Bool, true, false}
use mathlib.Core.List.{List}
use mathlib.Core.Path.{◌≡◌, refl, sym, ap, ◌∙◌}
use Prim.Native.Nat.{ℕ, suc, ◌≤◌}
use native.Mathlib.Omega.{arith}
use borrow.Author.Rules.{rules}
use borrow.Author.Tests.{eq-eqb, ne_eqb, lt-ltb, le-ltb, ltb-false}
use lib.ListN.{length}
use Rattle.std.specs.Prelude.{Result}
use Rattle.refusals.specs.declared.Refusal.{Refusal}
use Rattle.refusals.proofs.Passed.{passed_on}
use Rattle.refusals.specs.Refusal.{number, told}
use Rattle.refusals.specs.declared.Refusal.TheVariants.{ReplyBuffer, Retries, Limit}
use Rattle.refusals.proofs.Numbers.{number_some}
use Rattle.issued.specs.Issued.{Issued, spend_refusal, spent, used_after}
use Rattle.issued.proofs.Spending.{spent_refused}
use Rattle.challenges.specs.Challenges.{challenges_from}
use Rattle.packets.specs.Reply.{challenge_packet, longest_reply, bad_reply_buffer}
use Rattle.authenticator.specs.Opening.{Opening, most_retries, retries_of, spends}
use Rattle.authenticator.specs.Opening.{too_many_retries, open_refusal}
use Rattle.authenticator.specs.declared.Settings.{Settings}
use Rattle.authenticator.proofs.Openings.{GoodArguments, list_refusal, refused_promise}
use Rattle.authenticator.proofs.Openings.{accepted_promise}
use Rattle.authenticator.proofs.Written.{written_whole, challenge_fits}
use Rattle.authenticator.proofs.Conversation.open.Goals as goal

-- what is opened
abbrev opening : Settings → List ℕ → ℕ → List ℕ → List ℕ → Opening
opening s list used counts buffer =
    record {
      id = s.id;
      challenge = s.challenge;
      retries = s.retries;
      lm = s.lm;
      change = s.change;
      limit = s.limit;
      issued = record { buffer = list; used = used; counts = counts };
      buffer = buffer;
    }

few : (o : Opening) {r : ℕ} → r ≡ retries_of o.retries → r ≤ most_retries
    → too_many_retries o ≡ false
few o e h = le-ltb most_retries (retries_of o.retries) (omega (arith, e))

-- what `spend` took for the entries are those that the opening spends
entries-told : (o : Opening) {r : ℕ} → r ≡ retries_of o.retries
    → challenges_from (suc r) o.challenge ≡ spends o
entries-told o e = ap (λ (r : ℕ). challenges_from (suc r) o.challenge) e

-- 18, 13, 2
pub returns-then-settings-eq0 : goal.returns-then-settings-eq0
unfolding open_refusal
returns-then-settings-eq0 c =
    let a = c.args in
    let o = opening a.settings a.list.now a.used a.counts.now a.reply.now in
    let e : open_refusal o ≡ 18 = simp (eq-eqb _ _ c.if-settings-eq0.true) in
    refused_promise o _ Limit refl e refl refl refl

pub returns-then-r-gt-MOST_RETRIES : goal.returns-then-r-gt-MOST_RETRIES
unfolding open_refusal
returns-then-r-gt-MOST_RETRIES c =
    let a = c.args in
    let o = opening a.settings a.list.now a.used a.counts.now a.reply.now in
    let many : too_many_retries o ≡ true =
    lt-ltb most_retries (retries_of o.retries) (omega (arith, c.retries-r.ensures)) in
    let e : open_refusal o ≡ 13 = simp (ne_eqb _ _ c.if-settings-eq0.false, many) in
    refused_promise o _ Retries refl e refl refl refl

pub returns-then-is_bad_reply_buffer : goal.returns-then-is_bad_reply_buffer
unfolding open_refusal
returns-then-is_bad_reply_buffer c =
    let a = c.args in
    let o = opening a.settings a.list.now a.used a.counts.now a.reply.now in
    let e : open_refusal o ≡ 2 =
    simp (
      ne_eqb _ _ c.if-settings-eq0.false,
      few o c.retries-r.ensures c.if-r-gt-MOST_RETRIES.false,
      sym c.is_bad_reply_buffer.ensures ∙ c.if-is_bad_reply_buffer.true,
    ) in
    refused_promise o _ ReplyBuffer refl e refl refl refl

-- the arguments are good
good : (o : Opening) {r : ℕ} {bad : Bool} → (o.limit ≡ 0 → ⊥) → r ≡ retries_of o.retries
    → r ≤ most_retries → bad ≡ bad_reply_buffer o.buffer → bad ≡ false → GoodArguments o
good o n e h f g =
    record { limited = ne_eqb o.limit 0 n; few = few o e h; roomy = sym f ∙ g }

-- 24, 16, 17
pub returns-in_err-used : goal.returns-in_err-used
returns-in_err-used c =
    let a = c.args in
    let o = opening a.settings a.list.now a.used a.counts.now a.reply.now in
    let arguments = good o c.if-settings-eq0.false c.retries-r.ensures
    c.if-r-gt-MOST_RETRIES.false c.is_bad_reply_buffer.ensures c.if-is_bad_reply_buffer.false in
    let entries = entries-told o c.retries-r.ensures in
    let r = c.in_err-used.field-0.0 in
    let list-told : number r ≡ spend_refusal 8 (spends o) o.issued =
    sym (ap told c.in_err-used.was) ∙ c.spend.ensures.refusal
    ∙ ap (λ (es : List (List ℕ)). spend_refusal 8 es o.issued) entries in
    let after-told = c.spend.ensures.list
    ∙ ap (λ (es : List (List ℕ)). spent 8 es o.issued) entries in
    let after = after-told
    ∙ spent_refused 8 (spends o) o.issued (λ e. number_some r (list-told ∙ e)) in
    refused_promise o c.from_residual.result r
    (passed_on c.from_residual.result c.from_residual.ensures.1)
    (list_refusal o arguments ∙ sym list-told) (ap (λ (i : Issued). i.buffer) after)
    (ap (λ (i : Issued). i.counts) after) refl

-- opened
pub returns : goal.returns
returns c =
    let a = c.args in
    let o = opening a.settings a.list.now a.used a.counts.now a.reply.now in
    let arguments = good o c.if-settings-eq0.false c.retries-r.ensures
    c.if-r-gt-MOST_RETRIES.false c.is_bad_reply_buffer.ensures c.if-is_bad_reply_buffer.false in
    let entries = entries-told o c.retries-r.ensures in
    let used = c.in_ok-used.used in
    let list-told : 0 ≡ spend_refusal 8 (spends o) o.issued =
    sym (ap told c.in_ok-used.was) ∙ c.spend.ensures.refusal
    ∙ ap (λ (es : List (List ℕ)). spend_refusal 8 es o.issued) entries in
    let after-told = ap (λ (x : Result ℕ Refusal). record {
      buffer = c.spend.new.list;
      used = used_after a.used x;
      counts = c.spend.new.counts;
    }) (sym c.in_ok-used.was) ∙ c.spend.ensures.list
    ∙ ap (λ (es : List (List ℕ)). spent 8 es o.issued) entries in
    let eight : length a.settings.challenge ≡ 8 = search rules in
    let room : longest_reply ≤ length o.buffer =
    ltb-false (length o.buffer) longest_reply arguments.roomy in
    let written : c.write_challenge-written.result ≡ length (challenge_packet o.id o.challenge) =
    c.write_challenge-written.ensures.0
    ∙ written_whole _ _ (challenge_fits o.id o.challenge eight) room in
    accepted_promise o _ (list_refusal o arguments ∙ sym list-told) after-told
    c.conversation-conversation.ensures written c.write_challenge-written.ensures.1
