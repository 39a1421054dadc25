-- `authenticator::Conversation::judge` meets its contract, by the phase.
-- Assumes nothing.
use Rattle.std.specs.Prelude.{None}
use Prim.Native.Nat.{ℕ}
use mathlib.Core.List.{List}
use mathlib.Core.Path.{sym, ap, ◌∙◌}
use Rattle.accounts.specs.declared.EntryLookup.{EntryLookup}
use Rattle.accounts.specs.Account.{stored_in}
use Rattle.verify.specs.Response.{carrying_lookup}
use Rattle.authenticator.specs.declared.Conversation.{Conversation}
use Rattle.authenticator.specs.Judge.{verdict_of, judge, judge_in}
use Rattle.authenticator.specs.declared.Verdict.{Verdict}
use Rattle.authenticator.specs.declared.Phase.{Phase}
use Rattle.authenticator.specs.declared.Reply.TheVariants.{Success}
use Rattle.authenticator.proofs.Conversation.judge.Goals as goal

-- what the definition says of each phase
abbrev judged : Conversation → List ℕ → EntryLookup → List ℕ → Phase → Verdict
judged self packet lookup keys ph =
    verdict_of (judge_in ph self packet (carrying_lookup lookup (stored_in keys)))

pub returns-in-Response : goal.returns-in-Response
unfolding judge
returns-in-Response c =
    let a = c.args in
    c.response.ensures
    ∙ ap (judged a.self a.packet.now a.lookup a.keys.now) (sym c.in-Response.is)

pub returns-in-Change : goal.returns-in-Change
unfolding judge
returns-in-Change c =
    let a = c.args in
    c.change.ensures
    ∙ ap (judged a.self a.packet.now a.lookup a.keys.now) (sym c.in-Change.is)

pub returns-in-Ended : goal.returns-in-Ended
unfolding judge
returns-in-Ended c =
    let a = c.args in
    ap (λ (l : EntryLookup). let v : Verdict = record {
      reply = Success;
      fault = None;
      next = a.self;
      updated = l;
    } in v)
    c.no_entry-updated.ensures
    ∙ ap (judged a.self a.packet.now a.lookup a.keys.now) (sym c.in-Ended.is)
