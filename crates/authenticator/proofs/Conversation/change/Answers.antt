-- `authenticator::Conversation::change` meets its contract: by what the check found.
-- Assumes nothing.
use mathlib.Core.List.{List}
use mathlib.Core.Path.{◌≡◌, refl, sym, ap, ◌∙◌}
use Prim.Native.Nat.{ℕ}
use Rattle.std.specs.Prelude.{Ok, Err}
use Rattle.verify.specs.Change.{CheckedChange, checked_as}
use Rattle.authenticator.specs.Judge.{verdict_of, change_judgement, checked_for, judge_change}
use Rattle.authenticator.specs.declared.Conversation.{Conversation}
use Rattle.authenticator.proofs.Judgements.{changed_judged, unchanged_judged, faulty}
use Rattle.authenticator.proofs.Conversation.change.Goals as goal

checked-told : (self : Conversation) (packet : List ℕ) {checked : CheckedChange}
    → checked ≡ checked_for self.terms.change self packet
    → verdict_of (change_judgement self checked)
    ≡ verdict_of (change_judgement self (checked_for self.terms.change self packet))
checked-told self packet e = ap (λ (v : CheckedChange). verdict_of (change_judgement self v)) e

pub returns-in-Ok : goal.returns-in-Ok
unfolding judge_change
returns-in-Ok c =
    let self = c.args.self in
    changed_judged self (checked_as (Ok c.in-Ok.hashes)) c.to_end-next.ensures refl
    c.changed_entry-entry.ensures
    ∙ checked-told self c.args.packet.now
    (sym (ap checked_as c.in-Ok.is) ∙ c.checked.ensures)

pub returns-in-Err : goal.returns-in-Err
unfolding judge_change
returns-in-Err c =
    let self = c.args.self in
    unchanged_judged self (checked_as (Err c.in-Err.fault)) c.to_end-next.ensures
    (faulty c.in-Err.fault) c.no_entry-updated.ensures
    ∙ checked-told self c.args.packet.now
    (sym (ap checked_as c.in-Err.is) ∙ c.checked.ensures)
