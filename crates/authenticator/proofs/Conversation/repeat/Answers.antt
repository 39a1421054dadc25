-- `authenticator::Conversation::repeat` meets its contract.
-- Assumes nothing.
use Rattle.std.specs.Prelude.{None}
use mathlib.Core.Path.{◌≡◌, ap₂, ◌∙◌, ap}
use Prim.Native.Nat.{ℕ}
use lib.ListN.{length}
use Rattle.accounts.specs.declared.EntryLookup.{EntryLookup}
use Rattle.authenticator.specs.Encode.{reply_packet}
use Rattle.authenticator.specs.Judge.{reason_of}
use Rattle.authenticator.specs.Step.{Stepped}
use Rattle.authenticator.specs.Step.{Repeated}
use Rattle.authenticator.proofs.Written.{reply_fits, written_whole}
use Rattle.authenticator.proofs.Conversation.repeat.Goals as goal

pub returns : goal.returns
returns c =
    let a = c.args in
    let last = a.self.last in
    let reply = reply_packet a.self.terms last.id last.reply in
    let answer : ℕ → ℕ → EntryLookup → Stepped =
    λ reason n l. record {
      kind = Repeated reason;
      fault = None;
      next = a.self;
      written = n;
      updated = l;
    } in
    let written : c.write_reply-written.result ≡ length reply =
    c.write_reply-written.ensures.0
    ∙ written_whole reply a.reply.now (reply_fits a.self.terms last.id last.reply)
    c.requires in (
      ap₂ (λ (reason n : ℕ). answer reason n c.no_entry-updated.result) c.reason_of-reason.ensures written
          ∙ ap (answer (reason_of last.reply) (length reply)) c.no_entry-updated.ensures,
      c.write_reply-written.ensures.1,
    )
