-- `authenticator::Conversation::step` meets its contract: the step that reads the round keys beside
-- the hash that counts, and the record put together again.
-- Assumes nothing.
use mathlib.Core.Bool.{Bool}
use mathlib.Core.List.{List}
use mathlib.Core.Path.{◌≡◌, refl, sym, ap, ap₂, ◌∙◌}
use Prim.Native.Nat.{ℕ}
use Rattle.accounts.specs.declared.Account.{Account}
use Rattle.accounts.specs.declared.EntryLookup.{EntryLookup}
use Rattle.accounts.specs.declared.Lookup.{Lookup}
use Rattle.accounts.specs.declared.Schedules.{Schedules}
use Rattle.accounts.specs.Account.{stored_in}
use Rattle.packets.specs.Response.{read_response}
use Rattle.verify.specs.Response.{judging_keys, carrying_lookup}
use Rattle.authenticator.specs.Step.{step, stepped_of, hands_back, handed_out}
use Rattle.authenticator.specs.Step.{Answer}
use Rattle.std.specs.Prelude.{Result, Ok, Err}
use Rattle.refusals.specs.Refusal.{number, told as refusal_told}
use Rattle.refusals.specs.declared.Refusal.{Refusal}
use Rattle.refusals.proofs.Passed.{passed_on}
use Rattle.accounts.specs.Account.{entry_lookup_of}
use Rattle.authenticator.specs.Step.{stepped_as, answer_as, unjudged, refusal_in, Refused}
use Rattle.authenticator.specs.declared.Step.{Step}
use Rattle.authenticator.specs.declared.Conversation.{Conversation}
use Rattle.authenticator.specs.declared.Phase.{Phase}
use Rattle.authenticator.specs.Step.{Stepped}
use Rattle.authenticator.proofs.Carried.{Seen, seen_of, same_read, handed_back}
use Rattle.authenticator.proofs.Steps.{told, drawn_told}
use Rattle.authenticator.proofs.Conversation.step.Goals as goal

-- an answer with a record
abbrev answer : Stepped → Lookup → Answer
answer s l =
    record { kind = s.kind; fault = s.fault; next = s.next; written = s.written; updated = l }

-- with the record put together again
abbrev rebuilt : Phase → Account → Stepped → Answer
rebuilt ph a s = answer s (handed_out (hands_back ph s.kind) a s.updated)

-- what is read of the record is the same with the round keys of the hash that counts alone
read-same : (c : Conversation) (p b : List ℕ) (l : Lookup) {entry : EntryLookup} (keys : List ℕ)
    → entry ≡ entry_lookup_of l → stored_in keys ≡ judging_keys l.account (read_response p)
    → seen_of (step c p (carrying_lookup entry (stored_in keys)) b) ≡ seen_of (step c p l b)
read-same c p b l keys e f =
    ap₂ (λ (l : EntryLookup) (ks : Schedules). seen_of (step c p (carrying_lookup l ks) b)) e f
    ∙ sym (same_read c p b l)

-- an answer that is refused has no record
refused-same : (c : Conversation) (ph : Phase) (a : Account) (n : ℕ)
    → unjudged (Refused n) c 0 ≡ rebuilt ph a (stepped_of (unjudged (Refused n) c 0))
refused-same c ph a n = refl

pub returns-in_err-stepped : goal.returns-in_err-stepped
returns-in_err-stepped c =
    let a = c.args in
    let p = a.packet.now in
    let b = a.reply.now in
    let phase = a.self.phase in
    let account = a.lookup.account in
    let whole = step a.self p a.lookup b in
    let keys : stored_in c.key_octets-keys.result ≡ judging_keys account (read_response p) =
    ap (λ (ks : List ℕ). let r : Schedules = record { keys = ks } in r) c.key_octets-keys.ensures.1
    ∙ c.judging_keys-schedules.ensures in
    let read = read-same a.self p b a.lookup _ c.entry_lookup_of.ensures keys in
    let r = c.in_err-stepped.field-0.0 in
    let on = passed_on c.from_residual.result c.from_residual.ensures.1 in
    let stepped : stepped_as a.self (Err r) ≡ stepped_of whole.answer =
    sym (ap (stepped_as a.self) c.in_err-stepped.was) ∙ c.step_by.ensures.0
    ∙ ap (λ (x : Seen). x.stepped) read in
    let same : answer_as a.self c.from_residual.result ≡ whole.answer =
    ap (answer_as a.self) on
    ∙ refused-same a.self phase account (number r)
    ∙ ap (rebuilt phase account) stepped
    ∙ ap (answer (stepped_of whole.answer)) (sym (handed_back a.self p a.lookup b)) in
    let facts = told a.self p a.lookup b same in (
      same,
      c.step_by.ensures.1 ∙ ap (λ (x : Seen). x.buffer) read,
      ap refusal_told on
          ∙ sym (ap (λ (x : Result Step Refusal). refusal_in (answer_as a.self x).kind) on)
          ∙ facts.0,
      facts.1,
      facts.2,
      facts.3,
    )

pub returns : goal.returns
returns c =
    let a = c.args in
    let p = a.packet.now in
    let b = a.reply.now in
    let phase = a.self.phase in
    let account = a.lookup.account in
    let whole = step a.self p a.lookup b in
    let keys : stored_in c.key_octets-keys.result ≡ judging_keys account (read_response p) =
    ap (λ (ks : List ℕ). let r : Schedules = record { keys = ks } in r) c.key_octets-keys.ensures.1
    ∙ c.judging_keys-schedules.ensures in
    let read = read-same a.self p b a.lookup _ c.entry_lookup_of.ensures keys in
    let s = c.in_ok-stepped.stepped in
    let stepped : stepped_as a.self (Ok s) ≡ stepped_of whole.answer =
    sym (ap (stepped_as a.self) c.in_ok-stepped.was) ∙ c.step_by.ensures.0
    ∙ ap (λ (x : Seen). x.stepped) read in
    let same : answer (stepped_as a.self (Ok s)) c.handed_out-updated.result ≡ whole.answer =
    ap (answer (stepped_as a.self (Ok s))) (c.handed_out-updated.ensures
    ∙ ap (λ (t : Bool). handed_out t account s.updated) c.hands_back-back.ensures)
    ∙ ap (rebuilt phase account) stepped
    ∙ ap (answer (stepped_of whole.answer)) (sym (handed_back a.self p a.lookup b)) in
    let facts = told a.self p a.lookup b same in (
      same,
      c.step_by.ensures.1 ∙ ap (λ (x : Seen). x.buffer) read,
      sym (drawn_told s.drawn) ∙ facts.0,
      facts.1,
      facts.2,
      facts.3,
    )
