-- `peer::Peer::read_reply` meets its contract.
-- Assumes nothing.
use mathlib.Core.Path.{◌≡◌, sym, ap, ◌∙◌}
use Rattle.std.specs.Prelude.{Result, Ok}
use Rattle.refusals.specs.declared.Refusal.{Refusal}
use Rattle.message.specs.declared.Verdict.{Verdict}
use Rattle.peer.specs.Turn.{turn_read, next_turn}
use Rattle.peer.specs.Peer.{peer_reads, read_as}
use Rattle.refusals.specs.Refusal.{told}
use Rattle.message.specs.Message.{verdict_values, values_of}
use Rattle.peer.specs.declared.Turn.{Turn}
use Rattle.peer.proofs.Peer.read_reply.Goals as goal

pub returns : goal.returns
unfolding next_turn
returns c =
    let q = c.args.self in
    let p = c.args.packet.now in
    let v = c.in_ok-verdict.verdict in
    let e : Ok v ≡ peer_reads q p = sym c.in_ok-verdict.was ∙ c.reads_after.ensures.as_defined in
    record {
      answer = ap (λ (t : Turn). Ok (record { verdict = v; peer = record { sent = q.sent; turn = t } }))
          (c.turn_after-turn.ensures ∙ ap (λ (x : Result Verdict Refusal). turn_read x q) e) ∙ ap (read_as q p) e;
      number = sym (ap told c.in_ok-verdict.was) ∙ c.reads_after.ensures.number;
      values = sym (ap (values_of verdict_values) c.in_ok-verdict.was) ∙ c.reads_after.ensures.values;
    }
