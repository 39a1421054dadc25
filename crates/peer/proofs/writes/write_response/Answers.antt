-- `peer::writes::write_response` meets its contract.
-- Assumes nothing.
use mathlib.Core.Path.{◌≡◌, sym, ap, ◌∙◌}
use mathlib.Core.Bool.{Bool, cond}
use Rattle.std.specs.Prelude.{Err}
use Rattle.refusals.specs.declared.Refusal.TheVariants.{Input}
use Rattle.credentials.specs.Credentials.{bad_nt_password, nt_hash_of}
use Rattle.packets.specs.declared.Response.{Response}
use Rattle.packets.specs.Response.{response_written, response_out, response_write_refusal}
use Rattle.peer.specs.Write.{response_fields, response_fields_of, response_for}
use Rattle.peer.specs.Write.{write_response_refusal, write_response}
use Rattle.refusals.proofs.Passed.{passed_on}
use Rattle.peer.proofs.Written.{refused_there, passed_there, refused_whole, written_whole}
use Rattle.peer.proofs.writes.write_response.Goals as goal

pub returns-in_err-hash : goal.returns-in_err-hash
unfolding write_response write_response_refusal
returns-in_err-hash c =
    let a = c.args in
    let bad = bad_nt_password a.password.now in
    let f = refused_there Input (nt_hash_of a.password.now) bad (sym c.nt_hash.ensures ∙ c.in_err-hash.was) in
    let done = refused_whole (response_for a.turn a.password.now a.name.now) a.out.now (write_response_refusal a.password.now a.name.now a.out.now) Input (passed_on _ c.from_residual.ensures.1 ∙ ap Err f.1) (rw f.0) in
    record { answer = done.0; out = done.1 }

pub returns : goal.returns
unfolding write_response write_response_refusal response_for response_written response_out
returns c =
    let a = c.args in
    let name = a.name.now in
    let out = a.out.now in
    let f = passed_there Input (nt_hash_of a.password.now) (bad_nt_password a.password.now) (sym c.nt_hash.ensures ∙ c.in_ok-hash.was) in
    let n = ap (λ (b : Bool). cond b 8 (response_write_refusal name out)) (sym f.0) in
    let s : c.response_fields-fields.result ≡ response_fields a.turn.challenge a.password.now =
    c.response_fields-fields.ensures ∙ ap (response_fields_of a.turn.challenge) f.1 in
    let done = written_whole (response_for a.turn a.password.now name) out _ n
    (c.write_response.ensures.answer ∙ ap (λ (x : Response). response_written a.turn.id x name out) s)
    (c.write_response.ensures.out ∙ ap (λ (x : Response). response_out a.turn.id x name out) s) in
    record { answer = done.0; out = done.1 }
