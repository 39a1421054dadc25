-- `packets::responses::write_response` meets its contract.
-- Assumes nothing.
use mathlib.Core.Path.{◌≡◌, sym, ◌∙◌}
use Rattle.refusals.specs.declared.Refusal.TheVariants.{Name, Room}
use Rattle.packets.specs.Response.{response_packet, response_write_refusal, response_written}
use Rattle.packets.specs.Response.{response_out}
use Rattle.packets.proofs.Writing.{nothing_written, packet_written, response_fits}
use Rattle.packets.proofs.responses.write_response.Goals as goal

pub put_response-requires : goal.put_response-requires
unfolding response_write_refusal
put_response-requires c =
    let a = c.args in
    let told : response_write_refusal a.name.now a.out.now ≡ 0 =
    rw (
      sym c.is_bad_name.ensures ∙ c.if-is_bad_name.false,
      sym c.is_short.ensures ∙ c.if-is_short.false,
    ) in
    response_fits a.name.now a.out.now told

pub returns-then-is_bad_name : goal.returns-then-is_bad_name
unfolding response_written response_out response_write_refusal
returns-then-is_bad_name c =
    let a = c.args in
    let name = a.name.now in
    let told : 10 ≡ response_write_refusal name a.out.now =
    rw (sym c.is_bad_name.ensures ∙ c.if-is_bad_name.true) in
    let done = nothing_written (response_packet a.id a.fields name) a.out.now (response_write_refusal name a.out.now) Name told in
    record { answer = done.0; out = done.1 }

pub returns-then-is_short : goal.returns-then-is_short
unfolding response_written response_out response_write_refusal
returns-then-is_short c =
    let a = c.args in
    let name = a.name.now in
    let told : 9 ≡ response_write_refusal name a.out.now =
    rw (
      sym c.is_bad_name.ensures ∙ c.if-is_bad_name.false,
      sym c.is_short.ensures ∙ c.if-is_short.true,
    ) in
    let done = nothing_written (response_packet a.id a.fields name) a.out.now (response_write_refusal name a.out.now) Room told in
    record { answer = done.0; out = done.1 }

pub returns : goal.returns
unfolding response_written response_out response_write_refusal
returns c =
    let a = c.args in
    let name = a.name.now in
    let told : response_write_refusal name a.out.now ≡ 0 =
    rw (
      sym c.is_bad_name.ensures ∙ c.if-is_bad_name.false,
      sym c.is_short.ensures ∙ c.if-is_short.false,
    ) in
    let done = packet_written (response_packet a.id a.fields name) a.out.now (response_write_refusal name a.out.now) told c.put_response.ensures in
    record { answer = done.0; out = done.1 }
