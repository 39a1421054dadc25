-- Our peer's writer, and wrong ones. Demand 3 holds of ours (proofs/Demand3) and of none of the
-- others (proofs/WrongWriters, WrongChanges).
-- Assumes nothing: these are definitions.
use Rattle.std.specs.Prelude.{List, ℕ}
use Rattle.packets.specs.Response.{response_packet}
use Rattle.packets.specs.declared.Response.{Response}
use Rattle.verify.specs.declared.ChangeVersion.{ChangeVersion}
use Rattle.verify.specs.declared.ChangeVersion.TheVariants.{One, Two}
use Rattle.peer.specs.Write.{Wrote, response_fields, write_response_refusal, wrote_by}
use Rattle.peer.specs.Write.{write_response}
use Rattle.peer.specs.Write.{write_change, write_change_one}
use Rattle.peer.specs.declared.Turn.{Turn}

-- what a writer of our peer's packets answers and leaves in its output buffer: a Response from a
-- turn, a password and a name; a change of either version from a turn, the old and the new password
-- and the filler
pub record Writer : Type 0 where
  pub response : Turn → List ℕ → List ℕ → List ℕ → Wrote
  pub change : ChangeVersion → Turn → List ℕ → List ℕ → List ℕ → List ℕ → Wrote

-- refuses everything, with one number or another
abbrev pub refusing_to_write : ℕ → Writer
refusing_to_write n =
    record {
      response = λ turn password name out.
          record { answer = record { refusal = n; length = 0 }; out = out };
      change = λ version turn old new filler out.
          record { answer = record { refusal = n; length = 0 }; out = out };
    }

-- our peer's change; version 1's has no filler
abbrev pub our_change : ChangeVersion → Turn → List ℕ → List ℕ → List ℕ → List ℕ → Wrote
our_change One turn old new filler out = write_change_one turn old new out
our_change Two turn old new filler out = write_change turn old new filler out

-- writes ours, but asks for the LM response, which it zero-fills, to be judged: the flag is 0
abbrev pub lm_fields : Response → Response
lm_fields f = record { lm = f.lm; nt = f.nt; flag = 0 }

abbrev pub asks_for_lm : Writer
asks_for_lm =
    record {
      response = λ turn password name out.
          wrote_by (write_response_refusal password name out)
          (response_packet turn.id (lm_fields (response_fields turn.challenge password)) name)
          out;
      change = our_change;
    }

-- what the promises of the peer's writers say
abbrev pub our_writer : Writer
our_writer = record { response = write_response; change = our_change }

-- writes version 2's change, whatever V calls for
abbrev pub always_two : Writer
always_two =
    record {
      response = write_response;
      change = λ version turn old new filler out. write_change turn old new filler out;
    }
