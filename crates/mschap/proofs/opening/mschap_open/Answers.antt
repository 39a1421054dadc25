-- `mschap::opening::mschap_open` meets its contract.
-- Assumes nothing.
use mathlib.Core.Path.{◌≡◌, refl, sym, ◌∙◌, subst}
use mathlib.Core.Bool.{true}
use Prim.Native.Nat.{ℕ}
use Rattle.mschap.specs.Opening.{open_arguments, OpenCall}
use Rattle.mschap.proofs.OpenCalls.{passed, open_called, open_refused}
use borrow.Author.Tests.{ltb-true}
use native.Mathlib.Omega.{arith}
use Rattle.mschap.proofs.opening.mschap_open.Goals as goal

-- The arguments are tested by one function, the opening is made on the list, and its conversation
-- is put into the caller's buffer: OpenCalls says what that makes the call return and leave.
-- the arguments are not valid
pub returns-then-not-are_open_arguments : goal.returns-then-not-are_open_arguments
returns-then-not-are_open_arguments c =
    record {
      number = simp (sym c.are_open_arguments.ensures ∙ c.if-not-are_open_arguments.true);
      issued = refl;
      first = refl;
      sent = refl;
    }

pub overflow_cast-id : goal.overflow_cast-id
overflow_cast-id c =
    let a = c.args in
    let valid : open_arguments a.id a.terms a.challenge.now a.list.now a.conversation.now ≡ true
    = sym c.are_open_arguments.ensures ∙ c.if-not-are_open_arguments.false in
    let p = passed a.id a.terms a.challenge.now a.list.now a.conversation.now valid in
    omega (arith, ltb-true a.id 256 p.small)

pub open_on-requires-clause-challenge_len : goal.open_on-requires-clause-challenge_len
open_on-requires-clause-challenge_len c =
    let a = c.args in
    let valid : open_arguments a.id a.terms a.challenge.now a.list.now a.conversation.now ≡ true
    = sym c.are_open_arguments.ensures ∙ c.if-not-are_open_arguments.false in
    (passed a.id a.terms a.challenge.now a.list.now a.conversation.now valid).eight

pub open_on-requires-clause-list_head_size_in_bounds :
    goal.open_on-requires-clause-list_head_size_in_bounds
open_on-requires-clause-list_head_size_in_bounds c =
    let a = c.args in
    let valid : open_arguments a.id a.terms a.challenge.now a.list.now a.conversation.now ≡ true
    = sym c.are_open_arguments.ensures ∙ c.if-not-are_open_arguments.false in
    (passed a.id a.terms a.challenge.now a.list.now a.conversation.now valid).head

pub returns-in-Ok : goal.returns-in-Ok
returns-in-Ok c =
    let a = c.args in
    let valid : open_arguments a.id a.terms a.challenge.now a.list.now a.conversation.now ≡ true
    = sym c.are_open_arguments.ensures ∙ c.if-not-are_open_arguments.false in
    open_called a.id a.terms a.challenge.now a.list.now a.conversation.now
    a.reply.now valid c.in-Ok.ensures c.put_conversation.ensures

pub returns-in-Err : goal.returns-in-Err
returns-in-Err c =
    let a = c.args in
    let valid : open_arguments a.id a.terms a.challenge.now a.list.now a.conversation.now ≡ true
    = sym c.are_open_arguments.ensures ∙ c.if-not-are_open_arguments.false in
    subst (λ (r : ℕ). OpenCall a.id a.terms a.challenge.now a.list.now a.conversation.now
    a.reply.now r c.open_on.new.list a.conversation.now c.open_on.new.reply)
    (sym c.refused.ensures)
    (open_refused a.id a.terms a.challenge.now a.list.now a.conversation.now
    a.reply.now valid c.in-Err.ensures)
