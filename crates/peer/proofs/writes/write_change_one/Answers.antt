-- `peer::writes::write_change_one` meets its contract.
-- Assumes nothing.
use mathlib.Core.Bool.{true}
use mathlib.Core.Path.{◌≡◌, refl, sym, ap, ap₂, ◌∙◌}
use mathlib.Core.List.{List}
use Prim.Native.Nat.{ℕ}
use Rattle.std.specs.Prelude.{Err}
use Rattle.refusals.specs.declared.Refusal.TheVariants.{Input}
use Rattle.credentials.specs.Credentials.{bad_nt_password, nt_hash_of}
use Rattle.packets.specs.declared.ChangeOne.{ChangeOne}
use Rattle.packets.specs.ChangeOne.{change_one_written, change_one_out, change_one_write_refusal}
use Rattle.peer.specs.Write.{change_one_fields, change_one_fields_of, change_one_for}
use Rattle.peer.specs.Write.{bad_passwords, write_change_one_refusal, write_change_one}
use Rattle.refusals.proofs.Passed.{passed_on}
use Rattle.peer.proofs.Written.{refused_there, passed_there, refused_whole, written_whole}
use Rattle.peer.proofs.writes.write_change_one.Goals as goal

pub returns-then-are_bad_passwords : goal.returns-then-are_bad_passwords
unfolding write_change_one write_change_one_refusal
returns-then-are_bad_passwords c =
    let a = c.args in
    let bad : bad_passwords a.old.now a.new.now ≡ true = sym c.are_bad_passwords.ensures ∙ c.if-are_bad_passwords.true in
    let done = refused_whole (change_one_for a.turn a.old.now a.new.now) a.out.now (write_change_one_refusal a.old.now a.new.now a.out.now) Input refl (rw bad) in
    record { answer = done.0; out = done.1 }

pub returns-in_err-before : goal.returns-in_err-before
unfolding write_change_one write_change_one_refusal
returns-in_err-before c =
    let a = c.args in
    let f = refused_there Input (nt_hash_of a.old.now) (bad_nt_password a.old.now) (sym c.nt_hash.ensures ∙ c.in_err-before.was) in
    let done = refused_whole (change_one_for a.turn a.old.now a.new.now) a.out.now (write_change_one_refusal a.old.now a.new.now a.out.now) Input (passed_on _ c.from_residual.ensures.1 ∙ ap Err f.1) (rw f.0) in
    record { answer = done.0; out = done.1 }

pub returns-in_err-after : goal.returns-in_err-after
unfolding write_change_one write_change_one_refusal
returns-in_err-after c =
    let a = c.args in
    let e = passed_there Input (nt_hash_of a.old.now) (bad_nt_password a.old.now) (sym c.nt_hash.ensures ∙ c.in_ok-before.was) in
    let f = refused_there Input (nt_hash_of a.new.now) (bad_nt_password a.new.now) (sym c.nt_hash-2.ensures ∙ c.in_err-after.was) in
    let done = refused_whole (change_one_for a.turn a.old.now a.new.now) a.out.now (write_change_one_refusal a.old.now a.new.now a.out.now) Input (passed_on _ c.from_residual-in_err-after.ensures.1 ∙ ap Err f.1) (rw (e.0, f.0)) in
    record { answer = done.0; out = done.1 }

pub returns : goal.returns
unfolding write_change_one write_change_one_refusal change_one_for change_one_written change_one_out
returns c =
    let a = c.args in
    let out = a.out.now in
    let e = passed_there Input (nt_hash_of a.old.now) (bad_nt_password a.old.now) (sym c.nt_hash.ensures ∙ c.in_ok-before.was) in
    let f = passed_there Input (nt_hash_of a.new.now) (bad_nt_password a.new.now) (sym c.nt_hash-2.ensures ∙ c.in_ok-after.was) in
    let n : change_one_write_refusal out ≡ write_change_one_refusal a.old.now a.new.now out = rw (e.0, f.0) in
    let s : c.change_one_fields-fields.result ≡ change_one_fields a.turn.challenge a.old.now a.new.now =
    c.change_one_fields-fields.ensures
    ∙ ap₂ (λ (x y : List ℕ). change_one_fields_of a.turn.challenge x y) e.1 f.1 in
    let done = written_whole (change_one_for a.turn a.old.now a.new.now) out _ n
    (c.write_change_one.ensures.answer ∙ ap (λ (x : ChangeOne). change_one_written a.turn.id x out) s)
    (c.write_change_one.ensures.out ∙ ap (λ (x : ChangeOne). change_one_out a.turn.id x out) s) in
    record { answer = done.0; out = done.1 }
