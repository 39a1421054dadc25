-- `peer::writes::write_change` meets its contract.
-- Assumes nothing.
use mathlib.Core.Bool.{true, false}
use mathlib.Core.Path.{◌≡◌, refl, sym, ap, ap₂, ◌∙◌}
use mathlib.Core.List.{List}
use Prim.Native.Nat.{ℕ}
use Rattle.std.specs.Prelude.{Err}
use Rattle.refusals.specs.declared.Refusal.TheVariants.{Input, Filler}
use Rattle.credentials.specs.Credentials.{bad_nt_password, bad_filler, nt_hash_of, sealed_block}
use Rattle.credentials.specs.Credentials.{sealed_as}
use Rattle.packets.specs.declared.Change.{Change}
use Rattle.packets.specs.Change.{change_written, change_out, change_write_refusal}
use Rattle.peer.specs.Write.{change_fields, change_fields_of, change_for}
use Rattle.peer.specs.Write.{bad_passwords, write_change_refusal, write_change}
use Rattle.refusals.proofs.Passed.{passed_on}
use Rattle.peer.proofs.Written.{refused_there, passed_there, refused_whole, written_whole}
use Rattle.peer.proofs.writes.write_change.Goals as goal

pub returns-then-are_bad_passwords : goal.returns-then-are_bad_passwords
unfolding write_change write_change_refusal
returns-then-are_bad_passwords c =
    let a = c.args in
    let bad : bad_passwords a.old.now a.new.now ≡ true = sym c.are_bad_passwords.ensures ∙ c.if-are_bad_passwords.true in
    let done = refused_whole (change_for a.turn a.old.now a.new.now a.filler.now) a.out.now (write_change_refusal a.old.now a.new.now a.filler.now a.out.now) Input refl (rw bad) in
    record { answer = done.0; out = done.1 }

pub returns-then-is_bad_filler : goal.returns-then-is_bad_filler
unfolding write_change write_change_refusal
returns-then-is_bad_filler c =
    let a = c.args in
    let good : bad_passwords a.old.now a.new.now ≡ false = sym c.are_bad_passwords.ensures ∙ c.if-are_bad_passwords.false in
    let bad : bad_filler a.filler.now ≡ true = sym c.is_bad_filler.ensures ∙ c.if-is_bad_filler.true in
    let done = refused_whole (change_for a.turn a.old.now a.new.now a.filler.now) a.out.now (write_change_refusal a.old.now a.new.now a.filler.now a.out.now) Filler refl (rw (good, bad)) in
    record { answer = done.0; out = done.1 }

pub returns-in_err-before : goal.returns-in_err-before
unfolding write_change write_change_refusal
returns-in_err-before c =
    let a = c.args in
    let f = refused_there Input (nt_hash_of a.old.now) (bad_nt_password a.old.now) (sym c.nt_hash.ensures ∙ c.in_err-before.was) in
    let done = refused_whole (change_for a.turn a.old.now a.new.now a.filler.now) a.out.now (write_change_refusal a.old.now a.new.now a.filler.now a.out.now) Input (passed_on _ c.from_residual.ensures.1 ∙ ap Err f.1) (rw f.0) in
    record { answer = done.0; out = done.1 }

pub returns-in_err-after : goal.returns-in_err-after
unfolding write_change write_change_refusal
returns-in_err-after c =
    let a = c.args in
    let e = passed_there Input (nt_hash_of a.old.now) (bad_nt_password a.old.now) (sym c.nt_hash.ensures ∙ c.in_ok-before.was) in
    let f = refused_there Input (nt_hash_of a.new.now) (bad_nt_password a.new.now) (sym c.nt_hash-2.ensures ∙ c.in_err-after.was) in
    let done = refused_whole (change_for a.turn a.old.now a.new.now a.filler.now) a.out.now (write_change_refusal a.old.now a.new.now a.filler.now a.out.now) Input (passed_on _ c.from_residual-in_err-after.ensures.1 ∙ ap Err f.1) (rw (e.0, f.0)) in
    record { answer = done.0; out = done.1 }

pub returns-in_err-block : goal.returns-in_err-block
unfolding write_change write_change_refusal sealed_as
returns-in_err-block c =
    let a = c.args in
    let e = passed_there Input (nt_hash_of a.old.now) (bad_nt_password a.old.now) (sym c.nt_hash.ensures ∙ c.in_ok-before.was) in
    let f = passed_there Input (nt_hash_of a.new.now) (bad_nt_password a.new.now) (sym c.nt_hash-2.ensures ∙ c.in_ok-after.was) in
    let g = refused_there Filler (sealed_block c.in_ok-before.before a.filler.now a.new.now) (bad_filler a.filler.now) (sym (rw f.0 at c.seal.ensures) ∙ c.in_err-block.was) in
    let done = refused_whole (change_for a.turn a.old.now a.new.now a.filler.now) a.out.now (write_change_refusal a.old.now a.new.now a.filler.now a.out.now) Filler (passed_on _ c.from_residual-in_err-block.ensures.1 ∙ ap Err g.1) (rw (e.0, f.0, g.0)) in
    record { answer = done.0; out = done.1 }

pub returns : goal.returns
unfolding write_change write_change_refusal sealed_as change_for change_written change_out
returns c =
    let a = c.args in
    let out = a.out.now in
    let e = passed_there Input (nt_hash_of a.old.now) (bad_nt_password a.old.now) (sym c.nt_hash.ensures ∙ c.in_ok-before.was) in
    let f = passed_there Input (nt_hash_of a.new.now) (bad_nt_password a.new.now) (sym c.nt_hash-2.ensures ∙ c.in_ok-after.was) in
    let g = passed_there Filler (sealed_block c.in_ok-before.before a.filler.now a.new.now) (bad_filler a.filler.now) (sym (rw f.0 at c.seal.ensures) ∙ c.in_ok-block.was) in
    let n : change_write_refusal out ≡ write_change_refusal a.old.now a.new.now a.filler.now out = rw (e.0, f.0, g.0) in
    let s : c.change_fields-fields.result ≡ change_fields a.turn.challenge a.old.now a.new.now a.filler.now =
    c.change_fields-fields.ensures
    ∙ ap₂ (λ (x y : List ℕ). change_fields_of a.turn.challenge x y c.in_ok-block.block) e.1 f.1
    ∙ ap (change_fields_of a.turn.challenge (nt_hash_of a.old.now) (nt_hash_of a.new.now))
    (g.1 ∙ ap (λ (x : List ℕ). sealed_block x a.filler.now a.new.now) e.1) in
    let done = written_whole (change_for a.turn a.old.now a.new.now a.filler.now) out _ n
    (c.write_change.ensures.answer ∙ ap (λ (x : Change). change_written a.turn.id x out) s)
    (c.write_change.ensures.out ∙ ap (λ (x : Change). change_out a.turn.id x out) s) in
    record { answer = done.0; out = done.1 }
