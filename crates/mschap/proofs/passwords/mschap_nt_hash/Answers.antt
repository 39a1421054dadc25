-- `mschap::passwords::mschap_nt_hash` meets its contract.
-- Assumes nothing.
use mathlib.Core.Path.{◌≡◌, refl, sym, ap, ◌∙◌}
use mathlib.Core.Bool.{true}
use borrow.Author.Tests.{eqb-true}
use mathlib.Core.List.{List}
use Prim.Native.Nat.{ℕ}
use lib.ListN.{length}
use Rattle.credentials.specs.Credentials.{nt_hashed}
use Rattle.refusals.specs.Refusal.{told}
use Rattle.mschap.specs.Answers.{octets_or_zeros}
use Rattle.layouts.specs.Call.{sized}
use Rattle.layouts.specs.Passwords.{is_encoded_password}
use Rattle.layouts.proofs.Filling.{both, refused_argument, valid_argument, fills_as}
use Rattle.mschap.specs.Passwords.{hash_arguments}
use Rattle.mschap.proofs.passwords.mschap_nt_hash.Goals as goal

room : (password hash : List ℕ) → hash_arguments password hash ≡ true → length hash ≡ 16
unfolding hash_arguments
room password hash e =
    eqb-true (length hash) 16 (both (is_encoded_password password) (sized 16 hash) e).1

pub returns-then-not-are_hash_arguments : goal.returns-then-not-are_hash_arguments
returns-then-not-are_hash_arguments c =
    refused_argument (sym c.are_hash_arguments.ensures ∙ c.if-not-are_hash_arguments.true)

pub returns : goal.returns
returns c =
    let a = c.args in
    let valid = sym c.are_hash_arguments.ensures ∙ c.if-not-are_hash_arguments.false in
    let hashed = c.nt_hash.ensures ∙ ap nt_hashed c.decode_password.ensures in
    valid_argument valid (room a.password.now a.hash.now valid)
    (fills_as refl (ap told hashed) (ap (octets_or_zeros 16) hashed) c.fill_answer.ensures)
